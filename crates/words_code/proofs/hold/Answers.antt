use Rattle.words_code.proofs.hold.Goals as goal

pub returns : goal.returns
returns c = simp c.owner_bit-owner.ensures
