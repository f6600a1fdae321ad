use Rattle.wire_code.proofs.is_length_wrong.Goals as goal

pub returns : goal.returns
returns c = simp c.word_at.ensures.0
