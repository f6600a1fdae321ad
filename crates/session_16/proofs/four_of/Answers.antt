use Rattle.session_16.proofs.four_of.Goals as goal

pub returns : goal.returns
returns c = simp c.row_of-row.ensures
