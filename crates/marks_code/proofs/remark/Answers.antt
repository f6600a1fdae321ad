use Rattle.marks_code.proofs.remark.Goals as goal

pub returns : goal.returns
returns c = simp c.changed.ensures
