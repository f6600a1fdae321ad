use Rattle.marks_code.proofs.alert.Goals as goal

pub returns : goal.returns
returns c = simp c.alerted.ensures
