use Rattle.why_16.proofs.touch_by.Goals as goal

pub returns : goal.returns
returns c = simp c.deed_at.ensures
