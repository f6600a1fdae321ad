use Rattle.why_16.proofs.follow_lock.Goals as goal

pub returns-then-lock : goal.returns-then-lock
returns-then-lock c = simp (c.if-lock.true, c.selected.ensures.0)

pub returns : goal.returns
returns c = simp (c.if-lock.false, c.note_first.ensures, c.is_renewed.ensures, c.touch_by-touch.ensures)
