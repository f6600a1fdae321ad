use Rattle.why_16.proofs.is_renewed.Goals as goal

pub returns : goal.returns
returns c = simp (c.number_at-2.ensures, c.number_at.ensures)
