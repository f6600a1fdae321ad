use Rattle.places_16.proofs.establish.Goals as goal

pub returns : goal.returns
returns c = simp (c.act.ensures, c.established.ensures)
