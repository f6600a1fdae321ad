use Rattle.places_code.proofs.nexus_after.Goals as goal

pub returns : goal.returns
returns c = simp (c.number_if.ensures, c.number_if-2.ensures)
