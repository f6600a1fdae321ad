use Rattle.places_code.proofs.is_due.Goals as goal

pub returns : goal.returns
returns c = simp c.is_released.ensures
