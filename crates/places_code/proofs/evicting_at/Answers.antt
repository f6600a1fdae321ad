use Rattle.places_code.proofs.evicting_at.Goals as goal

pub returns-in-Some : goal.returns-in-Some
returns-in-Some c = simp c.in-Some.is
