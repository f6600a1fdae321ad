use Rattle.places_16.proofs.room_asked.Goals as goal

pub returns-then-needs_place : goal.returns-then-needs_place
returns-then-needs_place c = simp (← c.needs_place.ensures, c.if-needs_place.true, c.room_for.ensures)

pub returns : goal.returns
returns c = simp (← c.needs_place.ensures, c.if-needs_place.false)
