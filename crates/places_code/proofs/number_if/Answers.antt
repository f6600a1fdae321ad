use Rattle.places_code.proofs.number_if.Goals as goal

pub returns-then-saves : goal.returns-then-saves
returns-then-saves c = simp c.if-saves.true

pub returns-else-saves : goal.returns-else-saves
returns-else-saves c = simp c.if-saves.false
