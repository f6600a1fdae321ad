use Rattle.places_code.proofs.free.Goals as goal

pub returns-then-held : goal.returns-then-held
returns-then-held c = simp c.if-held.true

pub returns : goal.returns
returns c = simp c.if-held.false
