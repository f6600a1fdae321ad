use borrow.Author.Tests.{eq-eqb, ne_eqb}
use mathlib.Core.Path.{sym}
use Rattle.places.specs.Actions.{own_place}
use Rattle.places_16.proofs.own_place.Goals as goal

pub returns-then-nexus-ne-LOCAL : goal.returns-then-nexus-ne-LOCAL
unfolding own_place
returns-then-nexus-ne-LOCAL c = simp (sym c.nexus_at-nexus.ensures, ne_eqb _ _ c.if-nexus-ne-LOCAL.true)

pub returns : goal.returns
unfolding own_place
returns c = simp (sym c.nexus_at-nexus.ensures, eq-eqb _ _ c.if-nexus-ne-LOCAL.false, c.owned_place.ensures)
