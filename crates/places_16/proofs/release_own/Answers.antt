use mathlib.Core.Path.{sym, ◌∙◌}
use Rattle.places.specs.Actions.{acts}
use Rattle.places_16.proofs.release_own.Goals as goal

pub returns-in-Some : goal.returns-in-Some
unfolding acts
returns-in-Some c = simp (c.release.ensures, sym c.own_place.ensures ∙ c.in-Some.is)

pub returns-in-None : goal.returns-in-None
unfolding acts
returns-in-None c = simp (sym c.own_place.ensures ∙ c.in-None.is)
