use Rattle.places.specs.Actions.{supplemented}
use Rattle.places_16.proofs.supplement.Goals as goal

pub returns : goal.returns
unfolding supplemented
returns c = simp (c.append.ensures, c.selected-place.ensures.0)
