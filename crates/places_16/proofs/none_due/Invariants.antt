use Rattle.arrays.proofs.Loops.{Checked}
use Rattle.sizes_16.specs.Sizes.{place_count}
use Rattle.places.specs.Actions.{spared, released_by}
use Rattle.places_16.proofs.none_due.Given as goal

abbrev pub invariant-loop-place : goal.invariant-loop-place
invariant-loop-place l = Checked (spared (released_by l.event)) place_count l.set-items l.place l.none
