use Prim.Native.Nat.{◌-◌}
use Rattle.arrays.proofs.Loops.{Ran}
use Rattle.device_16.specs.Model.{state}
use Rattle.sizes_16.specs.Sizes.{place_count}
use Rattle.places.specs.Actions.{released_by, release_step}
use Rattle.places_16.proofs.release_by.Given as goal

abbrev pub invariant-loop-place : goal.invariant-loop-place
invariant-loop-place l = Ran (release_step (released_by l.event)) place_count (state l.initial.out) l.place (state l.out)

abbrev pub decreases-loop-place : goal.decreases-loop-place
decreases-loop-place l = place_count - l.place
