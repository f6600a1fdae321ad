use Prim.Native.Nat.{◌-◌}
use Rattle.arrays.proofs.Loops.{Rewritten}
use Rattle.sizes_16.specs.Sizes.{nexus_count}
use Rattle.places.specs.Actions.{freed}
use Rattle.places_16.proofs.free_all.Given as goal

abbrev pub invariant-loop-n : goal.invariant-loop-n
invariant-loop-n l = Rewritten (freed (record { counter = 0; sets = l.sets; nexuses = l.initial.out }) l.place) nexus_count l.initial.out l.n l.out

abbrev pub decreases-loop-n : goal.decreases-loop-n
decreases-loop-n l = nexus_count - l.n
