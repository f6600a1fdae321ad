use Prim.Native.Nat.{◌-◌}
use lib.ListN.{get_or}
use Rattle.arrays.proofs.Loops.{Rewritten}
use Rattle.sizes_16.specs.Sizes.{place_count}
use Rattle.device.specs.Record.{no_set}
use Rattle.device_16.proofs.numbers.Given as goal

abbrev pub invariant-loop-place : goal.invariant-loop-place
invariant-loop-place l = Rewritten (λ k zero. (get_or l.sets k no_set).number) place_count l.initial.out l.place l.out

abbrev pub decreases-loop-place : goal.decreases-loop-place
decreases-loop-place l = place_count - l.place
