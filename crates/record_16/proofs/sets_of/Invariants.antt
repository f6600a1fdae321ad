use Prim.Native.Nat.{◌-◌, ◌+◌, ◌*◌}
use lib.ListN.{drop}
use Rattle.arrays.proofs.Loops.{Rewritten}
use Rattle.sizes_16.specs.Sizes.{place_count}
use Rattle.record.specs.Bytes.{counter_size, set_size}
use Rattle.record.specs.Reading.{set_read}
use Rattle.record_16.proofs.sets_of.Given as goal

abbrev pub invariant-loop-place : goal.invariant-loop-place
invariant-loop-place l = Rewritten (λ k old. set_read (drop (counter_size + k * set_size) l.bytes)) place_count l.initial.out l.place l.out

abbrev pub decreases-loop-place : goal.decreases-loop-place
decreases-loop-place l = place_count - l.place
