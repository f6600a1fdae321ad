use Prim.Native.Nat.{◌-◌, ◌+◌, ◌*◌}
use lib.ListN.{drop}
use Rattle.arrays.proofs.Loops.{Rewritten}
use Rattle.sizes_16.specs.Sizes.{place_count, nexus_count}
use Rattle.record.specs.Bytes.{nexuses_from, nexus_size}
use Rattle.record.specs.Reading.{nexus_read}
use Rattle.record_16.proofs.nexuses_of.Given as goal

abbrev pub invariant-loop-n : goal.invariant-loop-n
invariant-loop-n l = Rewritten (λ k old. nexus_read (drop (nexuses_from place_count + k * nexus_size) l.bytes)) nexus_count l.initial.out l.n l.out

abbrev pub decreases-loop-n : goal.decreases-loop-n
decreases-loop-n l = nexus_count - l.n
