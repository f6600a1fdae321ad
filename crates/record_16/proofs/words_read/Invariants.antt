use Prim.Native.Nat.{◌-◌, ◌+◌, ◌*◌}
use lib.ListN.{drop}
use Rattle.arrays.proofs.Loops.{Rewritten}
use Rattle.sizes_16.specs.Sizes.{place_count, nexus_count}
use Rattle.wire.specs.Numbers.{wide}
use Rattle.record.specs.Bytes.{words_from, word_size}
use Rattle.record_16.proofs.words_read.Given as goal

abbrev pub invariant-loop-place : goal.invariant-loop-place
invariant-loop-place l = Rewritten (λ k old. wide (drop (words_from nexus_count place_count + k * word_size) l.bytes)) place_count l.initial.out l.place l.out

abbrev pub decreases-loop-place : goal.decreases-loop-place
decreases-loop-place l = place_count - l.place
