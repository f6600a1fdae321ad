use Rattle.sizes_16.specs.Sizes.{place_count}
use Rattle.record.specs.Bytes.{counter_size, set_size, set_bytes}
use Rattle.wire.proofs.Parts.{Storing}
use Rattle.record_16.proofs.put_sets.Given as goal

abbrev pub invariant-loop-place : goal.invariant-loop-place
invariant-loop-place l = Storing set_bytes set_size place_count l.set-items counter_size l.initial.buffer l.place l.buffer
