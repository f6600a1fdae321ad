use Rattle.sizes_16.specs.Sizes.{place_count, nexus_count}
use Rattle.record.specs.Bytes.{nexuses_from, nexus_size, nexus_bytes}
use Rattle.wire.proofs.Parts.{Storing}
use Rattle.record_16.proofs.put_nexuses.Given as goal

abbrev pub invariant-loop-n : goal.invariant-loop-n
invariant-loop-n l = Storing nexus_bytes nexus_size nexus_count l.nexus-items (nexuses_from place_count) l.initial.buffer l.n l.buffer
