use mathlib.Core.Path.{◌≡◌}
use Rattle.std.specs.Slice.Iter.{chunks_exact_rest, chunks_exact_size}
use Rattle.device_16.specs.Model.{worded}
use Rattle.claim_16.proofs.Tallying.{Tallying}
use Rattle.claim_16.proofs.tally.Given as goal

abbrev pub invariant-loop-event : goal.invariant-loop-event
invariant-loop-event l =
    (chunks_exact_size l.event-iterator ≡ 8) × Tallying l.pages l.events (worded l.after) l.rows (chunks_exact_rest l.event-iterator)
