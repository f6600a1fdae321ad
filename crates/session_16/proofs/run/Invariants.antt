use mathlib.Core.Path.{◌≡◌}
use Rattle.std.specs.Iterator.Adapters.{enumerate_source, enumerate_count}
use Rattle.std.specs.Slice.Iter.{chunks_exact_rest, chunks_exact_size}
use Rattle.device_16.specs.Model.{worded}
use Rattle.session_16.proofs.Replaying.{Replaying}
use Rattle.session_16.proofs.run.Given as goal

abbrev pub invariant-loop-i : goal.invariant-loop-i
invariant-loop-i l =
    let left = enumerate_source l.i-iterator in
    (chunks_exact_size left ≡ 8) × Replaying l.pages l.events (worded l.initial.after) l.initial.out (worded l.after) l.out l.formed (chunks_exact_rest left) (enumerate_count l.i-iterator)
