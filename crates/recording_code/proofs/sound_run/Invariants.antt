-- What is counted, and what is still to be counted, is what is promised.
use Prim.Native.Nat.{◌+◌, ◌*◌}
use mathlib.Core.Path.{◌≡◌}
use lib.ListN.{length}
use Rattle.std.specs.Iterator.Adapters.{enumerate_source, enumerate_count}
use Rattle.std.specs.Slice.Iter.{chunks_exact_rest, chunks_exact_size}
use Rattle.recording.specs.Entries.{entries, sound_run}
use Rattle.recording_code.proofs.sound_run.Given as goal

abbrev pub invariant-loop-i : goal.invariant-loop-i
invariant-loop-i l =
    let rest = chunks_exact_rest (enumerate_source l.i-iterator) in
    let i = enumerate_count l.i-iterator in
    (chunks_exact_size (enumerate_source l.i-iterator) ≡ 8) × (i + sound_run l.page_count (entries rest) ≡ sound_run l.page_count (entries l.events)) × (8 * i + length rest ≡ length l.events)
