use mathlib.Core.Path.{◌≡◌, sym, ap, ◌∙◌}
use Prim.Native.Nat.{◌≤◌}
use native.Mathlib.Omega.{arith}
use lib.ListN.{length, length-drop, drop}
use Rattle.std.specs.Iterator.Adapters.{enumerate_source, enumerate_count}
use Rattle.std.specs.Slice.Iter.{chunks_exact_rest, chunks_exact_size}
use Rattle.recording.specs.Entries.{sound, entry_of, entries, sound_run}
use Rattle.recording.proofs.Entries.{event_comes, run_more, run-last, run_none}
use Rattle.recording_code.proofs.sound_run.Goals as goal
use Rattle.recording_code.proofs.sound_run.Goals.{After-is_sound}

pub loop-i-init : goal.loop-i-init
loop-i-init c =
    let gives = c.into_iter-i-iterator.ensures.into_iter_gives in
    let source = ap enumerate_source gives ∙ c.enumerate-i-items.ensures.source in
    let count = ap enumerate_count gives ∙ c.enumerate-i-items.ensures.count in
    let rest = ap chunks_exact_rest source ∙ c.chunks_exact.ensures.rest in (
      ap chunks_exact_size source ∙ c.chunks_exact.ensures.size,
      omega (arith, count, ap (λ r. sound_run c.args.page_count (entries r)) rest),
      omega (arith, count, ap length rest),
    )

-- the event that came is the first of those that were left
comes : (c : After-is_sound) → (8 ≤ length (chunks_exact_rest (enumerate_source c.loop-i.i-iterator))) × (c.is_sound.result ≡ sound c.args.page_count (entry_of (chunks_exact_rest (enumerate_source c.loop-i.i-iterator))))
    × (chunks_exact_rest (enumerate_source c.next.new.self) ≡ drop 8 (chunks_exact_rest (enumerate_source c.loop-i.i-iterator)))
comes c =
    let h = c.in-Some.ensures.steps in
    let e = event_comes _ c.in-Some.event.now _ h.0.1.0 (h.0.1.1 ∙ c.loop-i.invariant.0) in
    (e.0, c.is_sound.ensures ∙ ap (sound c.args.page_count) (c.entry_of.ensures ∙ e.1), e.2)

pub returns-then-not-is_sound : goal.returns-then-not-is_sound
returns-then-not-is_sound c =
    let h = c.in-Some.ensures.steps in
    let e = comes (goal.at.returns-then-not-is_sound c).After-is_sound in
    omega (arith, run-last c.args.page_count (chunks_exact_rest (enumerate_source c.loop-i.i-iterator)) e.0 (sym e.1 ∙ c.if-not-is_sound.true), c.loop-i.invariant.1, h.1)

pub loop-i-preserved : goal.loop-i-preserved
loop-i-preserved c =
    let h = c.in-Some.ensures.steps in
    let rest = chunks_exact_rest (enumerate_source c.loop-i.i-iterator) in
    let e = comes (goal.at.loop-i-preserved c).After-is_sound in
    let f = run_more c.args.page_count rest e.0 (sym e.1 ∙ c.if-not-is_sound.false) in
    (h.0.0 ∙ c.loop-i.invariant.0, omega (arith, f, c.loop-i.invariant.1, h.2, ap (λ r. sound_run c.args.page_count (entries r)) e.2), omega (arith, c.loop-i.invariant.2, h.2, ap length e.2, length-drop 8 rest, e.0))

pub returns : goal.returns
returns c =
    let h = c.in-None.ensures.steps in
    let rest = chunks_exact_rest (enumerate_source c.loop-i.i-iterator) in
    omega (arith, run_none c.args.page_count rest (omega (arith, h.0.1.0, c.loop-i.invariant.0)), c.loop-i.invariant.1, c.loop-i.invariant.2, h.0.1.0)
