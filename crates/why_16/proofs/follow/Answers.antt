use mathlib.Core.Path.{◌≡◌, refl, ap, ap₂, ◌∙◌}
use mathlib.Core.Bool.{true}
use mathlib.Core.List.{List}
use Prim.Native.Nat.{ℕ, ◌≤◌}
use native.Mathlib.Omega.{arith}
use borrow.Author.Tests.{not-false}
use lib.ListN.{length, drop}
use Rattle.std.specs.Iterator.Adapters.{enumerate_source, enumerate_count}
use Rattle.std.specs.Slice.Iter.{chunks_exact_rest, chunks_exact_size}
use Rattle.device.specs.Words.{Worded, with_words}
use Rattle.device_16.specs.Model.{state, worded, record_of}
use Rattle.recording.specs.Entries.{entry_of}
use Rattle.recording.proofs.Entries.{event_comes}
use Rattle.session.proofs.Folds.{adds-ends}
use Rattle.session_16.proofs.Playing.{play-starts, event-found}
use Rattle.calls.specs.Asking.{call_of}
use Rattle.why.specs.Watching.{watched_with}
use Rattle.why.specs.declared.Watch.{Watch}
use Rattle.why_16.proofs.Following.{quiet-followed, call-followed}
use Rattle.why_16.proofs.follow.Goals as goal
use Rattle.why_16.proofs.follow.Goals.{After-quietly-quiet}

pub loop-i-init : goal.loop-i-init
loop-i-init c =
    let gives = c.into_iter-i-iterator.ensures.into_iter_gives in
    let source = ap enumerate_source gives ∙ c.enumerate-i-items.ensures.source in
    let count = ap enumerate_count gives ∙ c.enumerate-i-items.ensures.count in
    let rest = ap chunks_exact_rest source ∙ c.chunks_exact.ensures.rest in
    (ap chunks_exact_size source ∙ c.chunks_exact.ensures.size, rw (rest, count) (play-starts (ap worded c.power_on-after.ensures)))

-- the event that came is the next of those that were left
module _ (c : After-quietly-quiet) where
  abbrev rest : List ℕ
  rest = chunks_exact_rest (enumerate_source c.loop-i.i-iterator)

  comes : (8 ≤ length rest) × (entry_of c.in-Some.event.now ≡ entry_of rest) × (chunks_exact_rest (enumerate_source c.next.new.self) ≡ drop 8 rest)
  comes = let h = c.in-Some.ensures.steps in event_comes rest c.in-Some.event.now _ h.0.1.0 (h.0.1.1 ∙ c.loop-i.invariant.0)

pub loop-i-preserved-then-not-quiet : goal.loop-i-preserved-then-not-quiet
loop-i-preserved-then-not-quiet c =
    let h = c.in-Some.ensures.steps in
    let l = c.loop-i in
    let come = comes (goal.at.loop-i-preserved-then-not-quiet c).After-quietly-quiet in
    let followed = c.follow_call-watch.ensures ∙ ap (λ k. watched_with c.args.n k (state l.after.device) (call_of c.asked_of-asked.result c.page_of-page.result.now) c.perform-outcome.result.answer (state c.perform-outcome.result.after.device) l.watch) h.1 in (
      h.0.0 ∙ l.invariant.0,
      rw (come.2, h.2) (call-followed c.args.n l.invariant.1 come.0 (c.entry_of-e.ensures ∙ come.1) c.asked_of-asked.ensures c.page_of-page.ensures c.perform-outcome.ensures followed refl),
    )

pub loop-i-preserved : goal.loop-i-preserved
loop-i-preserved c =
    let h = c.in-Some.ensures.steps in
    let l = c.loop-i in
    let at = (goal.at.loop-i-preserved c).After-quietly-quiet in
    let come = comes at in
    let found = event-found true (state l.after.device) (rest at) l.invariant.1.knows.nexuses (c.entry_of-e.ensures ∙ come.1) c.asked_of-asked.ensures c.sender_number.ensures c.look-sight.ensures c.quietly-quiet.ensures in
    (h.0.0 ∙ l.invariant.0, rw (come.2, h.2) (quiet-followed c.args.n l.invariant.1 come.0 found (not-false _ c.if-not-quiet.false) refl refl))

pub returns : goal.returns
returns c =
    let l = c.loop-i.invariant in
    let ends = adds-ends l.1.adds (omega (arith, c.in-None.ensures.steps.0.1.0, l.0)) in
    ap₂ (λ (r : Worded) (w : Watch). record { after = record_of r; watch = w }) (l.1.is ∙ ap with_words ends.1) ends.0
