use mathlib.Core.Path.{◌≡◌, refl, ap, ◌∙◌}
use mathlib.Core.List.{List}
use Prim.Native.Nat.{ℕ, ◌≤◌}
use mathlib.Core.Bool.{true}
use native.Mathlib.Omega.{arith}
use borrow.Author.Tests.{not-false}
use lib.ListN.{length, drop}
use Rattle.std.specs.Slice.Iter.{chunks_exact_rest, chunks_exact_size}
use Rattle.recording.proofs.Entries.{event_comes}
use Rattle.sizes_16.specs.Sizes.{nexus_count}
use Rattle.device_16.specs.Model.{state, worded}
use Rattle.recording.specs.Entries.{entry_of, calls}
use Rattle.calls_16.specs.Sights.{sighted}
use Rattle.session.proofs.Folds.{adds-ends}
use Rattle.session_16.specs.Sessions.{start}
use Rattle.session_16.proofs.Playing.{event-found}
use Rattle.claim.specs.Rows.{rows_from, row_for}
use Rattle.claim.proofs.Sessions.{notes-rows}
use Rattle.claim.proofs.Noting.{noting-few}
use Rattle.claim_16.proofs.Tallying.{tally-starts, Found, quiet-tallied, call-tallied}
use Rattle.claim_16.proofs.tally.Goals as goal
use Rattle.claim_16.proofs.tally.Goals.{After-note-noted}

pub loop-event-init : goal.loop-event-init
unfolding rows_from row_for
loop-event-init c =
    let source = c.into_iter-event-iterator.ensures.into_iter_gives in
    (ap chunks_exact_size source ∙ c.chunks_exact-event-items.ensures.size, rw (ap chunks_exact_rest source ∙ c.chunks_exact-event-items.ensures.rest) (tally-starts c.args.pages.now c.args.events.now (ap worded c.power_on-after.ensures) refl))

pub note-noted-requires : goal.note-noted-requires
unfolding rows_from row_for
note-noted-requires c =
    let h = c.in-Some.ensures.steps in
    let l = c.loop-event.invariant.1 in
    omega (arith, noting-few l.noting, l.plays.adds.counted, c.well_formed)

-- the event that came is the next of those that were left, and what it is found to be
module _ (c : After-note-noted) where
  abbrev rest : List ℕ
  rest = chunks_exact_rest c.loop-event.event-iterator

  comes : (8 ≤ length rest) × (entry_of c.in-Some.event.now ≡ entry_of rest) × (chunks_exact_rest c.next.new.self ≡ drop 8 rest)
  comes = let h = c.in-Some.ensures.steps in event_comes rest c.in-Some.event.now _ h.1.0 (h.1.1 ∙ c.loop-event.invariant.0)

  found : Found (state c.loop-event.after.device) rest c.entry_of-e.result c.asked_of-asked.result c.look-sight.result c.quietly-quiet.result c.became.result
  found =
      let s = state c.loop-event.after.device in
      let e = c.entry_of-e.ensures ∙ comes.1 in
      let number = c.sender_number.ensures in
      let sight = c.look-sight.ensures in
      let nexuses = c.loop-event.invariant.1.plays.knows.nexuses in
      record {
        entry = e;
        asks = c.asked_of-asked.ensures;
        sighting = sight ∙ ap (sighted s) number;
        finding = event-found true s rest nexuses e c.asked_of-asked.ensures number sight c.quietly-quiet.ensures;
        became = c.became.ensures;
      }

pub loop-event-preserved-then-not-quiet : goal.loop-event-preserved-then-not-quiet
unfolding rows_from row_for
loop-event-preserved-then-not-quiet c =
    let at = (goal.at.loop-event-preserved-then-not-quiet c).After-note-noted in
    let l = c.loop-event.invariant in (
      c.in-Some.ensures.steps.0 ∙ l.0,
      rw (comes at).2 (call-tallied l.1 (found at) (comes at).0 c.note-noted.ensures c.page_of.ensures c.perform-outcome.ensures refl),
    )

pub loop-event-preserved : goal.loop-event-preserved
unfolding rows_from row_for
loop-event-preserved c =
    let at = (goal.at.loop-event-preserved c).After-note-noted in
    let l = c.loop-event.invariant in
    (c.in-Some.ensures.steps.0 ∙ l.0, rw (comes at).2 (quiet-tallied l.1 (found at) (comes at).0 c.note-noted.ensures (not-false _ c.if-not-quiet.false) refl))

pub returns : goal.returns
unfolding rows_from row_for
returns c =
    let a = c.args in
    let h = c.in-None.ensures.steps in
    (adds-ends c.loop-event.invariant.1.plays.adds (omega (arith, h.1.0, c.loop-event.invariant.0))).0 ∙ notes-rows nexus_count start (calls a.events.now a.pages.now)
