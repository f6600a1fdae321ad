use borrow.Author.Rules.{rules}
use Prim.Native.Nat.{◌*◌}
use mathlib.Core.Path.{refl, ap, ◌∙◌}
use native.Mathlib.Omega.{arith}
use lib.Seq.{sets}
use Rattle.std.specs.Iterator.Adapters.{enumerate_source, enumerate_count}
use Rattle.std.specs.Slice.Iter.{chunks_exact_rest, chunks_exact_size}
use Rattle.arrays.proofs.Laws.{sized-field}
use Rattle.device_16.specs.Model.{state, worded, record_of}
use Rattle.session.specs.Answers.{four_of}
use Rattle.recording.proofs.Entries.{event_comes}
use Rattle.session_16.proofs.Playing.{Known, call-made, event-found, quiet_is, made-is}
use Rattle.session_16.proofs.Replaying.{replay-starts, quiet-stored, call-stored, replay-ends}
use Rattle.session_16.proofs.run.Goals as goal

pub loop-i-init : goal.loop-i-init
loop-i-init c =
    let gives = c.into_iter-i-iterator.ensures.into_iter_gives in
    let source = ap enumerate_source gives ∙ c.enumerate-i-items.ensures.source in
    let count = ap enumerate_count gives ∙ c.enumerate-i-items.ensures.count in
    let rest = ap chunks_exact_rest source ∙ c.chunks_exact.ensures.rest in
    let knows : Known (worded c.args.r) c.formed-formed.result = record { known = c.formed-formed.ensures; nexuses = search (rules, sized-field); places = search (rules, sized-field) } in
    (ap chunks_exact_size source ∙ c.chunks_exact.ensures.size, rw (rest, count) (replay-starts knows))

pub overflow_mul-i : goal.overflow_mul-i
overflow_mul-i c = let h = c.in-Some.ensures.steps in omega (arith, c.loop-i.invariant.1.counted, h.1, c.well_formed)

pub overflow_mul-i-else-quiet : goal.overflow_mul-i-else-quiet
overflow_mul-i-else-quiet c = let h = c.in-Some.ensures.steps in omega (arith, c.loop-i.invariant.1.counted, h.1, c.well_formed)

pub loop-i-preserved-then-quiet : goal.loop-i-preserved-then-quiet
loop-i-preserved-then-quiet c =
    let l = c.loop-i in
    let h = c.in-Some.ensures.steps in
    let held = l.invariant.1 in
    let pages = c.args.pages.now in
    let rest = chunks_exact_rest (enumerate_source l.i-iterator) in
    let comes = event_comes rest c.in-Some.event.now _ h.0.1.0 (h.0.1.1 ∙ l.invariant.0) in
    let e = c.entry_of-e.ensures ∙ comes.1 in
    let found = event-found l.formed (state l.after.device) rest held.knows.nexuses e c.asked_of-asked.ensures c.sender_number.ensures c.look-sight.ensures c.quietly-quiet.ensures in
    let stored = c.store.ensures ∙ ap (λ k. sets l.out (4 * k) (four_of c.quietly-quiet.result.answer)) h.1 in
    (h.0.0 ∙ l.invariant.0, rw (comes.2, h.2) (quiet-stored held comes.0 (quiet_is held.knows pages rest found c.if-quiet.true) refl stored refl))

pub loop-i-preserved : goal.loop-i-preserved
loop-i-preserved c =
    let l = c.loop-i in
    let h = c.in-Some.ensures.steps in
    let held = l.invariant.1 in
    let pages = c.args.pages.now in
    let rest = chunks_exact_rest (enumerate_source l.i-iterator) in
    let comes = event_comes rest c.in-Some.event.now _ h.0.1.0 (h.0.1.1 ∙ l.invariant.0) in
    let e = c.entry_of-e.ensures ∙ comes.1 in
    let it = call-made pages rest e c.asked_of-asked.ensures c.page_of.ensures in
    let stored = c.store-else-quiet.ensures ∙ ap (λ k. sets l.out (4 * k) (four_of c.perform-outcome.result.answer)) h.1 in (
      h.0.0 ∙ l.invariant.0,
      rw (comes.2, h.2)
          (call-stored held comes.0 c.asked_of-asked.result c.page_of.result.now it (made-is held.knows it c.perform-outcome.ensures) c.is_power_on-formed.ensures refl stored refl),
    )

pub shape_of-out : goal.shape_of-out
shape_of-out c = c.loop-i.invariant.1.kept

pub returns : goal.returns
returns c =
    let h = c.in-None.ensures.steps in
    let e = replay-ends c.loop-i.invariant.1 (omega (arith, h.0.1.0, c.loop-i.invariant.0)) in
    (ap record_of e.0, e.1)
