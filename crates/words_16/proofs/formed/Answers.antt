use borrow.Author.Rules.{rules}
use Prim.Native.Nat.{◌-◌, ◌^◌}
use mathlib.Core.Path.{◌≡◌, sym, ◌∙◌}
use mathlib.Core.Bool.{◌&&◌}
use native.Mathlib.Omega.{arith}
use lib.ListN.{length}
use Rattle.arrays.specs.Arrays.{each, all}
use Rattle.arrays.proofs.Laws.{sized-field}
use Rattle.arrays.proofs.Loops.{check-starts, check-passes, check-fails, check-ends}
use Rattle.sizes_16.specs.Sizes.{nexus_count, place_count}
use Rattle.device.specs.WellFormed.{empty_is_zero, used_fits}
use Rattle.device.specs.Words.{formed}
use Rattle.device.proofs.WellFormed.{stops_first, stops_second, ends-third}
use Rattle.device_16.specs.Model.{worded}
use Rattle.device_16.specs.declared.Record.{Record}
use Rattle.words.specs.Fitting.{selections_fit}
use Rattle.words.proofs.Fitting.{formed-tested}
use Rattle.words_16.proofs.formed.Goals as goal

-- the tests in a row are the definition
tested : (r : Record) → length r.device.nexuses ≡ nexus_count → length r.device.sets ≡ place_count → length r.words ≡ place_count
    → (all empty_is_zero r.device.sets && each (used_fits nexus_count) r.device.sets && selections_fit (2 ^ nexus_count - 1) r.device.sets r.device.nexuses r.words) ≡ formed (worded r)
tested r n p w =
    let t = formed-tested (worded r) (omega (arith, n)) (omega (arith, n)) (omega (arith, p)) (w ∙ sym p) in
    sym (rw n at t)

pub loop-set-init : goal.loop-set-init
loop-set-init c = check-starts (search (rules, sized-field))

pub returns-then-not-empty_is_zero : goal.returns-then-not-empty_is_zero
returns-then-not-empty_is_zero c =
    let r = c.args.r in
    stops_first (all empty_is_zero r.device.sets) _ _ (check-fails c.loop-set.invariant (search rules) _ c.empty_is_zero.ensures (c.if-not-empty_is_zero.true)) ∙ tested r (search (rules, sized-field)) (search (rules, sized-field)) (search (rules, sized-field))

pub loop-set-preserved : goal.loop-set-preserved
loop-set-preserved c = check-passes c.loop-set.invariant (search rules) _ c.empty_is_zero.ensures (c.if-not-empty_is_zero.false)

pub loop-place-init : goal.loop-place-init
loop-place-init c = (check-ends c.loop-set.invariant (search rules), check-starts (search (rules, sized-field)))

pub returns-then-not-used_fits : goal.returns-then-not-used_fits
returns-then-not-used_fits c =
    let inv = c.loop-place.invariant in
    let r = c.args.r in
    stops_second (all empty_is_zero r.device.sets) _ _ inv.0 (check-fails inv.1 (search rules) _ c.used_fits.ensures (c.if-not-used_fits.true)) ∙ tested r (search (rules, sized-field)) (search (rules, sized-field)) (search (rules, sized-field))

pub loop-place-preserved : goal.loop-place-preserved
loop-place-preserved c =
    let inv = c.loop-place.invariant in
    (inv.0, check-passes inv.1 (search rules) _ c.used_fits.ensures (c.if-not-used_fits.false))

pub returns : goal.returns
returns c =
    let inv = c.loop-place.invariant in
    let r = c.args.r in
    ends-third (all empty_is_zero r.device.sets) _ _ _ inv.0 (check-ends inv.1 (search rules)) c.selections_fit.ensures ∙ tested r (search (rules, sized-field)) (search (rules, sized-field)) (search (rules, sized-field))
