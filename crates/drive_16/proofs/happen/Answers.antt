use borrow.Author.Rules.{rules}
use mathlib.Core.Path.{◌≡◌, refl, sym, ◌∙◌}
use native.Mathlib.Omega.{arith}
use lib.ListN.{length}
use Rattle.arrays.proofs.Laws.{sized-field}
use Rattle.sizes_16.specs.Sizes.{nexus_count, place_count}
use Rattle.device_16.specs.Model.{worded}
use Rattle.drive.specs.Calls.{happens}
use Rattle.drive_16.proofs.Known.{known-due, out-unformed, event-refused, event-none, event-some}
use Rattle.drive_16.proofs.happen.Goals as goal

pub returns-then-not-formed : goal.returns-then-not-formed
returns-then-not-formed c =
    let a = c.args in
    let p : length a.r.device.sets ≡ place_count = search (rules, sized-field) in
    c.unchanged.ensures ∙ out-unformed (worded a.r) (happens a.event) (omega (arith, p)) refl refl (sym c.formed.ensures ∙ c.if-not-formed.true)

pub returns-in-Err : goal.returns-in-Err
returns-in-Err c =
    let a = c.args in
    let n : length a.r.device.nexuses ≡ nexus_count = search (rules, sized-field) in
    let p : length a.r.device.sets ≡ place_count = search (rules, sized-field) in
    let due = known-due (worded a.r) (happens a.event) (omega (arith, p)) (sym c.formed.ensures ∙ c.if-not-formed.false) in
    c.unchanged-in-Err.ensures ∙ event-refused (worded a.r) a.event nexus_count place_count n p _ c.in-Err.ensures ∙ due

pub returns-then-none_due : goal.returns-then-none_due
returns-then-none_due c =
    let a = c.args in
    let n : length a.r.device.nexuses ≡ nexus_count = search (rules, sized-field) in
    let p : length a.r.device.sets ≡ place_count = search (rules, sized-field) in
    let due = known-due (worded a.r) (happens a.event) (omega (arith, p)) (sym c.formed.ensures ∙ c.if-not-formed.false) in
    c.unchanged-then-none_due.ensures ∙ event-none (worded a.r) a.event nexus_count place_count n p _ c.in_default.ensures c.none_due.ensures c.if-none_due.true ∙ due

pub returns : goal.returns
returns c =
    let a = c.args in
    let n : length a.r.device.nexuses ≡ nexus_count = search (rules, sized-field) in
    let p : length a.r.device.sets ≡ place_count = search (rules, sized-field) in
    let due = known-due (worded a.r) (happens a.event) (omega (arith, p)) (sym c.formed.ensures ∙ c.if-not-formed.false) in
    rw c.release.ensures (event-some (worded a.r) a.event nexus_count place_count n p _ c.in_default.ensures c.none_due.ensures c.if-none_due.false ∙ due)
