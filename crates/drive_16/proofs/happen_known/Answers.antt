use borrow.Author.Rules.{rules}
use mathlib.Core.Path.{◌≡◌, ◌∙◌}
use lib.ListN.{length}
use Rattle.arrays.proofs.Laws.{sized-field}
use Rattle.sizes_16.specs.Sizes.{nexus_count, place_count}
use Rattle.device_16.specs.Model.{worded}
use Rattle.drive_16.proofs.Known.{event-refused, event-none, event-some}
use Rattle.drive_16.proofs.happen_known.Goals as goal

pub returns-in-Err : goal.returns-in-Err
returns-in-Err c =
    let a = c.args in
    let n : length a.r.device.nexuses ≡ nexus_count = search (rules, sized-field) in
    let p : length a.r.device.sets ≡ place_count = search (rules, sized-field) in
    c.unchanged.ensures ∙ event-refused (worded a.r) a.event nexus_count place_count n p _ c.in-Err.ensures

pub returns-then-none_due : goal.returns-then-none_due
returns-then-none_due c =
    let a = c.args in
    let n : length a.r.device.nexuses ≡ nexus_count = search (rules, sized-field) in
    let p : length a.r.device.sets ≡ place_count = search (rules, sized-field) in
    c.unchanged-then-none_due.ensures ∙ event-none (worded a.r) a.event nexus_count place_count n p _ c.in_default.ensures c.none_due.ensures c.if-none_due.true

pub returns : goal.returns
returns c =
    let a = c.args in
    let n : length a.r.device.nexuses ≡ nexus_count = search (rules, sized-field) in
    let p : length a.r.device.sets ≡ place_count = search (rules, sized-field) in
    rw c.release.ensures (event-some (worded a.r) a.event nexus_count place_count n p _ c.in_default.ensures c.none_due.ensures c.if-none_due.false)
