use borrow.Author.Rules.{rules}
use Prim.Native.Nat.{◌+◌, ◌-◌, ◌≤◌}
use mathlib.Core.Path.{◌≡◌, sym, ◌∙◌}
use native.Mathlib.Omega.{arith}
use lib.ListN.{length}
use Rattle.device_16.specs.Model.{worded}
use Rattle.command.specs.Requests.{lent_most}
use Rattle.reply_16.specs.Giving.{reply_most}
use Rattle.stream_16.specs.Stream.{batch_from, part_from}
use Rattle.stream_16.proofs.Lending.{batch-unknown, batch-given}
use Rattle.stream_16.proofs.give_batch.Goals as goal

pub returns-then-not-holds_events : goal.returns-then-not-holds_events
returns-then-not-holds_events c =
    let tested = c in
    let a = tested.args in
    batch-unknown (worded a.r) a.bytes.now a.buffer.now (part_from batch_from a.size a.buffer.now) _ (sym tested.holds_events.ensures ∙ c.if-not-holds_events.true) c.unknown.ensures

pub returns : goal.returns
returns c =
    let made = c in
    let pages = made in
    let passed = pages in
    let tested = passed in
    let a = tested.args in
    let long : reply_most ≤ length a.buffer.now = search rules in
    let small : a.size ≤ lent_most = search rules in
    let same : batch_from + a.size - batch_from ≡ a.size = omega arith in
    batch-given (worded a.r) a.bytes.now a.size (batch_from + a.size - batch_from) a.buffer.now long small same (sym tested.holds_events.ensures ∙ passed.if-not-holds_events.false)
    pages.batch_events.ensures pages.batch_pages.ensures made.batch-ran.ensures c.verdict_number.ensures
