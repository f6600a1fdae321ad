use borrow.Author.Rules.{rules}
use Prim.Native.Nat.{◌≤◌}
use mathlib.Core.Path.{refl}
use lib.ListN.{length}
use Rattle.device_16.specs.Model.{worded}
use Rattle.command.specs.Requests.{lent_most, lent_size}
use Rattle.command.specs.Replies.{obeyed}
use Rattle.command.specs.declared.Order.TheVariants.{Unknown, Ask, Batch, Serves, ReadStatus, TakeRecord, GiveRecord}
use Rattle.reply_16.specs.Giving.{reply_most}
use Rattle.reply_16.proofs.Giving.{kept}
use Rattle.reply_16.proofs.Tools.{taken_none}
use Rattle.stream_16.proofs.Obeying.{few-known, followed}
use Rattle.stream_16.proofs.follow.Goals as goal

pub ask-requires : goal.ask-requires
unfolding obeyed
ask-requires c =
    let a = c.args in
    let long : reply_most ≤ length a.buffer.now = search rules in
    let few : lent_size a.order ≤ lent_most = search rules in
    (long, few-known c.in-Ask.is few)

pub give_batch-requires : goal.give_batch-requires
unfolding obeyed
give_batch-requires c =
    let a = c.args in
    let long : reply_most ≤ length a.buffer.now = search rules in
    let few : lent_size a.order ≤ lent_most = search rules in
    (long, few-known c.in-Batch.is few)

pub returns-in-Unknown : goal.returns-in-Unknown
unfolding obeyed
returns-in-Unknown c =
    let matched = c in
    let a = matched.args in
    followed (worded a.r) a.page.now a.buffer.now {known = Unknown} matched.in-Unknown.is
    (kept _ _ _ refl c.unknown.ensures)

pub returns-in-Ask : goal.returns-in-Ask
unfolding obeyed
returns-in-Ask c =
    let matched = c in
    let a = matched.args in
    followed (worded a.r) a.page.now a.buffer.now {known = Ask _ _} matched.in-Ask.is
    c.ask.ensures

pub returns-in-Batch : goal.returns-in-Batch
unfolding obeyed
returns-in-Batch c =
    let matched = c in
    let a = matched.args in
    followed (worded a.r) a.page.now a.buffer.now {known = Batch _} matched.in-Batch.is
    c.give_batch.ensures

pub returns-in-Serves : goal.returns-in-Serves
unfolding obeyed
returns-in-Serves c =
    let matched = c in
    let a = matched.args in
    followed (worded a.r) a.page.now a.buffer.now {known = Serves _} matched.in-Serves.is
    c.give_served.ensures

pub returns-in-ReadStatus : goal.returns-in-ReadStatus
unfolding obeyed
returns-in-ReadStatus c =
    let matched = c in
    let a = matched.args in
    followed (worded a.r) a.page.now a.buffer.now {known = ReadStatus} matched.in-ReadStatus.is
    c.give_status.ensures

pub returns-in-TakeRecord : goal.returns-in-TakeRecord
unfolding obeyed
returns-in-TakeRecord c =
    let matched = c in
    let a = matched.args in
    followed (worded a.r) a.page.now a.buffer.now {known = TakeRecord} matched.in-TakeRecord.is
    (kept _ _ _ (taken_none (worded a.r) a.page.now) c.take_record.ensures)

pub returns-in-GiveRecord : goal.returns-in-GiveRecord
unfolding obeyed
returns-in-GiveRecord c =
    let matched = c in
    let a = matched.args in
    followed (worded a.r) a.page.now a.buffer.now {known = GiveRecord} matched.in-GiveRecord.is
    c.give_record.ensures
