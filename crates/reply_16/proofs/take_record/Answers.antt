use borrow.Author.Rules.{rules}
use Rattle.arrays.proofs.Laws.{sized-field}
use Rattle.device_16.specs.Model.{worded}
use Rattle.reply_16.proofs.Tools.{take-refused, take_done}
use Rattle.reply_16.proofs.take_record.Goals as goal

pub returns-in-Ok : goal.returns-in-Ok
returns-in-Ok c =
    take_done (worded c.args.r) c.args.bytes.now (search (rules, sized-field)) (search (rules, sized-field)) c.load.ensures _ c.in-Ok.taken c.in-Ok.is c.reply_with.ensures

pub returns-in-Err : goal.returns-in-Err
returns-in-Err c =
    take-refused (worded c.args.r) c.args.bytes.now (search (rules, sized-field)) (search (rules, sized-field)) c.load.ensures _ _ c.in-Err.is c.reply_with-in-Err.ensures
