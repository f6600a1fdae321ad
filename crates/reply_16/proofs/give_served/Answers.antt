use Rattle.device_16.specs.Model.{worded}
use Rattle.reply_16.proofs.Giving.{serves-given, serves-refused}
use Rattle.reply_16.proofs.give_served.Goals as goal

pub returns-in-Ok : goal.returns-in-Ok
returns-in-Ok c = serves-given (worded c.args.r) c.args.place c.in-Ok.ensures c.eight.ensures c.give.ensures

pub returns-in-Err : goal.returns-in-Err
returns-in-Err c = serves-refused (worded c.args.r) c.args.place c.in-Err.ensures c.reply_with.ensures
