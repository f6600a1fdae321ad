use Rattle.device_16.specs.Model.{worded}
use Rattle.reply_16.proofs.Giving.{given-as}
use Rattle.reply_16.proofs.Tools.{record-given}
use Rattle.reply_16.proofs.give_record.Goals as goal

pub returns : goal.returns
returns c = given-as (record-given (worded c.args.r) c.record_bytes-bytes.ensures) c.give.ensures
