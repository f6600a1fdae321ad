use Rattle.device_16.specs.Model.{worded}
use Rattle.reply_16.proofs.Giving.{given-as, out-given}
use Rattle.reply_16.proofs.give_out.Goals as goal

pub returns : goal.returns
returns c = let a = c.args in given-as (out-given (worded a.r) a.command a.page.now c.security_out-outcome.ensures) c.point.ensures
