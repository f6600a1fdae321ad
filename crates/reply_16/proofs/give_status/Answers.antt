use borrow.Author.Rules.{rules}
use Prim.Native.Nat.{◌+◌}
use mathlib.Core.Path.{◌≡◌, ap}
use native.Mathlib.Omega.{arith}
use lib.ListN.{length}
use Rattle.device_16.specs.Model.{worded}
use Rattle.reply_16.proofs.Tools.{status-refused, status-given}
use Rattle.reply_16.proofs.give_status.Goals as goal

pub returns-in-Ok : goal.returns-in-Ok
returns-in-Ok c =
    let a = c.args in
    let size : length c.values_head-head.result ≡ 11 = ap length c.values_head-head.ensures in
    let sized : length c.kads_bytes-rest.result ≡ 46 = search rules in
    status-given (worded a.r) a.page.now c.in-Ok.status a.buffer.now 17 57 c.in-Ok.ensures c.values_head-head.ensures c.kads_bytes-rest.ensures
    (ap (λ j. 6 + j) size) (omega arith) (omega arith) c.put.ensures c.put-in-Ok.ensures c.reply_with.ensures

pub returns-in-Err : goal.returns-in-Err
returns-in-Err c = status-refused (worded c.args.r) c.args.page.now c.in-Err.ensures c.point.ensures
