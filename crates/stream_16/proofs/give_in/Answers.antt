use borrow.Author.Rules.{rules}
use Prim.Native.Nat.{◌+◌, ◌-◌, ◌≤◌}
use mathlib.Core.Path.{◌≡◌}
use native.Mathlib.Omega.{arith}
use lib.ListN.{length}
use Rattle.device_16.specs.Model.{worded}
use Rattle.command.specs.Requests.{lent_most}
use Rattle.reply_16.specs.Giving.{in_from, reply_most}
use Rattle.stream_16.proofs.Lending.{in-given}
use Rattle.stream_16.proofs.give_in.Goals as goal

pub returns : goal.returns
returns c =
    let put = c in
    let told = put in
    let lent = told in
    let start = lent in
    let a = start.args in
    let e = lent.security_in-outcome.ensures in
    let long : reply_most ≤ length a.buffer.now = search rules in
    let small : a.size ≤ lent_most = search rules in
    let same : in_from + a.size - in_from ≡ a.size = omega arith in
    in-given (worded a.r) a.command a.size (in_from + a.size - in_from) a.buffer.now long small same e.0 e.1 told.two-full.ensures put.put.ensures c.reply_with.ensures
