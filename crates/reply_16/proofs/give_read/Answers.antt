use borrow.Author.Rules.{rules}
use mathlib.Core.Path.{◌≡◌}
use native.Mathlib.Omega.{arith}
use lib.ListN.{length}
use Rattle.arrays.proofs.Laws.{sized-field}
use Rattle.sizes_16.specs.Sizes.{place_count}
use Rattle.device_16.specs.Model.{worded}
use Rattle.reply_16.proofs.Giving.{given-as, read-given}
use Rattle.reply_16.proofs.give_read.Goals as goal

pub returns : goal.returns
returns c =
    let a = c.args in
    let places : length a.r.device.sets ≡ place_count = search (rules, sized-field) in
    given-as (read-given (worded a.r) a.n a.block (omega arith) (omega arith) c.read-outcome.ensures c.read_value_of.ensures) c.give.ensures
