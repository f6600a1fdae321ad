use borrow.Author.Rules.{rules}
use mathlib.Core.Path.{◌≡◌}
use native.Mathlib.Omega.{arith}
use lib.ListN.{length}
use Rattle.arrays.proofs.Laws.{sized-field}
use Rattle.sizes_16.specs.Sizes.{place_count}
use Rattle.device_16.specs.Model.{worded}
use Rattle.reply_16.proofs.Giving.{given-as, write-given}
use Rattle.reply_16.proofs.give_write.Goals as goal

pub returns : goal.returns
returns c =
    let a = c.args in
    let places : length a.r.device.sets ≡ place_count = search (rules, sized-field) in
    given-as (write-given (worded a.r) a.n a.supported (omega arith) (omega arith) c.write-outcome.ensures c.value_of.ensures) c.give.ensures
