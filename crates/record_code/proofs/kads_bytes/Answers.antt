use borrow.Author.Rules.{rules}
use Rattle.kad.specs.Kad.{Sized}
use Rattle.record.proofs.Storing.{kads-stored}
use Rattle.record_code.proofs.kads_bytes.Goals as goal

pub returns : goal.returns
returns c =
    let sized : Sized c.args.kads = (search rules, search rules) in
    kads-stored c.args.kads sized c.put.ensures c.put-2.ensures c.put-3.ensures c.put-4.ensures
