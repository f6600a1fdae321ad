use borrow.Author.Rules.{rules}
use Rattle.kad.specs.Kad.{Sized}
use Rattle.kad.proofs.Writing.{stored}
use Rattle.kad_code.proofs.write.Goals as goal

pub returns : goal.returns
returns c =
    let sized : Sized c.args.kads = (search rules, search rules) in
    let first = c.put_descriptor-next.ensures in
    let second = c.put_descriptor-length.ensures in
    stored c.args.kads sized c.min-u_length.ensures c.min-a_length.ensures first.0 first.1 second.0 second.1
