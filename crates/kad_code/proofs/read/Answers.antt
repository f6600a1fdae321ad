use Rattle.std.specs.Prelude.{None}
use Rattle.kad.specs.Kad.{no_kads}
use Rattle.kad.proofs.Reading.{reading-le}
use Rattle.kad_code.proofs.read.Goals as goal

pub returns : goal.returns
returns c =
    let e = c.read_from.ensures in
    (e, rw e (reading-le c.args.list.now None no_kads))
