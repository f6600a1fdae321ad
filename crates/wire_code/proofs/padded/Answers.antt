use mathlib.Core.Path.{◌∙◌}
use lib.ListN.{replicate}
use Rattle.wire.proofs.Stores.{sets-shown}
use Rattle.wire_code.proofs.padded.Goals as goal

pub returns : goal.returns
returns g c = c.put.ensures ∙ sets-shown c.args.part.now (replicate g.row.N 0)
