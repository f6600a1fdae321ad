use mathlib.Core.Path.{refl}
use Rattle.wire.proofs.Stores.{sets-shown}
use Rattle.wire_code.proofs.show.Goals as goal

pub returns : goal.returns
returns c = record { tells = refl; holds = rw sets-shown at c.put.ensures }
