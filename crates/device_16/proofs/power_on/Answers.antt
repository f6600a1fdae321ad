use mathlib.Core.Path.{refl}
use Rattle.device.specs.Record.{power_on}
use Rattle.device_16.proofs.power_on.Goals as goal

pub returns : goal.returns
unfolding power_on
returns c = refl
