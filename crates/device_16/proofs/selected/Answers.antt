use Rattle.device.specs.Selecting.{selected}
use Rattle.device_16.proofs.selected.Goals as goal

pub returns : goal.returns
unfolding selected
returns c = (rw c.nexus_at.ensures at c.place_of.ensures.0, c.place_of.ensures.1)
