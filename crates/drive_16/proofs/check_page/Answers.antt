use Rattle.device.proofs.Selecting.{found}
use Rattle.device_16.specs.Model.{state}
use Rattle.drive_16.proofs.check_page.Goals as goal

pub returns : goal.returns
returns c =
    let a = c.args in
    let nexus = c.nexus_at-nexus.ensures in
    simp (c.check.ensures, found (state a.d) a.n _ _ nexus c.place_of-place.ensures.0, nexus)
