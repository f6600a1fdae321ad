use Rattle.drive_16.proofs.power_on.Goals as goal

pub returns : goal.returns
returns c = simp c.power_on.ensures
