use Rattle.drive_16.proofs.unchanged.Goals as goal

pub returns : goal.returns
returns c = simp c.sense_of.ensures
