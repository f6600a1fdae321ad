use Rattle.device_16.proofs.selected_set.Goals as goal

pub returns : goal.returns
returns c = simp c.selected-place.ensures.0
