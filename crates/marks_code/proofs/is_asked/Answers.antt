use Rattle.marks_code.proofs.is_asked.Goals as goal

pub returns : goal.returns
returns c = simp c.is_actor.ensures
