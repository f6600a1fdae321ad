use Rattle.marks.specs.Reset.{cleared}
use Rattle.marks_16.proofs.clear.Goals as goal

pub returns : goal.returns
unfolding cleared
returns c = simp c.cleared.ensures
