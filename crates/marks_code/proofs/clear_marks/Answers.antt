use native.Mathlib.Omega.{arith}
use mathlib.Core.Path.{refl}
use Rattle.arrays.proofs.Loops.{rewrite-starts, rewrite-more, map-ends}
use Rattle.device.specs.Record.{new_nexus}
use Rattle.marks_code.proofs.clear_marks.Goals as goal

pub loop-n-init : goal.loop-n-init
loop-n-init c = rewrite-starts refl

pub loop-n-preserved : goal.loop-n-preserved
loop-n-preserved c = rewrite-more c.loop-n.invariant (omega arith) new_nexus c.unmarked.ensures

pub returns : goal.returns
returns c = map-ends c.loop-n.invariant (omega arith)
