use mathlib.Core.Path.{refl}
use Rattle.arrays.proofs.Loops.{check-starts, check-more, check-ends}
use Rattle.wire_code.proofs.all_zero.Goals as goal

pub loop-byte-init : goal.loop-byte-init
loop-byte-init c = check-starts refl

pub loop-byte-preserved : goal.loop-byte-preserved
loop-byte-preserved c = check-more c.loop-byte.invariant c.loop-byte-test.true 0 refl

pub returns : goal.returns
returns c = check-ends c.loop-byte.invariant c.loop-byte-test.false
