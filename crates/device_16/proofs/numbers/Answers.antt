use borrow.Author.Rules.{rules}
use mathlib.Core.Path.{refl}
use Rattle.arrays.proofs.Loops.{rewrite-starts, rewrite-more', rewrite-ends}
use Rattle.device_16.proofs.numbers.Goals as goal

pub loop-place-init : goal.loop-place-init
loop-place-init c = rewrite-starts refl

pub loop-place-preserved : goal.loop-place-preserved
loop-place-preserved c = rewrite-more' c.loop-place.invariant (search rules) 0 refl

pub returns : goal.returns
returns c = rewrite-ends c.loop-place.invariant (search rules)
