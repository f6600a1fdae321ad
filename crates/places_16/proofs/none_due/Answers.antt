use borrow.Author.Rules.{rules}
use mathlib.Core.Path.{ap}
use mathlib.Core.Bool.{not}
use Rattle.arrays.proofs.Loops.{check-starts, check-more, check-ends}
use Rattle.places_16.proofs.none_due.Goals as goal

pub loop-place-init : goal.loop-place-init
loop-place-init c = check-starts (search rules)

pub loop-place-preserved : goal.loop-place-preserved
loop-place-preserved c = check-more c.loop-place.invariant (search rules) _ (ap not c.is_due.ensures)

pub returns : goal.returns
returns c = check-ends c.loop-place.invariant (search rules)
