use borrow.Author.Rules.{rules}
use Rattle.arrays.proofs.Loops.{run-starts, run_more, run_ends}
use Rattle.words.specs.Fitting.{held_by}
use Rattle.words_16.proofs.held_by.Goals as goal

pub loop-place-init : goal.loop-place-init
unfolding held_by
loop-place-init c = run-starts

pub loop-place-preserved : goal.loop-place-preserved
unfolding held_by
loop-place-preserved c = run_more c.loop-place.invariant (search rules) c.hold-held.ensures

pub returns : goal.returns
unfolding held_by
returns c = run_ends c.loop-place.invariant (search rules)
