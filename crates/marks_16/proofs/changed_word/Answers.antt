use borrow.Author.Rules.{rules}
use Prim.Native.Nat.{ℕ}
use mathlib.Core.Path.{ap}
use lib.Bits.{bit_or}
use Rattle.arrays.proofs.Loops.{run-starts, run_more, run_ends}
use Rattle.words.specs.Changes.{changed_word}
use Rattle.marks_16.proofs.changed_word.Goals as goal

pub loop-place-init : goal.loop-place-init
unfolding changed_word
loop-place-init c = run-starts

pub loop-place-preserved : goal.loop-place-preserved
unfolding changed_word
loop-place-preserved c = run_more c.loop-place.invariant (search rules) (ap (λ (v : ℕ). bit_or c.loop-place.word v) c.changed_at-changed.ensures)

pub returns : goal.returns
unfolding changed_word
returns c = run_ends c.loop-place.invariant (search rules)
