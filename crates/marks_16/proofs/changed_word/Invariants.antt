use Prim.Native.Nat.{◌-◌}
use lib.Bits.{bit_or}
use Rattle.arrays.proofs.Loops.{Ran}
use Rattle.sizes_16.specs.Sizes.{place_count}
use Rattle.words.specs.Changes.{changed_at}
use Rattle.marks_16.proofs.changed_word.Given as goal

abbrev pub invariant-loop-place : goal.invariant-loop-place
invariant-loop-place l = Ran (λ k w. bit_or w (changed_at l.old l.new l.had l.has k)) place_count 0 l.place l.word

abbrev pub decreases-loop-place : goal.decreases-loop-place
decreases-loop-place l = place_count - l.place
