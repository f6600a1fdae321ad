use lib.ListN.{get_or}
use Rattle.arrays.proofs.Loops.{Ran}
use Rattle.sizes_16.specs.Sizes.{place_count}
use Rattle.device.specs.Record.{no_set}
use Rattle.words.specs.Fitting.{nothing_held, held_with}
use Rattle.words_16.proofs.held_by.Given as goal

abbrev pub invariant-loop-place : goal.invariant-loop-place
invariant-loop-place l = Ran (λ k. held_with k (get_or l.set-items k no_set) (get_or l.words k 0)) place_count nothing_held l.place l.held
