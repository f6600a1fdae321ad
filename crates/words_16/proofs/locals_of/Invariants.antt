use Rattle.arrays.proofs.Sorting.{Picked}
use Rattle.sizes_16.specs.Sizes.{nexus_count}
use Rattle.words.specs.Placing.{is_local}
use Rattle.words_16.proofs.locals_of.Given as goal

abbrev pub invariant-loop-n : goal.invariant-loop-n
invariant-loop-n l = Picked is_local nexus_count l.nexus-items l.n l.locals
