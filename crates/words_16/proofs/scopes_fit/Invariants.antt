use mathlib.Core.Bool.{true}
use Rattle.arrays.proofs.Loops.{Checked}
use Rattle.arrays.proofs.Sorting.{Picked}
use Rattle.sizes_16.specs.Sizes.{nexus_count}
use Rattle.words.specs.Placing.{is_local}
use Rattle.words.specs.Fitting.{nexus_fits}
use Rattle.words_16.proofs.scopes_fit.Given as goal

abbrev pub invariant-loop-n : goal.invariant-loop-n
invariant-loop-n l = Checked (nexus_fits l.first) nexus_count l.nexus-items l.n true × Picked is_local nexus_count l.nexus-items l.n l.locals
