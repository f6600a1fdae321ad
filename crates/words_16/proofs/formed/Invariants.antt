use mathlib.Core.Path.{◌≡◌}
use mathlib.Core.Bool.{true}
use Rattle.arrays.specs.Arrays.{all}
use Rattle.arrays.proofs.Loops.{Checked}
use Rattle.sizes_16.specs.Sizes.{nexus_count, place_count}
use Rattle.device.specs.WellFormed.{empty_is_zero, used_fits}
use Rattle.words_16.proofs.formed.Given as goal

abbrev pub invariant-loop-set : goal.invariant-loop-set
invariant-loop-set l = Checked (λ k. empty_is_zero) place_count l.set-items l.set-index true

abbrev pub invariant-loop-place : goal.invariant-loop-place
invariant-loop-place l = (true ≡ all empty_is_zero l.set-items) × Checked (used_fits nexus_count) place_count l.set-items l.place true
