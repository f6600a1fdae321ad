use Prim.Native.Nat.{◌-◌}
use mathlib.Core.Path.{◌≡◌}
use mathlib.Core.List.{List}
use lib.ListN.{length}
use Rattle.arrays.specs.Arrays.{word_of}
use Rattle.arrays.proofs.Placing.{Placed}
use Rattle.sizes_16.specs.Sizes.{nexus_count, place_count}
use Rattle.device.specs.declared.Nexus.{Nexus}
use Rattle.words.specs.Placing.{is_local}
use Rattle.words.proofs.Placing.{owned_at}
use Rattle.words_16.proofs.words_of.Given as goal

-- the nexuses stay outside the loop: it is right for any of which the LOCAL ones are these
abbrev pub invariant-loop-place : goal.invariant-loop-place
invariant-loop-place l = (xs : List Nexus) → length xs ≡ nexus_count → l.locals ≡ word_of is_local xs → Placed is_local (owned_at l.sets) place_count xs l.sets l.place l.words l.rest

abbrev pub decreases-loop-place : goal.decreases-loop-place
decreases-loop-place l = place_count - l.place
