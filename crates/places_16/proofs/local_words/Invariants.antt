use Prim.Native.Nat.{ℕ, ◌<◌}
use mathlib.Core.Bool.{Bool, not, ◌&&◌}
use mathlib.Core.List.{List}
use lib.Dec.{eqb}
use lib.ListN.{get_or}
use Rattle.arrays.proofs.Words.{Worded}
use Rattle.sizes_16.specs.Sizes.{place_count}
use Rattle.device.specs.Record.{new_nexus}
use Rattle.device.specs.declared.Nexus.{Nexus}
use Rattle.device.specs.declared.Set.{Set}
use Rattle.places.specs.Actions.{empty_local}
use Rattle.places_16.proofs.local_words.Given as goal

-- `unlocked_local`, by the nexuses alone
abbrev pub unlocked_by : List Nexus → ℕ → Set → Bool
unlocked_by nexuses place set = not (eqb place 0) && not (get_or nexuses set.owner new_nexus).lock

abbrev pub invariant-loop-place : goal.invariant-loop-place
invariant-loop-place l =
    (0 < l.place) × Worded empty_local place_count l.sets l.place l.empty × Worded (unlocked_by l.nexuses) place_count l.sets l.place l.unlocked
