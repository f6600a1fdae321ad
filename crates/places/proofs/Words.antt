-- Document 02, request 4: "No answer and no promise changes." What the words give is document 01's place.
-- Assumes nothing.
use Rattle.std.specs.Prelude.{ℕ, Option, Some, None}
use Prim.Native.Nat.{ℕ, ◌≤◌}
use mathlib.Core.Path.{◌≡◌, ap₂}
use mathlib.Core.Bool.{Bool}
use mathlib.Core.List.{List}
use lib.ListN.{length}
use Rattle.arrays.specs.Arrays.{find, word_of}
use Rattle.arrays.proofs.Words.{lowest-bit}
use Rattle.device.specs.Record.{State}
use Rattle.device.specs.declared.Set.{Set}
use Rattle.places.specs.Actions.{empty_local, unlocked_local, own_place, free_at, evicting_at, room}
use Rattle.places.specs.Words.{local_words, lowest_bit, room_by}

-- of up to 32 places, the word's lowest set bit is the lowest place that passes
lowest-place : (p : ℕ → Set → Bool) (sets : List Set) → length sets ≤ 32 → lowest_bit (word_of p sets) ≡ find Some None p sets
lowest-place p sets h = lowest-bit Some None p sets 32 h

-- the place of a LOCAL page, its present one or else by the words, is the one that document 01 gives
pub room-by-words : (s : State) (n : ℕ) → length s.sets ≤ 32 → free_at (own_place s n) (room_by (local_words s)) ≡ room s n
unfolding room
room-by-words s n h =
    ap₂ (λ (empty unlocked : Option ℕ). free_at (own_place s n) (free_at empty (evicting_at unlocked)))
    (lowest-place empty_local s.sets h)
    (lowest-place (unlocked_local s) s.sets h)
