-- Document 02, request 4, by computing: each of the four places for LOCAL sets empty or taken, its owner locked or not, in all 2 ^ 8
-- mixtures.
use Rattle.std.specs.Prelude.{Some, None}
use Prim.Native.Nat.{ℕ, ◌+◌, ◌-◌, ◌*◌, ◌/◌, ◌%◌, ◌^◌}
use mathlib.Core.Path.{◌≡◌, refl}
use mathlib.Core.Bool.{Bool, false, ◌&&◌}
use mathlib.Core.List.{List, [], ◌∷◌, map}
use lib.Count.{count_trailing_zeros}
use lib.Dec.{leb, eqb}
use lib.ListN.{replicate}
use Rattle.arrays.specs.Base.{when◌then◌else◌}
use Rattle.arrays.specs.Arrays.{map_from, find, count}
use Rattle.parameters.specs.Codes.{public_scope, local_scope}
use Rattle.parameters.specs.Fields.{no_fields}
use Rattle.device.specs.Record.{State, power_on, established}
use Rattle.device.specs.Updates.{with_lock, with_sets, with_nexuses}
use Rattle.places.specs.Actions.{empty_local, unlocked_local, free_at, evicting_at, is_no_room}
use Rattle.places.specs.Words.{local_words, room_by}
use Rattle.places.specs.declared.Room.{Room}
use Rattle.places.specs.declared.Room.TheVariants.{Free, Evicting, NoRoom}

-- one for each mixture
abbrev of_each : {A : Type 0} → (ℕ → A) → List A
of_each f = map_from (λ mixture (x : ℕ). f mixture) 0 (replicate (2 ^ 8) 0)

abbrev digit : ℕ → ℕ → Bool
digit mixture k = eqb (mixture / 2 ^ k % 2) 1

-- digits 0 to 3 tell which of places 1 to 4 is taken, digits 4 to 7 which of their owners, nexuses 8, 7, 6 and 5, is locked; place 0 is
-- empty, and no other nexus is locked
abbrev mixed : ℕ → State
mixed mixture =
    let s = power_on 16 5 in
    with_sets (map_from (λ place set. established (9 - place) (when digit (2 * mixture) place then local_scope else public_scope) 0 no_fields) 0 s.sets)
    (with_nexuses (map_from (λ n nexus. with_lock (leb 5 n && leb n 8 && digit mixture (12 - n)) nexus) 0 s.nexuses) s)

-- the room by the words, and by a search
abbrev by_words : State → Room
by_words s = room_by (local_words s)

abbrev by_find : State → Room
by_find s = free_at (find Some None empty_local s.sets) (evicting_at (find Some None (unlocked_local s) s.sets))

-- the place is free to take, or it is first released
abbrev is_free : ℕ → Room → Bool
is_free place (Free free) = eqb free place
is_free place (Evicting taken) = false
is_free place NoRoom = false

abbrev is_evicting : ℕ → Room → Bool
is_evicting place (Free free) = false
is_evicting place (Evicting taken) = eqb taken place
is_evicting place NoRoom = false

abbrev how_many : (Room → Bool) → ℕ
how_many asked = count (λ mixture. asked) (of_each (λ mixture. by_words (mixed mixture)))

-- all places but the last taken by nexus 1, which is locked; the last by nexus 2, which isn't, or empty
abbrev last_alone : ℕ → ℕ → State
last_alone last scope =
    let s = power_on 16 (last + 1) in
    with_sets (map_from (λ place set. when eqb place last then established 2 scope 0 no_fields else established 1 local_scope 0 no_fields) 0 s.sets)
    (with_nexuses (map_from (λ n nexus. with_lock (eqb n 1) nexus) 0 s.nexuses) s)

-- In each mixture the words give what a search gives. Place 1 is empty in half of the mixtures, place 2 in half of the others ..; with all
-- taken, the owner of place 1 isn't locked in half of them, that of place 2 in half of the others ..; and one has none.
-- Of 17 places, and of 32, the last one alone.
pub mixtures-computed : (of_each (λ mixture. by_words (mixed mixture)) ≡ of_each (λ mixture. by_find (mixed mixture)))
    × (map (λ (place : ℕ). how_many (is_free place)) (0 ∷ 1 ∷ 2 ∷ 3 ∷ 4 ∷ []) ≡ 0 ∷ 128 ∷ 64 ∷ 32 ∷ 16 ∷ [])
    × (map (λ (place : ℕ). how_many (is_evicting place)) (0 ∷ 1 ∷ 2 ∷ 3 ∷ 4 ∷ []) ≡ 0 ∷ 8 ∷ 4 ∷ 2 ∷ 1 ∷ [])
    × (how_many is_no_room ≡ 1)
    × (map (λ (last : ℕ). by_words (last_alone last public_scope)) (16 ∷ 31 ∷ []) ≡ Free 16 ∷ Free 31 ∷ [])
    × (map (λ (last : ℕ). by_words (last_alone last local_scope)) (16 ∷ 31 ∷ []) ≡ Evicting 16 ∷ Evicting 31 ∷ [])
unfolding power_on count_trailing_zeros
mixtures-computed = (refl, refl, refl, refl, refl, refl)
