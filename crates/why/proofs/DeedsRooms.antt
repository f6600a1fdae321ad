-- The place that a LOCAL page takes in a well-formed record, and the place whose set a nexus uses.
-- Assumes nothing.
use Rattle.std.specs.Prelude.{ℕ, Option, Some, None}
use Prim.Native.Nat.{ℕ, ◌≤◌, ◌<◌}
use mathlib.Core.Path.{◌≡◌, ap, subst}
use mathlib.Core.Bool.{true, false, not}
use native.Mathlib.Omega.{arith}
use borrow.Author.Tests.{eqb-true, ltb-true, ltb-false, not-true}
use lib.Dec.{eqb, ltb}
use lib.ListN.{length}
use Rattle.arrays.specs.Arrays.{count, find}
use Rattle.arrays.proofs.Base.{cases, clash, not-zero, both, and_left, and_right}
use Rattle.arrays.proofs.Laws.{find-by}
use Rattle.arrays.proofs.Counting.{count-some, find-counted}
use Rattle.parameters.specs.Codes.{local_scope}
use Rattle.device.specs.Record.{State, set_at, nexus_at, no_set, empty, used}
use Rattle.device.specs.Selecting.{owns, selected}
use Rattle.device.specs.WellFormed.{well_formed}
use Rattle.device.proofs.Selecting.{Own, own, selected-shared, selected-local}
use Rattle.places.specs.Actions.{empty_local, unlocked_local, free_at, evicting_at, room}
use Rattle.places.specs.declared.Room.{Room}
use Rattle.places.specs.declared.Room.TheVariants.{Free, Evicting, NoRoom}
use Rattle.kept.proofs.Near.{none, held, near_of, owned}
use Rattle.kept.proofs.Kept.{own-by}

-- a place free to take for nexus m's LOCAL set: an empty one, or its own
pub record FreeFor (s : State) (m place : ℕ) : Type 0 where
  pub later : 0 < place
  pub mine : used (set_at s place) ≡ true → (set_at s place).owner ≡ m

-- a place that is first released: it holds the set of another nexus, whose lock is 0
pub record Evicts (s : State) (m place : ℕ) : Type 0 where
  pub later : 0 < place
  pub taken : used (set_at s place) ≡ true
  pub other : (set_at s place).owner ≡ m → ⊥
  pub unlocked : (nexus_at s (set_at s place).owner).lock ≡ false

-- the place for nexus m's LOCAL set is one of these
abbrev pub RoomFor : State → ℕ → Room → Type 0
RoomFor s m (Free place) = FreeFor s m place
RoomFor s m (Evicting place) = Evicts s m place
RoomFor s m NoRoom = Unit {0}

module _ (s : State) (w : well_formed s ≡ true) where
  -- where a nexus owns no LOCAL place, none of places 1 to 4 is its own
  not-owner : (m place : ℕ) → held m s ≡ 0 → place < length s.sets → 0 < place → used (set_at s place) ≡ true → (set_at s place).owner ≡ m → ⊥
  not-owner m place z l later u e =
      let o : owns m (set_at s place) ≡ true = subst (λ (k : ℕ). owns k (set_at s place) ≡ true) e (owned none s (near_of none s w) place later u) in
      let some : 0 < held m s = count-some (λ (p : ℕ). owns m) no_set s.sets place l o in
      omega (arith, some, z)

  -- an empty place, where there is one, else one that is released
  else-room : (m : ℕ) → held m s ≡ 0 → RoomFor s m (free_at (find Some None empty_local s.sets) (evicting_at (find Some None (unlocked_local s) s.sets)))
  else-room m z =
      cases (ltb 0 (count empty_local s.sets))
      (λ t. find-counted empty_local no_set Some None Rest s.sets vacant (ltb-true _ _ t))
      (λ f.
      find-by Some None empty_local no_set Rest s.sets vacant
      (find-by Some None (unlocked_local s) no_set (λ r. RoomFor s m (evicting_at r)) s.sets
      (λ k l t. let later = not-zero k (and_left _ _ t) in
      let taken = filled (ltb-false _ _ f) k l (and_left _ _ t) in
      record { later = later; taken = taken; other = not-owner m k z l later taken; unlocked = not-true _ (and_right (not (eqb k 0)) _ t) })
      tt))
    where
      Rest : Option ℕ → Type 0
      Rest r = RoomFor s m (free_at r (evicting_at (find Some None (unlocked_local s) s.sets)))

      vacant : (k : ℕ) → k < length s.sets → empty_local k (set_at s k) ≡ true → Rest (Some k)
      vacant k l t = record { later = not-zero k (and_left _ _ t); mine = λ u. clash u (ap not (and_right (not (eqb k 0)) _ t)) }

      filled : count empty_local s.sets ≤ 0 → (k : ℕ) → k < length s.sets → not (eqb k 0) ≡ true → used (set_at s k) ≡ true
      filled c k l e =
          cases (empty (set_at s k))
          (λ t. let some : 0 < count empty_local s.sets = count-some empty_local no_set s.sets k l (both _ _ e t) in absurd (omega (arith, some, c)))
          (λ f. ap not f)

  -- "its present place, else the lowest empty one, else the lowest whose owner has lock 0, which is first released"
  pub room_for : (m : ℕ) → RoomFor s m (room s m)
  unfolding room
  room_for m =
      own-by s w m (λ f. RoomFor s m (free_at f (free_at (find Some None empty_local s.sets) (evicting_at (find Some None (unlocked_local s) s.sets)))))
      (λ k l z o c. record { later = z; mine = λ u. (own s w m k o).owner })
      (else-room m)

  -- a nexus that uses another place than 0 owns it
  pub uses-own : (n : ℕ) → 0 < selected s n → Own s n (selected s n)
  uses-own n h =
      cases (eqb (nexus_at s n).scope local_scope)
      (λ t. selected-local s w n (eqb-true _ _ t))
      (λ f. absurd (omega (arith, h, selected-shared s n f)))
