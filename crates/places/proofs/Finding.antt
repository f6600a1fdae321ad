-- The place of a LOCAL page is the one that document 01's sentence names, of every record and nexus.
-- Assumes nothing.
use Rattle.std.specs.Prelude.{ℕ, Option, Some, None}
use Prim.Native.Nat.{ℕ, ◌<◌}
use mathlib.Core.Path.{◌≡◌, refl, ◌∙◌}
use mathlib.Core.Bool.{Bool, true, not}
use native.Mathlib.Omega.{arith}
use borrow.Author.Tests.{eqb-true, eq-eqb, ne_eqb, not-true}
use lib.Dec.{eqb}
use lib.ListN.{length}
use Rattle.arrays.specs.Arrays.{find}
use Rattle.arrays.proofs.Base.{cases, not-zero, and_both, if-true, if-false}
use Rattle.arrays.proofs.Laws.{find-by, find-lowest}
use Rattle.device.specs.Record.{State, no_set, set_at, nexus_at}
use Rattle.device.specs.Selecting.{owns, owned_place}
use Rattle.device.specs.declared.Set.{Set}
use Rattle.places.specs.Actions.{own_place, empty_local, unlocked_local, room}
use Rattle.places.specs.Finding.{Present, Empty, Unlocked, Lowest, None as NoneOf, RoomDue}

-- a test that tells of each place whether something holds of it finds the lowest place of which it holds
module _ (s : State) (p : ℕ → Set → Bool) (P : ℕ → Type 0)
    (told : (place : ℕ) → place < length s.sets → p place (set_at s place) ≡ true → P place)
    (tells : (place : ℕ) → P place → (place < length s.sets) × (p place (set_at s place) ≡ true)) where
  lowest-is-found : (place : ℕ) → Lowest P place → find Some None p s.sets ≡ Some place
  lowest-is-found place l =
      let h = tells place l.holds in
      find-lowest Some None p no_set s.sets place h.0 h.1
      (λ lower g. cases (p lower (set_at s lower)) (λ t. absurd (l.first lower g (told lower (omega (arith, g, h.0)) t))) (λ f. f))

  none-is-found : NoneOf P → find Some None p s.sets ≡ None
  none-is-found none = find-by Some None p no_set (λ (found : Option ℕ). found ≡ None) s.sets (λ place h t. absurd (none place (told place h t))) refl

module _ (s : State) where
  empty-told : (place : ℕ) → place < length s.sets → empty_local place (set_at s place) ≡ true → Empty s place
  empty-told place h t = let e = and_both (not (eqb place 0)) _ t in record { above = not-zero place e.0; within = h; unused = eqb-true _ 0 e.1 }

  empty-tells : (place : ℕ) → Empty s place → (place < length s.sets) × (empty_local place (set_at s place) ≡ true)
  empty-tells place e = (e.within, simp (ne_eqb place 0 (λ z. omega (arith, e.above)), eq-eqb _ 0 e.unused))

  unlocked-told : (place : ℕ) → place < length s.sets → unlocked_local s place (set_at s place) ≡ true → Unlocked s place
  unlocked-told place h t = let e = and_both (not (eqb place 0)) _ t in record { above = not-zero place e.0; within = h; lock0 = not-true _ e.1 }

  unlocked-tells : (place : ℕ) → Unlocked s place → (place < length s.sets) × (unlocked_local s place (set_at s place) ≡ true)
  unlocked-tells place e = (e.within, simp (ne_eqb place 0 (λ z. omega (arith, e.above)), e.lock0))

  module _ (n : ℕ) where
    present-told : (nexus_at s n).scope ≡ 1 → (place : ℕ) → place < length s.sets → owns n (set_at s place) ≡ true → Present s n place
    present-told l place h t = let e = and_both (eqb (set_at s place).scope 1) _ t in record { within = h; nexus_local = l; set_local = eqb-true _ 1 e.0; owned = eqb-true _ n e.1 }

    present-tells : (place : ℕ) → Present s n place → (place < length s.sets) × (owns n (set_at s place) ≡ true)
    present-tells place o = (o.within, simp (eq-eqb _ 1 o.set_local, eq-eqb _ n o.owned))

    own-found : (place : ℕ) → Lowest (Present s n) place → own_place s n ≡ Some place
    unfolding own_place owned_place
    own-found place l =
        let local = l.holds.nexus_local in
        if-true _ _ _ (eq-eqb _ 1 local) ∙ lowest-is-found s (λ k. owns n) (Present s n) (present-told local) present-tells place l

    own-none : NoneOf (Present s n) → own_place s n ≡ None
    unfolding own_place owned_place
    own-none none =
        cases (eqb (nexus_at s n).scope 1)
        (λ t. if-true _ _ _ t ∙ none-is-found s (λ k. owns n) (Present s n) (present-told (eqb-true _ 1 t)) present-tells none)
        (λ f. if-false _ _ _ f)

    -- The place of a LOCAL page, over every record and nexus.
    pub room-due : RoomDue s n
    unfolding room
    room-due = record {
      present = λ place l. simp (own-found place l);
      lowest_empty = λ without place l. simp (own-none without, lowest-is-found s empty_local (Empty s) empty-told empty-tells place l);
      lowest_unlocked = λ without full place l. simp (own-none without, none-is-found s empty_local (Empty s) empty-told empty-tells full, lowest-is-found s (unlocked_local s) (Unlocked s) unlocked-told unlocked-tells place l);
      no_room = λ without full locked. simp (own-none without, none-is-found s empty_local (Empty s) empty-told empty-tells full, none-is-found s (unlocked_local s) (Unlocked s) unlocked-told unlocked-tells locked);
    }
