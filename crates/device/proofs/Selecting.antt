-- The place whose set a nexus uses.
-- Assumes nothing.
use Rattle.std.specs.Prelude.{Some, None}
use Prim.Native.Nat.{ℕ, ◌<◌}
use mathlib.Core.Path.{◌≡◌, sym, ap, ◌∙◌}
use mathlib.Core.Bool.{true, false, not}
use mathlib.Core.List.{List}
use native.Mathlib.Omega.{arith}
use borrow.Author.Tests.{eqb-true, eq-eqb}
use lib.Dec.{eqb}
use lib.ListN.{length}
use Rattle.arrays.proofs.Base.{both, if-elim, and_both}
use Rattle.arrays.proofs.Counting.{count-unique, find-counted}
use Rattle.arrays.proofs.Laws.{find-by}
use Rattle.parameters.specs.Codes.{local_scope}
use Rattle.device.specs.Record.{State, set_at, nexus_at, no_set, used}
use Rattle.device.specs.Selecting.{owns, owned_place, or_else, place_of, selected}
use Rattle.device.specs.WellFormed.{well_formed}
use Rattle.device.specs.declared.Set.{Set}
use Rattle.device.specs.declared.Nexus.{Nexus}
use Rattle.device.proofs.WellFormed.{local-place, used-within, scope-at, nexus-at}

-- ---- in any record

-- it is one of the places
pub place-within : (nexus : Nexus) (n : ℕ) (sets : List Set) → 0 < length sets → place_of nexus n sets < length sets
unfolding owned_place
place-within nexus n sets h =
    if-elim (λ k. k < length sets) (eqb nexus.scope local_scope)
    (λ e. find-by Some None (λ place. owns n) no_set (λ f. or_else f 0 < length sets) sets (λ k l t. l) h)
    (λ e. h)

pub selected-within : (s : State) (n : ℕ) → 0 < length s.sets → selected s n < length s.sets
unfolding selected
selected-within s n h = place-within (nexus_at s n) n s.sets h

-- a nexus that is not LOCAL uses place 0
pub selected-shared : (s : State) (n : ℕ) → eqb (nexus_at s n).scope local_scope ≡ false → selected s n ≡ 0
unfolding selected
selected-shared s n e = simp e

-- a LOCAL nexus uses the place that it owns, and place 0 where it owns none
pub selected-own : (s : State) (n : ℕ) → (nexus_at s n).scope ≡ local_scope → selected s n ≡ or_else (owned_place s.sets n) 0
unfolding selected
selected-own s n e = simp (eq-eqb (nexus_at s n).scope local_scope e)

-- ---- in a well-formed record

-- the nexus owns the place: one of the places other than 0, used and LOCAL
pub record Own (s : State) (n place : ℕ) : Type 0 where
  pub within : place < length s.sets
  pub later : 0 < place
  pub taken : used (set_at s place) ≡ true
  pub local : (set_at s place).scope ≡ local_scope
  pub owner : (set_at s place).owner ≡ n

module _ (s : State) (w : well_formed s ≡ true) where
  -- a place whose LOCAL set a nexus owns is not place 0
  pub own : (n place : ℕ) → owns n (set_at s place) ≡ true → Own s n place
  own n place o =
      let h = and_both _ _ o in
      let l : (set_at s place).scope ≡ local_scope = eqb-true _ _ h.0 in
      let u : used (set_at s place) ≡ true = ap (λ (k : ℕ). not (eqb k 0)) l in
      record {
        within = used-within s place u;
        later = local-place place (sym (scope-at s w place u) ∙ l);
        taken = u;
        local = l;
        owner = eqb-true _ _ h.1;
      }

  -- a LOCAL nexus uses a place that it owns
  pub selected-local : (n : ℕ) → (nexus_at s n).scope ≡ local_scope → Own s n (selected s n)
  unfolding owned_place
  selected-local n e =
      rw (selected-own s n e)
      (find-counted (λ k. owns n) no_set Some None (λ f. Own s n (or_else f 0)) s.sets (λ k l t. own n k t) (omega (arith, (nexus-at s w n).local e)))

  -- and it is the only one
  pub selected-only : (n place : ℕ) → (nexus_at s n).scope ≡ local_scope → owns n (set_at s place) ≡ true → selected s n ≡ place
  selected-only n place e o =
      let mine = selected-local n e in
      let given = own n place o in
      count-unique (λ k. owns n) no_set s.sets (selected s n) place (omega (arith, (nexus-at s w n).local e)) mine.within given.within (both _ _ (eq-eqb _ _ mine.local) (eq-eqb _ _ mine.owner)) o

-- the place that the code found is the selected one
pub found : (s : State) (n place : ℕ) (nexus : Nexus) → nexus ≡ nexus_at s n → place ≡ place_of nexus n s.sets → place ≡ selected s n
unfolding selected
found s n place nexus e f = rw e at f
