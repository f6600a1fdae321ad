-- Document 01's wording: "nexuses that were LOCAL there, or ALL for place 0, become PUBLIC".
-- Assumes nothing.
use Prim.Native.Nat.{ℕ}
use mathlib.Core.Path.{◌≡◌, refl, sym, ap, ◌∙◌}
use mathlib.Core.Bool.{Bool, true, or-false}
use native.Mathlib.Omega.{arith}
use borrow.Author.Tests.{eqb-true, eqb-false, eq-eqb}
use lib.Dec.{eqb}
use Rattle.arrays.specs.Base.{when◌then◌else◌}
use Rattle.arrays.proofs.Base.{cases, both, if-map, if-same, same_truth}
use Rattle.parameters.specs.Codes.{public_scope, local_scope, all_scope}
use Rattle.device.specs.Record.{State, set_at, nexus_at}
use Rattle.device.specs.Selecting.{owns, selected}
use Rattle.device.specs.WellFormed.{well_formed}
use Rattle.device.specs.declared.Nexus.{Nexus}
use Rattle.device.proofs.Selecting.{selected-shared, selected-local, selected-only}
use Rattle.device.proofs.WellFormed.{nexus-at}
use Rattle.device.specs.Updates.{with_scope}
use Rattle.places.specs.Actions.{freed}
use Rattle.kept.specs.Worded.{loses}

module _ (s : State) (w : well_formed s ≡ true) (place n : ℕ) where
  -- a LOCAL nexus uses the place exactly where it owns it
  uses-local : (nexus_at s n).scope ≡ local_scope → eqb (selected s n) place ≡ owns n (set_at s place)
  uses-local e =
      same_truth (eqb (selected s n) place) (owns n (set_at s place))
      (λ t.
      let q : selected s n ≡ place = eqb-true _ _ t in
      let o = selected-local s w n e in
      ap (λ (k : ℕ). owns n (set_at s k)) (sym q) ∙ both _ _ (eq-eqb _ _ o.local) (eq-eqb _ _ o.owner))
      (λ t. eq-eqb _ _ (selected-only s w n place e t))

  -- an ALL nexus exactly where it is place 0
  uses-all : (nexus_at s n).scope ≡ all_scope → eqb (selected s n) place ≡ eqb place 0
  uses-all e =
      let z : selected s n ≡ 0 = selected-shared s n (ap (λ (k : ℕ). eqb k local_scope) e) in
      same_truth (eqb (selected s n) place) (eqb place 0)
      (λ t. eq-eqb place 0 (sym (eqb-true _ _ t) ∙ z))
      (λ t. eq-eqb _ _ (z ∙ sym (eqb-true place 0 t)))

  abbrev choice : Bool → ℕ
  choice b = when b then public_scope else (nexus_at s n).scope

  local : (nexus_at s n).scope ≡ local_scope → choice (eqb (selected s n) place) ≡ choice (loses s place n)
  local e =
      let told : owns n (set_at s place) ≡ loses s place n = rw e (sym (or-false (owns n (set_at s place)))) in
      ap choice (uses-local e ∙ told)

  all : (nexus_at s n).scope ≡ all_scope → choice (eqb (selected s n) place) ≡ choice (loses s place n)
  all e =
      let told : eqb place 0 ≡ loses s place n = rw e refl in
      ap choice (uses-all e ∙ told)

  public : (nexus_at s n).scope ≡ 0 → choice (eqb (selected s n) place) ≡ choice (loses s place n)
  public e = rw e (if-same (eqb (selected s n) place) public_scope)

  -- in a well-formed record an action on a place makes PUBLIC exactly the nexuses that are LOCAL there, or ALL for place 0
  pub freed-as-worded : (freed s place n (nexus_at s n)).scope ≡ when loses s place n then public_scope else (nexus_at s n).scope
  freed-as-worded =
      if-map (λ (x : Nexus). x.scope) (eqb (selected s n) place) (with_scope public_scope (nexus_at s n)) (nexus_at s n)
      ∙ cases (eqb (nexus_at s n).scope local_scope)
      (λ t. local (eqb-true _ _ t))
      (λ f. cases (eqb (nexus_at s n).scope all_scope)
      (λ t. all (eqb-true _ _ t))
      (λ g. public (omega (arith, (nexus-at s w n).scope, eqb-false (nexus_at s n).scope local_scope f, eqb-false (nexus_at s n).scope all_scope g))))
