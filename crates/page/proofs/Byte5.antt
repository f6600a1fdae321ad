-- A page is refused at byte 5 exactly where RDMC or CEEM is wrong: request 2 over every page.
-- Assumes nothing.
use mathlib.Core.Path.{◌≡◌, refl, ap}
use mathlib.Core.Bool.{Bool, true, false, not, ◌&&◌}
use mathlib.Core.Logic.{◌⊎◌, inl, inr, ⊎_elim}
use mathlib.Core.List.{List, ◌++◌}
use Prim.Native.Nat.{ℕ, ◌<◌, ◌≤◌}
use native.Mathlib.Nat.{le_refl}
use native.Mathlib.Omega.{arith}
use borrow.Author.Tests.{eqb-true, eqb-false, eq-eqb, leb-true, lt-ltb, le-ltb}
use lib.Dec.{eqb, leb}
use lib.ListN.{length}
use Rattle.arrays.proofs.Base.{cases, clash, both, and_both}
use Rattle.wire.specs.Rules.{length_wrong, breach, BreaksAt, Lowest}
use Rattle.wire.proofs.Rules.{Sorted, held-later, broken-at}
use Rattle.wire.proofs.Lowest.{right-length}
use Rattle.answer.specs.declared.Answer.TheVariants.{PageLengthWrong, FieldWrong}
use Rattle.answer.proofs.Numbers.{differ}
use Rattle.parameters.specs.Codes.{public_scope, local_scope, all_scope, encrypts}
use Rattle.parameters.specs.Fields.{key_size}
use Rattle.page.specs.Fields.{key_from, page_code, scope_of, is_public, reserved_of, ceem_of, rdmc_of, sdk_of, encryption_of, decryption_of}
use Rattle.page.specs.Rules.{open_rules, ceem_wrong, mode_rules, plain_rules, key_length, key_rules, set_rules, match_rules, end_rules, supplemental_rules}
use Rattle.page.specs.Check.{Checked, refused_page, set_page, checked}
use Rattle.page.specs.Byte5.{MakesSet, RdmcFault, CeemFault, Byte5Fault, WrongAt}
use Rattle.page.proofs.Parts.{two-or-three}
use Rattle.page.proofs.Lowest.{after_rules, inner_rules, page_rules, inner-sorted, page-verdict, length-verdict}

-- ---- what breaks at byte 5

-- of three tests that don't all hold, where the last does
one_of_two : (a b c : Bool) → (not a && (not b && c)) ≡ false → c ≡ true → (a ≡ true) ⊎ (b ≡ true)
one_of_two true b c e d = inl refl
one_of_two false true c e d = inr refl
one_of_two false false c e d = clash d e

module _ (p : List ℕ) where
  -- "RDMC 01b is wrong under ENCRYPT"
  rdmc-fault : (encrypts (encryption_of p) && eqb (rdmc_of p) 1) ≡ true → RdmcFault p
  rdmc-fault e = let h = and_both _ _ e in (eqb-true _ _ h.0, eqb-true _ _ h.1)

  -- request 2
  ceem-fault : ceem_wrong (ceem_of p) (decryption_of p) ≡ true → CeemFault p
  ceem-fault e = let h = and_both _ _ e in (two-or-three (ceem_of p) h.0, eqb-true _ _ h.1)

  -- no rule of a supplemental key
  supplemental-none : (scope mode : ℕ) → Sorted 4 (supplemental_rules p scope mode) → BreaksAt 5 (supplemental_rules p scope mode) → ⊥
  unfolding supplemental_rules match_rules
  supplemental-none scope mode s b =
      clash (held-later 5 7 (plain_rules p ++ (key_rules p key_size ++ end_rules p)) (omega arith) s.1.1.1.1) (broken-at 5 (supplemental_rules p scope mode) b)

  -- of a set's, that of RDMC or that of CEEM
  set-fault : Sorted 4 (set_rules p ++ after_rules p) → BreaksAt 5 (set_rules p ++ after_rules p) → Byte5Fault p
  unfolding set_rules mode_rules
  set-fault s b =
      let later = held-later 5 7 ((plain_rules p ++ key_rules p (key_length (encryption_of p) (decryption_of p))) ++ after_rules p) (omega arith) s.1.1.1.1.1 in
      ⊎_elim (λ e. inl (rdmc-fault e)) (λ e. inr (ceem-fault e)) (one_of_two _ _ _ (broken-at 5 (set_rules p ++ after_rules p) b) later)

  -- so the page is LOCAL or ALL with SDK 0
  inner-fault : (scope mode : ℕ) → BreaksAt 5 (inner_rules p scope mode) → (is_public p ≡ false) × ((sdk_of p ≡ false) × Byte5Fault p)
  unfolding inner_rules
  inner-fault scope mode b =
      let s = inner-sorted p scope mode in
      cases (is_public p) (λ t. absurd (rw t at b))
      (λ t. cases (sdk_of p) (λ u. absurd (supplemental-none scope mode (rw (t, u) at s) (rw (t, u) at b)))
      (λ u. (t, (u, set-fault (rw (t, u) at s) (rw (t, u) at b)))))

-- ---- a page refused at byte 5

module _ (p : List ℕ) (scope mode count : ℕ) where
  -- its length isn't wrong
  fault-sized : WrongAt 5 (checked p scope mode count) → length_wrong key_from p ≡ false
  fault-sized e =
      cases (length_wrong key_from p)
      (λ t. differ PageLengthWrong (FieldWrong 5) (λ z. omega arith) (ap (λ (c : Checked). c.answer) (length-verdict p scope mode count t)) e) (λ t. t)

  -- nor is anything before it
  module _ (low : Lowest 5 (page_rules p scope mode)) where
    code-right : page_code p ≡ 0x10
    unfolding open_rules
    code-right = cases (eqb (page_code p) 0x10) (λ t. eqb-true _ _ t) (λ t. let l : 5 ≤ 0 = low.least 0 (inl (refl, t)) in absurd (omega arith))

    scope-known : scope_of p ≤ all_scope
    unfolding open_rules
    scope-known = cases (leb (scope_of p) all_scope) (λ t. leb-true _ _ t) (λ t. let l : 5 ≤ 4 = low.least 4 (inr (inl (refl, t))) in absurd (omega arith))

    reserved-zero : is_public p ≡ false → sdk_of p ≡ false → reserved_of p ≡ 0
    unfolding open_rules inner_rules set_rules mode_rules
    reserved-zero u v =
        cases (eqb (reserved_of p) 0) (λ t. eqb-true _ _ t)
        (λ t. let l : 5 ≤ 4 = low.least 4 (inr (inr (rw (u, v) (inl (refl, t))))) in absurd (omega arith))

    -- LOCAL or ALL
    scope-used : is_public p ≡ false → (scope_of p ≡ local_scope) ⊎ (scope_of p ≡ all_scope)
    scope-used u =
        let some = eqb-false (scope_of p) public_scope u in
        cases (eqb (scope_of p) local_scope) (λ t. inl (eqb-true _ _ t)) (λ t. let other = eqb-false (scope_of p) local_scope t in inr (omega (arith, scope-known)))

    -- the fault is one past the scope
    inner-breaks : BreaksAt 5 (inner_rules p scope mode)
    unfolding open_rules
    inner-breaks =
        ⊎_elim (λ h. let e : 0 ≡ 5 = h.0 in absurd (omega arith)) (⊎_elim (λ h. let e : 4 ≡ 5 = h.0 in absurd (omega arith)) (λ b. b)) low.broken

  -- A page that is refused at byte 5 is LOCAL or ALL with SDK 0, right up to byte 4, with RDMC 01b under ENCRYPT or CEEM 10b or 11b and decryption DISABLE.
  pub byte-5-due : WrongAt 5 (checked p scope mode count) → MakesSet p × Byte5Fault p
  byte-5-due w =
      let low : Lowest 5 (page_rules p scope mode) = (page-verdict (length_wrong key_from p ≡ false) p scope mode count (λ f. f)).lowest 5 w in
      let f = inner-fault p scope mode (inner-breaks low) in
      let makes : MakesSet p = record {
        sized = fault-sized w;
        code = code-right low;
        scope = scope-used low f.0;
        reserved = reserved-zero low f.0 f.1.0;
        fresh = f.1.0;
      } in
      (makes, f.1.1)

-- ---- and each such page is

module _ (p : List ℕ) (makes : MakesSet p) where
  scope-taken : leb (scope_of p) all_scope ≡ true
  scope-taken = ⊎_elim (λ e. rw e refl) (λ e. rw e refl) makes.scope

  not-public : is_public p ≡ false
  not-public = ⊎_elim (λ e. rw e refl) (λ e. rw e refl) makes.scope

  -- the first rule of a set that breaks
  first-at-5 : Byte5Fault p → breach (set_rules p) (length p) ≡ 5
  unfolding set_rules mode_rules
  first-at-5 f =
      let zero = eq-eqb _ _ makes.reserved in
      cases (encrypts (encryption_of p) && eqb (rdmc_of p) 1) (λ t. simp (zero, t))
      (λ t. ⊎_elim (λ r. clash (both _ _ (eq-eqb _ _ r.0) (eq-eqb _ _ r.1)) t)
      (λ c. let wrong : ceem_wrong (ceem_of p) (decryption_of p) ≡ true = rw c.1 (⊎_elim (λ e. rw e refl) (λ e. rw e refl) c.0) in simp (zero, t, wrong)) f)

  -- A LOCAL or ALL page with SDK 0, right up to byte 4, with RDMC 01b under ENCRYPT or CEEM 10b or 11b and decryption DISABLE, is refused at byte 5.
  pub byte-5-told : (scope mode count : ℕ) → Byte5Fault p → WrongAt 5 (checked p scope mode count)
  unfolding checked open_rules set_page
  byte-5-told scope mode count f =
      let long : 5 < length p = omega (arith, (right-length key_from p makes.sized).0) in
      let e : checked p scope mode count ≡ refused_page (FieldWrong 5) =
      simp (makes.sized, eq-eqb _ _ makes.code, scope-taken, le-ltb (length p) (length p) (le_refl (length p)), not-public, makes.fresh, first-at-5 f, lt-ltb 5 (length p) long) in
      ap (λ (c : Checked). c.answer) e
