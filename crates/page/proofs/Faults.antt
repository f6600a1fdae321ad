-- The rules of a Set Data Encryption page in plain relations.
-- Assumes nothing.
use Rattle.std.specs.Prelude.{None}
use mathlib.Core.Path.{◌≡◌, refl, ap}
use mathlib.Core.Bool.{true, false, not, ◌&&◌}
use mathlib.Core.Logic.{inl, inr, ⊎_elim}
use mathlib.Core.List.{List}
use Prim.Native.Nat.{ℕ}
use borrow.Author.Tests.{eqb-true, eqb-false, eq-eqb, ne_eqb, not-false}
use lib.Dec.{eqb}
use lib.ListN.{length, drop}
use Rattle.arrays.specs.Base.{Exactly}
use Rattle.arrays.proofs.Base.{cases, both, and_both, or_left_false, or_right_false, exactly-or, exactly-last, not-most, not_same}
use Rattle.wire.specs.Numbers.{byte_at}
use Rattle.wire.specs.Rules.{BreaksAt}
use Rattle.wire.proofs.Lowest.{rule-due, breaks-append, zeros-due}
use Rattle.kad.proofs.Pointing.{list-faults}
use Rattle.parameters.specs.Codes.{decrypts, needs_key}
use Rattle.page.specs.Fields.{page_code, scope_of, is_public, reserved_of, ceem_of, rdmc_of, sdk_of, encryption_of, decryption_of, key_length_of, key_end}
use Rattle.page.specs.Rules.{ceem_wrong, key_length}
use Rattle.page.specs.Byte5.{RdmcFault, CeemFault}
use Rattle.page.specs.Pointing.{reserved, plain_values, set_values, every_set_rule, every_list_rule, supplemental_values, every_supplemental_rule, every_scoped_rule, every_rule}
use Rattle.page.specs.Faults.{PlainFault, KeyDue, KeyLengthFault, SetFault, AfterFault, SupplementalFault, ScopedFault, PageFault}
use Rattle.page.proofs.Parts.{two-or-three}

-- a mode that is neither 2 nor 3
mode-due : (mode : ℕ) → Exactly (decrypts mode ≡ false) ((mode ≡ 2 → ⊥) × (mode ≡ 3 → ⊥))
mode-due mode = (
  λ e. (eqb-false mode 2 (or_left_false (eqb mode 2) (eqb mode 3) e), eqb-false mode 3 (or_right_false (eqb mode 2) (eqb mode 3) e)),
  λ h. rw (ne_eqb mode 2 h.0, ne_eqb mode 3 h.1) refl,
)

module _ (p : List ℕ) where
  -- RDMC and CEEM
  rdmc-due : Exactly (not (eqb (encryption_of p) 2 && eqb (rdmc_of p) 1) ≡ false) (RdmcFault p)
  rdmc-due = (
    λ e. let h = and_both _ _ (not-false _ e) in (eqb-true _ _ h.0, eqb-true _ _ h.1),
    λ h. ap not (both (eqb (encryption_of p) 2) (eqb (rdmc_of p) 1) (eq-eqb _ _ h.0) (eq-eqb _ _ h.1)),
  )

  ceem-due : Exactly (not (ceem_wrong (ceem_of p) (decryption_of p)) ≡ false) (CeemFault p)
  ceem-due = (
    λ e. let h = and_both _ _ (not-false _ e) in (two-or-three (ceem_of p) h.0, eqb-true _ _ h.1),
    λ h. rw h.1 (⊎_elim (λ e. rw e refl) (λ e. rw e refl) h.0),
  )

  -- whether the modes ask for a key
  key-due : needs_key (byte_at p 6) (byte_at p 7) ≡ true → KeyDue p
  key-due t =
      cases (eqb (byte_at p 6) 2) (λ e. inl (eqb-true _ _ e))
      (λ f. cases (eqb (byte_at p 7) 2) (λ e. inr (inl (eqb-true _ _ e))) (λ g. inr (inr (eqb-true _ _ (rw (f, g) at t)))))

  key-not-due : needs_key (byte_at p 6) (byte_at p 7) ≡ false → KeyDue p → ⊥
  key-not-due f =
      let other = or_right_false (eqb (byte_at p 6) 2) (decrypts (byte_at p 7)) f in
      ⊎_elim (eqb-false _ _ (or_left_false (eqb (byte_at p 6) 2) (decrypts (byte_at p 7)) f)) (⊎_elim ((mode-due (byte_at p 7)).0 other).0 ((mode-due (byte_at p 7)).0 other).1)

  length-due : Exactly (eqb (key_length_of p) (key_length (encryption_of p) (decryption_of p)) ≡ false) (KeyLengthFault p)
  length-due = (
    λ e. cases (needs_key (byte_at p 6) (byte_at p 7)) (λ t. inl (key-due t, eqb-false _ _ (rw t at e))) (λ f. inr (key-not-due f, eqb-false _ _ (rw f at e))),
    λ h. cases (needs_key (byte_at p 6) (byte_at p 7)) (λ t. rw t (⊎_elim (λ x. ne_eqb _ _ x.1) (λ x. absurd (x.0 (key-due t))) h)) (λ f. rw f (⊎_elim (λ x. absurd (key-not-due f x.0)) (λ x. ne_eqb _ _ x.1) h)),
  )

  module _ (i : ℕ) where
    -- bytes 8 to 10
    plain-due : Exactly (BreaksAt i (plain_values p)) (PlainFault p i)
    plain-due =
        exactly-or (rule-due i 8 (not_same (byte_at p 8) 1)) (exactly-or (rule-due i 9 (not_same (byte_at p 9) 0)) (exactly-last (rule-due i 10 (not_same (byte_at p 10) 0))))

    set-due : Exactly (BreaksAt i (every_set_rule p)) (SetFault p i)
    unfolding every_set_rule
    set-due =
        exactly-or (rule-due i 4 (not_same (reserved_of p) 0))
        (breaks-append i (reserved p) (set_values p) (zeros-due i 11 7 p)
        (exactly-or (rule-due i 6 (not-most (byte_at p 6) 2))
        (exactly-or (rule-due i 7 (not-most (byte_at p 7) 3))
        (breaks-append i (plain_values p) (drop 5 (set_values p)) plain-due
        (exactly-or (rule-due i 18 length-due)
        (exactly-or (rule-due i 18 (not-most (key_end p) (length p))) (exactly-or (rule-due i 5 rdmc-due) (exactly-last (rule-due i 5 ceem-due)))))))))

    list-due : Exactly (BreaksAt i (every_list_rule p)) (AfterFault p i)
    unfolding every_list_rule
    list-due =
        let rest = drop (key_end p) p in
        let listed-due = list-faults (length rest) (key_end p) rest None i in (
          λ b. cases (eqb (byte_at p 6) 2) (λ t. inl (eqb-true _ _ t, listed-due.0 (rw t at b))) (λ f. inr (eqb-false _ _ f, (exactly-last (rule-due i (key_end p) (not-most (length p) (key_end p)))).0 (rw f at b))),
          ⊎_elim (λ h. rw (eq-eqb _ _ h.0) (listed-due.1 h.1)) (λ h. rw (ne_eqb _ _ h.0) ((exactly-last (rule-due i (key_end p) (not-most (length p) (key_end p)))).1 h.1)),
        )

    module _ (scope mode : ℕ) where
      supplemental-due : Exactly (BreaksAt i (every_supplemental_rule p scope mode)) (SupplementalFault p scope mode i)
      unfolding every_supplemental_rule
      supplemental-due =
          exactly-or (rule-due i 4 (not_same (scope_of p) scope))
          (exactly-or (rule-due i 7 (not_same (byte_at p 7) mode))
          (exactly-or (rule-due i 7 (mode-due mode))
          (exactly-or (rule-due i 4 (not_same (reserved_of p) 0))
          (breaks-append i (reserved p) (supplemental_values p) (zeros-due i 11 7 p)
          (breaks-append i (plain_values p) (drop 3 (supplemental_values p)) plain-due
          (exactly-or (rule-due i 18 (not_same (key_length_of p) 32))
          (exactly-or (rule-due i 18 (not-most (key_end p) (length p))) (exactly-last (rule-due i 52 (not-most (length p) 52))))))))))

      scoped-to : BreaksAt i (every_scoped_rule p scope mode) → ScopedFault p scope mode i
      unfolding every_scoped_rule
      scoped-to b =
          cases (is_public p) (λ t. absurd (rw t at b))
          (λ t. (
            eqb-false _ _ t,
            cases (sdk_of p) (λ u. inl (u, supplemental-due.0 (rw (t, u) at b)))
                (λ u. inr (u, (breaks-append i (every_set_rule p) (every_list_rule p) set-due list-due).0 (rw (t, u) at b))),
          ))

      scoped-from : ScopedFault p scope mode i → BreaksAt i (every_scoped_rule p scope mode)
      unfolding every_scoped_rule
      scoped-from h =
          let used = ne_eqb _ _ h.0 in
          ⊎_elim (λ x. rw (used, x.0) (supplemental-due.1 x.1)) (λ x. rw (used, x.0) ((breaks-append i (every_set_rule p) (every_list_rule p) set-due list-due).1 x.1)) h.1

      -- A rule of a page breaks at a byte exactly if the page is wrong there as document 01 says, with request 2, and 02 points to that byte.
      pub page-faults : Exactly (BreaksAt i (every_rule p scope mode)) (PageFault p scope mode i)
      page-faults = exactly-or (rule-due i 0 (not_same (page_code p) 0x10)) (exactly-or (rule-due i 4 (not-most (scope_of p) 2)) (scoped-to, scoped-from))
