-- What good fields are, and what zero fields are.
-- Assumes nothing.
use Prim.Native.Nat.{◌≤◌}
use mathlib.Core.Path.{◌≡◌}
use mathlib.Core.Bool.{true, false}
use mathlib.Core.List.{[], ◌∷◌}
use borrow.Author.Tests.{leb-true, eqb-true, not-true, le-leb}
use Rattle.arrays.proofs.Base.{each_holds}
use Rattle.wire.specs.Buffers.{all_zero}
use Rattle.kad.specs.Kad.{lengths_good, kads_zero}
use Rattle.parameters.specs.Good.{field_codes, fields_zero}
use Rattle.parameters.specs.declared.Fields.{Fields}

-- what the codes of a set's fields are within
pub record Ranges (f : Fields) : Type 0 where
  pub encryption : f.encryption ≤ 2
  pub decryption : f.decryption ≤ 3
  pub index : f.index ≤ 1
  pub ceem : f.ceem ≤ 3
  pub lengths : lengths_good f.kads ≡ true

-- fields whose codes are good are in range
pub ranges : (f : Fields) → field_codes f ≡ true → Ranges f
ranges f g =
    let h = each_holds _ (_ ∷ _ ∷ _ ∷ _ ∷ []) g in
    record {
      encryption = leb-true _ _ h.0;
      decryption = leb-true _ _ h.1.0;
      index = leb-true _ _ h.1.1.0;
      ceem = leb-true _ _ h.1.1.1.0;
      lengths = h.1.1.1.1.0;
    }

-- and fields in range have good codes
pub ranges-good : (f : Fields) → Ranges f → field_codes f ≡ true
ranges-good f r =
    simp (le-leb _ _ r.encryption, le-leb _ _ r.decryption, le-leb _ _ r.index, le-leb _ _ r.ceem, r.lengths)

-- what fields that are zero hold
pub record ZeroFields (f : Fields) : Type 0 where
  pub encryption : f.encryption ≡ 0
  pub decryption : f.decryption ≡ 0
  pub index : f.index ≡ 0
  pub ceem : f.ceem ≡ 0
  pub rdmd : f.rdmd ≡ false
  pub ckod : f.ckod ≡ false
  pub ckorp : f.ckorp ≡ false
  pub ckorl : f.ckorl ≡ false
  pub key : all_zero f.key ≡ true
  pub kads : kads_zero f.kads ≡ true

-- fields that pass as zero hold that
pub zero-fields : (f : Fields) → fields_zero f ≡ true → ZeroFields f
zero-fields f z =
    let h = each_holds _ (_ ∷ _ ∷ _ ∷ _ ∷ _ ∷ _ ∷ _ ∷ _ ∷ _ ∷ []) z in
    let flags = h.1.1.1.1 in
    record {
      encryption = eqb-true _ _ h.0;
      decryption = eqb-true _ _ h.1.0;
      index = eqb-true _ _ h.1.1.0;
      ceem = eqb-true _ _ h.1.1.1.0;
      rdmd = not-true _ flags.0;
      ckod = not-true _ flags.1.0;
      ckorp = not-true _ flags.1.1.0;
      ckorl = not-true _ flags.1.1.1.0;
      key = flags.1.1.1.1.0;
      kads = flags.1.1.1.1.1.0;
    }
