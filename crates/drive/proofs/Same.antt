-- Records that are the same byte by byte are equal.
-- Assumes nothing.
use Prim.Native.Nat.{ℕ}
use mathlib.Core.Path.{◌≡◌, refl, sym, ap₂}
use mathlib.Core.Bool.{Bool, true, false}
use mathlib.Core.List.{List, [], ◌∷◌}
use borrow.Author.Tests.{eqb-true, not-true}
use lib.Dec.{eqb}
use Rattle.arrays.proofs.Base.{clash, and_left, and_right, and_both, each_holds}
use Rattle.parameters.specs.declared.Fields.{Fields}
use Rattle.device.specs.Record.{State}
use Rattle.device.specs.declared.Set.{Set}
use Rattle.device.specs.declared.Marks.{Marks}
use Rattle.device.specs.declared.Nexus.{Nexus}
use Rattle.drive.specs.Claims.{same_list, same_bool, same_marks, same_nexus, same_fields, same_set, same_sets, same_nexuses, same_record}

same_bool_lem : (a b : Bool) → same_bool a b ≡ true → a ≡ b
same_bool_lem true b e = sym e
same_bool_lem false b e = sym (not-true b e)

same-list : (a b : List ℕ) → same_list a b ≡ true → a ≡ b
same-list [] [] e = refl
same-list [] (y ∷ ys) e = clash e refl
same-list (x ∷ xs) [] e = clash e refl
same-list (x ∷ xs) (y ∷ ys) e = ap₂ ◌∷◌ (eqb-true x y (and_left _ _ e)) (same-list xs ys (and_right (eqb x y) _ e))

same-marks : (x y : Marks) → same_marks x y ≡ true → x ≡ y
same-marks x y e =
    let h = each_holds _ (_ ∷ _ ∷ []) e in
    λ i. record {
      registered = same_bool_lem x.registered y.registered h.0 i;
      another = same_bool_lem x.another y.another h.1.0 i;
      vendor = same_bool_lem x.vendor y.vendor h.1.1.0 i;
    }

same-nexus : (x y : Nexus) → same_nexus x y ≡ true → x ≡ y
same-nexus x y e =
    let h = each_holds _ (_ ∷ _ ∷ _ ∷ _ ∷ []) e in
    λ i. record {
      scope = eqb-true x.scope y.scope h.0 i;
      lock = same_bool_lem x.lock y.lock h.1.0 i;
      saved = eqb-true x.saved y.saved h.1.1.0 i;
      last_local = eqb-true x.last_local y.last_local h.1.1.1.0 i;
      marks = same-marks x.marks y.marks h.1.1.1.1.0 i;
    }

same-fields : (x y : Fields) → same_fields x y ≡ true → x ≡ y
same-fields x y e =
    let h = each_holds _ (_ ∷ _ ∷ _ ∷ _ ∷ _ ∷ _ ∷ _ ∷ _ ∷ _ ∷ _ ∷ _ ∷ _ ∷ []) e in
    let flags = h.1.1.1.1 in
    let last = flags.1.1.1.1 in
    λ i. record {
      encryption = eqb-true x.encryption y.encryption h.0 i;
      decryption = eqb-true x.decryption y.decryption h.1.0 i;
      index = eqb-true x.index y.index h.1.1.0 i;
      ceem = eqb-true x.ceem y.ceem h.1.1.1.0 i;
      rdmd = same_bool_lem x.rdmd y.rdmd flags.0 i;
      ckod = same_bool_lem x.ckod y.ckod flags.1.0 i;
      ckorp = same_bool_lem x.ckorp y.ckorp flags.1.1.0 i;
      ckorl = same_bool_lem x.ckorl y.ckorl flags.1.1.1.0 i;
      key = same-list x.key y.key last.0 i;
      kads = record {
        ukad = record {
          length = eqb-true x.kads.ukad.length y.kads.ukad.length last.1.0 i;
          bytes = same-list x.kads.ukad.bytes y.kads.ukad.bytes last.1.1.0 i;
        };
        akad = record {
          length = eqb-true x.kads.akad.length y.kads.akad.length last.1.1.1.0 i;
          bytes = same-list x.kads.akad.bytes y.kads.akad.bytes last.1.1.1.1.0 i;
        };
      };
    }

same_set_lem : (x y : Set) → same_set x y ≡ true → x ≡ y
same_set_lem x y e =
    let h = each_holds _ (_ ∷ _ ∷ _ ∷ _ ∷ _ ∷ []) e in
    λ i. record {
      owner = eqb-true x.owner y.owner h.0 i;
      scope = eqb-true x.scope y.scope h.1.0 i;
      number = eqb-true x.number y.number h.1.1.0 i;
      fields = same-fields x.fields y.fields h.1.1.1.0 i;
      supplemental = record {
        count = eqb-true x.supplemental.count y.supplemental.count h.1.1.1.1.0 i;
        keys = same-list x.supplemental.keys y.supplemental.keys h.1.1.1.1.1.0 i;
      };
    }

same-sets : (a b : List Set) → same_sets a b ≡ true → a ≡ b
same-sets [] [] e = refl
same-sets [] (y ∷ ys) e = clash e refl
same-sets (x ∷ xs) [] e = clash e refl
same-sets (x ∷ xs) (y ∷ ys) e = let p = and_both _ _ e in ap₂ ◌∷◌ (same_set_lem x y p.0) (same-sets xs ys p.1)

same-nexuses : (a b : List Nexus) → same_nexuses a b ≡ true → a ≡ b
same-nexuses [] [] e = refl
same-nexuses [] (y ∷ ys) e = clash e refl
same-nexuses (x ∷ xs) [] e = clash e refl
same-nexuses (x ∷ xs) (y ∷ ys) e = let p = and_both _ _ e in ap₂ ◌∷◌ (same-nexus x y p.0) (same-nexuses xs ys p.1)

-- The test of the tables: two records that it takes for the same are equal.
pub same-record : (x y : State) → same_record x y ≡ true → x ≡ y
unfolding same_record
same-record x y e =
    let h = each_holds _ (_ ∷ _ ∷ []) e in
    λ i. record {
      counter = eqb-true x.counter y.counter h.0 i;
      sets = same-sets x.sets y.sets h.1.0 i;
      nexuses = same-nexuses x.nexuses y.nexuses h.1.1.0 i;
    }
