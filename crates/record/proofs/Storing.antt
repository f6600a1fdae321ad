-- The bytes of a set and of key-associated data as they are stored, one run after another over zeros.
-- Assumes nothing.
use Prim.Native.Nat.{ℕ, ◌+◌}
use mathlib.Core.Path.{◌≡◌, refl, ◌∙◌}
use mathlib.Core.List.{List, [], ◌∷◌, ◌++◌, append_assoc}
use native.Mathlib.Omega.{arith}
use lib.ListN.{length, replicate}
use lib.Seq.{sets}
use Rattle.kad.specs.Kad.{Sized}
use Rattle.kad.specs.declared.Kads.{Kads}
use Rattle.parameters.specs.Fields.{key_size, supplemental_size}
use Rattle.device.specs.declared.Set.{Set}
use Rattle.record.specs.Bytes.{kads_size, set_size, kads_bytes, set_head, set_bytes}
use Rattle.wire.proofs.Filling.{fill-starts, fill_more, fill-ends}
use Rattle.record.proofs.Sizes.{kads-length}

-- four runs over a buffer that holds just them
pub four_runs : (z p q r s : List ℕ) (i j k : ℕ) {b c d e : List ℕ} → b ≡ sets z 0 p → c ≡ sets b i q → d ≡ sets c j r → e ≡ sets d k s
    → length p ≡ i → i + length q ≡ j → j + length r ≡ k → length z ≡ k + length s → e ≡ p ++ (q ++ (r ++ s))
four_runs z p q r s i j k u v w x f g h l =
    fill-ends (fill_more (fill_more (fill_more (fill_more (fill-starts z) p u i (omega arith)) q v j g) r w k h) s x (k + length s) refl) l
    ∙ append_assoc (p ++ q) r s ∙ append_assoc p q (r ++ s)

pub kads-stored : (k : Kads) → Sized k → {b c d e : List ℕ} → b ≡ sets (replicate kads_size 0) 0 (k.ukad.length ∷ []) → c ≡ sets b 1 k.ukad.bytes
    → d ≡ sets c 33 (k.akad.length ∷ []) → e ≡ sets d 34 k.akad.bytes → e ≡ kads_bytes k
unfolding kads_bytes
kads-stored k s u v w x =
    four_runs (replicate kads_size 0) (k.ukad.length ∷ []) k.ukad.bytes (k.akad.length ∷ []) k.akad.bytes 1 33 34 u v w x refl (omega (arith, s.0)) refl (omega (arith, s.1))

pub set-stored : (s : Set) → length s.fields.key ≡ key_size → length s.supplemental.keys ≡ supplemental_size → Sized s.fields.kads
    → {head keys last b c d e : List ℕ} → head ≡ set_head s → keys ≡ s.supplemental.count ∷ s.supplemental.keys → last ≡ kads_bytes s.fields.kads
    → b ≡ sets (replicate set_size 0) 0 head → c ≡ sets b 14 s.fields.key → d ≡ sets c 46 keys → e ≡ sets d 175 last → e ≡ set_bytes s
unfolding set_bytes
set-stored s k l m f g h u v w x =
    four_runs (replicate set_size 0) (set_head s) s.fields.key (s.supplemental.count ∷ s.supplemental.keys) (kads_bytes s.fields.kads) 14 46 175 (rw f at u) v (rw g at w) (rw h at x) refl (omega (arith, k)) (omega (arith, l)) (omega (arith, kads-length s.fields.kads m))
