-- Laws of `descriptor` and `descriptors`.
-- Assumes nothing.
use mathlib.Core.Path.{◌≡◌, refl, sym, ap, ◌∙◌}
use mathlib.Core.List.{List, [], ◌∷◌, ◌++◌}
use Prim.Native.Nat.{ℕ, ◌+◌, ◌<◌, ◌≤◌, min}
use native.Mathlib.Nat.{zero-add}
use native.Mathlib.Omega.{arith}
use borrow.Author.Tests.{leb-true, leb-false}
use lib.Dec.{leb}
use lib.ListN.{length, take, length-append, length-take, replicate}
use Rattle.arrays.proofs.Base.{cases}
use lib.Seq.{sets, take_all}
use Rattle.wire.specs.Buffers.{padded}
use Rattle.wire.proofs.Numbers.{two-small}
use Rattle.wire.proofs.Stores.{sets-append, sets-shown}
use Rattle.kad.specs.Kad.{u_most, a_most, Sized}
use Rattle.kad.specs.Reading.{descriptor_head}
use Rattle.kad.specs.Writing.{descriptor, u_data, a_data, descriptors, list_most, written}
use Rattle.kad.specs.declared.Kads.{Kads}

-- no data, no descriptor
pub none : (kind : ℕ) (d : List ℕ) → length d ≡ 0 → descriptor kind d ≡ []
none kind [] h = refl
none kind (x ∷ d) h = absurd (omega arith)

-- data of fewer than 256 bytes, after their type and their length
pub some : (kind : ℕ) (d : List ℕ) → (length d ≡ 0 → ⊥) → length d < 256 → descriptor kind d ≡ kind ∷ 0 ∷ 0 ∷ length d ∷ d
some kind [] h l = absurd (h refl)
some kind (x ∷ d) h l = ap (λ (t : List ℕ). kind ∷ 0 ∷ (t ++ x ∷ d)) (two-small (length (x ∷ d)) l)

-- it has at most four bytes more than its data
pub size : (kind : ℕ) (d : List ℕ) → length (descriptor kind d) ≤ descriptor_head + length d
size kind [] = omega arith
size kind (x ∷ d) = omega arith

-- ---- both

-- where the data have at most 32 and 12 bytes, their descriptors have at most 52
pub descriptors-le : (k : Kads) → length (u_data k) ≤ u_most → length (a_data k) ≤ a_most → length (descriptors k) ≤ list_most
unfolding descriptors
descriptors-le k u a = omega (arith, length-append (descriptor 0 (u_data k)) (descriptor 1 (a_data k)), size 0 (u_data k), size 1 (a_data k))

-- as many of m bytes as n asks for
take-most : (n m : ℕ) (l : List ℕ) → length l ≡ m → take (min n m) l ≡ take n l
take-most n m l e =
    cases (leb n m) (λ h. let le = leb-true n m h in let k : min n m ≡ n = omega arith in rw k refl)
    (λ h. let lt = leb-false n m h in let k : min n m ≡ m = omega arith in rw k (take_all m l (omega arith) ∙ sym (take_all n l (omega arith))))

module _ (k : Kads) (z : Sized k) where
  -- in arrays that have their sizes the data have no more, whatever their lengths say
  pub sized-le : length (descriptors k) ≤ list_most
  sized-le =
      descriptors-le k (omega (arith, length-take k.ukad.length k.ukad.bytes, z.0)) (omega (arith, length-take k.akad.length k.akad.bytes, z.1))

  -- one stored after the other in zeros is what is written
  pub stored : {m n next end : ℕ} {b₁ b₂ : List ℕ} → m ≡ min k.ukad.length u_most → n ≡ min k.akad.length a_most
      → next ≡ 0 + length (descriptor 0 (take m k.ukad.bytes)) → b₁ ≡ sets (replicate list_most 0) 0 (descriptor 0 (take m k.ukad.bytes))
      → end ≡ next + length (descriptor 1 (take n k.akad.bytes)) → b₂ ≡ sets b₁ next (descriptor 1 (take n k.akad.bytes))
      → (record { length = end; bytes = b₂ } ≡ written k) × (end ≤ list_most)
  unfolding descriptors
  stored {m} {n} {next} {end} {b₁} {b₂} p q r s t v =
      let x : take m k.ukad.bytes ≡ u_data k = rw p (take-most k.ukad.length u_most k.ukad.bytes z.0) in
      let y : take n k.akad.bytes ≡ a_data k = rw q (take-most k.akad.length a_most k.akad.bytes z.1) in
      let tells : end ≡ length (descriptors k) = t ∙ rw (r, x, y, zero-add) (sym (length-append (descriptor 0 (u_data k)) (descriptor 1 (a_data k)))) in
      let holds : b₂ ≡ padded list_most (descriptors k) = v ∙ rw (s, r, x, y) (sets-append (replicate list_most 0) 0 (descriptor 0 (u_data k)) (descriptor 1 (a_data k)) ∙ sets-shown (descriptors k) (replicate list_most 0)) in
      (rw (tells, holds) refl, omega (arith, tells, sized-le))
