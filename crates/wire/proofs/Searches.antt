-- What the library answers of bytes, in the words of the definitions: the first that is not zero, and whether two lists are the same.
-- Assumes nothing.
use Prim.Native.Nat.{ℕ}
use mathlib.Core.Path.{◌≡◌, refl, sym, ◌∙◌}
use mathlib.Core.Bool.{true}
use mathlib.Core.List.{List}
use borrow.Author.Tests.{eqb-true, eq-eqb}
use lib.Dec.{eqb}
use lib.ListN.{length}
use lib.Pointwise.{pointwise, bytes_decides}
use Rattle.std.proofs.Common.{ext_get_or}
use Rattle.arrays.specs.Arrays.{each}
use Rattle.arrays.proofs.Base.{cases, and_left, and_right, both}
use Rattle.arrays.proofs.Laws.{each_at, each_of}
use Rattle.wire.specs.Numbers.{byte_at}
use Rattle.wire.specs.Buffers.{same_bytes}

-- ---- the same bytes

pub same_self : (l : List ℕ) → same_bytes l l ≡ true
same_self l = both (eqb (length l) (length l)) _ (eq-eqb (length l) (length l) refl) (each_of (λ i x. eqb x (byte_at l i)) 0 l (λ k h. eq-eqb (byte_at l k) (byte_at l k) refl))

pub same_true : (a b : List ℕ) → same_bytes a b ≡ true → a ≡ b
same_true a b e =
    let long = eqb (length a) (length b) in
    let all = each (λ i x. eqb x (byte_at b i)) a in
    ext_get_or 0 a b (eqb-true (length a) (length b) (and_left long all e)) (λ i h. eqb-true (byte_at a i) (byte_at b i) (each_at (λ k x. eqb x (byte_at b k)) 0 a (and_right long all e) i h))

-- what `==` answers
pub same-pointwise : (a b : List ℕ) → pointwise eqb a b ≡ same_bytes a b
same-pointwise a b =
    cases (pointwise eqb a b)
    (λ t. t ∙ sym (rw ((bytes_decides a b).0 t) (same_self b)))
    (λ f. cases (same_bytes a b) (λ t. (bytes_decides a b).1 (same_true a b t) ∙ sym t) (λ g. f ∙ sym g))
