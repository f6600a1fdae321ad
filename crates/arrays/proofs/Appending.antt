-- Folds that ask for no index: over a list after another, and over the first elements.
-- Assumes nothing.
use Prim.Native.Nat.{ℕ, suc, ◌+◌, ◌≤◌}
use mathlib.Core.Path.{◌≡◌, refl, ap}
use mathlib.Core.List.{List, [], ◌∷◌, ◌++◌}
use mathlib.Core.Bool.{Bool}
use native.Mathlib.Omega.{arith}
use lib.ListN.{length}
use Rattle.arrays.specs.Base.{bit}
use Rattle.arrays.specs.Arrays.{fold_from, count}
use Rattle.arrays.proofs.Loops.{bit-few}

-- it matters not where the index starts
pub fold-shift : {A R : Type 0} (g : A → R → R) (z : R) (k j : ℕ) (xs : List A) → fold_from (λ i. g) z k xs ≡ fold_from (λ i. g) z j xs
fold-shift g z k j [] = refl
fold-shift g z k j (x ∷ xs) = ap (g x) (fold-shift g z (suc k) (suc j) xs)

module _ {A : Type 0} (p : A → Bool) where
  pub count-cons : (x : A) (xs : List A) → count (λ k. p) (x ∷ xs) ≡ bit (p x) + count (λ k. p) xs
  count-cons x xs = ap (λ n. bit (p x) + n) (fold-shift (λ x r. bit (p x) + r) 0 1 0 xs)

  pub count-append : (xs ys : List A) → count (λ k. p) (xs ++ ys) ≡ count (λ k. p) xs + count (λ k. p) ys
  count-append [] ys = omega arith
  count-append (x ∷ xs) ys = omega (arith, count-cons x (xs ++ ys), count-append xs ys, count-cons x xs)

  -- no more pass than there are
  pub count_most : (xs : List A) → count (λ k. p) xs ≤ length xs
  count_most [] = omega arith
  count_most (x ∷ xs) = omega (arith, count-cons x xs, count_most xs, bit-few (p x))
