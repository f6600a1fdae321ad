-- The ones over several words: counted by words or by elements they are as many.
-- Assumes nothing.
use Prim.Native.Nat.{ℕ, zero, suc, ◌+◌, ◌*◌, ◌<◌, suc-le-suc}
use mathlib.Core.Path.{◌≡◌, refl, ap, ◌∙◌}
use mathlib.Core.List.{List, [], ◌∷◌}
use mathlib.Core.Bool.{Bool}
use native.Mathlib.Nat.{le_of_suc-le-suc, not-suc-le-zero, add-zero, add-suc, suc-add, zero-add}
use native.Mathlib.Omega.{arith}
use borrow.Author.Tests.{eq-eqb, ne_eqb}
use lib.Count.{ones, ones_step}
use lib.Dec.{eqb}
use lib.ListN.{length, get_or}
use Rattle.arrays.specs.Base.{bit}
use Rattle.arrays.specs.Arrays.{map_from, fold_from, count, word_of}
use Rattle.arrays.specs.Words.{ones_over}
use Rattle.arrays.proofs.Words.{word_from}
use Rattle.arrays.proofs.Algebra.{low, high}

-- the number 0 has no one
ones-zero : ones 0 ≡ 0
unfolding ones
ones-zero = refl

-- a word has as many ones as elements that pass
ones-from : {A : Type 0} (p : ℕ → A → Bool) (xs : List A) (b : ℕ) → ones (word_from p b xs) ≡ fold_from (λ k x r. bit (p k x) + r) 0 b xs
ones-from p [] b = ones-zero
ones-from p (x ∷ xs) b = let w = word_from p (suc b) xs in
    rw (ones_step (2 * w + bit (p b x)), low (p b x) w, high (p b x) w) (ap (λ (n : ℕ). bit (p b x) + n) (ones-from p xs (suc b)))

-- q tells of a word's index, an element's index and the element; b counts the words, k the elements
module _ {A B : Type 0} (q : ℕ → ℕ → A → Bool) where
  -- how many elements each word has, added up
  abbrev rows : ℕ → List B → ℕ → List A → ℕ
  rows b ys k xs = fold_from (λ i (y : B) r. fold_from (λ j x s. bit (q i j x) + s) 0 k xs + r) 0 b ys

  -- how many words have the element
  abbrev column : ℕ → List B → ℕ → A → ℕ
  column b ys k x = fold_from (λ i (y : B) r. bit (q i k x) + r) 0 b ys

  rows_none : (ys : List B) (b k : ℕ) → rows b ys k [] ≡ 0
  rows_none [] b k = refl
  rows_none (y ∷ ys) b k = omega (arith, rows_none ys (suc b) k)

  -- one element more: the words that have it, and the others
  rows_more : (ys : List B) (b k : ℕ) (x : A) (xs : List A) → rows b ys k (x ∷ xs) ≡ column b ys k x + rows b ys (suc k) xs
  rows_more [] b k x xs = refl
  rows_more (y ∷ ys) b k x xs = omega (arith, rows_more ys (suc b) k x xs)

  rows-once : (ys : List B) (d : A) (xs : List A) (k : ℕ) → ((n : ℕ) → n < length xs → column 0 ys (k + n) (get_or xs n d) ≡ 1) → rows 0 ys k xs ≡ length xs
  rows-once ys d [] k f = rows_none ys 0 k
  rows-once ys d (x ∷ xs) k f =
      let here : column 0 ys k x ≡ 1 = rw add-zero at (f zero (omega arith)) in
      let rest : rows 0 ys (suc k) xs ≡ length xs = rows-once ys d xs (suc k) (λ n h. rw (suc-add k n, ← add-suc k n) (f (suc n) (suc-le-suc h))) in
      omega (arith, rows_more ys 0 k x xs, here, rest)

  -- the ones of the words are their counts
  ones-rows : (ys : List B) (xs : List A) (b i : ℕ) → fold_from (λ k word r. ones word + r) 0 i (map_from (λ place (y : B). word_of (q place) xs) b ys) ≡ rows b ys 0 xs
  ones-rows [] xs b i = refl
  ones-rows (y ∷ ys) xs b i = omega (arith, ones-from (q b) xs 0, ones-rows ys xs (suc b) (suc i))

  -- where each element is in exactly one of the words, the ones over all words are as many as the elements
  pub ones-total : (ys : List B) (d : A) (xs : List A) → ((n : ℕ) → n < length xs → count (λ place (y : B). q place n (get_or xs n d)) ys ≡ 1) → ones_over (map_from (λ place (y : B). word_of (q place) xs) 0 ys) ≡ length xs
  ones-total ys d xs f = ones-rows ys xs 0 0 ∙ rows-once ys d xs 0 (λ n h. rw zero-add (f n h))

module _ {B : Type 0} where
  never-from : (ys : List B) (b place : ℕ) → place < b → fold_from (λ k (y : B) r. bit (eqb place k) + r) 0 b ys ≡ 0
  never-from [] b place h = refl
  never-from (y ∷ ys) b place h = rw (ne_eqb place b (λ e. omega arith)) (omega (arith, never-from ys (suc b) place (omega arith)))

  once-first : (y : B) (ys : List B) (b place : ℕ) → place ≡ b → fold_from (λ k (y : B) r. bit (eqb place k) + r) 0 b (y ∷ ys) ≡ 1
  once-first y ys b place e = rw (eq-eqb place b e) (omega (arith, never-from ys (suc b) place (omega arith)))

  once-from : (ys : List B) (b place : ℕ) → place < length ys → fold_from (λ k (y : B) r. bit (eqb (b + place) k) + r) 0 b ys ≡ 1
  once-from [] b place h = absurd (not-suc-le-zero h)
  once-from (y ∷ ys) b zero h = once-first y ys b (b + 0) (add-zero b)
  once-from (y ∷ ys) b (suc place) h =
      let r : fold_from (λ k (z : B) s. bit (eqb (b + suc place) k) + s) 0 (suc b) ys ≡ 1 = rw (add-suc b place, ← suc-add b place) (once-from ys (suc b) place (le_of_suc-le-suc h)) in
      rw (ne_eqb (b + suc place) b (λ e. omega arith)) (omega (arith, r))

  -- an index of a list is exactly one of its indices
  pub counted-once : (ys : List B) (place : ℕ) → place < length ys → count (λ k (y : B). eqb place k) ys ≡ 1
  counted-once ys place h = rw zero-add at (once-from ys 0 place h)

-- So where each element picks one of the words, by its index, the ones over all words are as many as the elements.
pub ones-picked : {A B : Type 0} (pick : ℕ → A → ℕ) (d : A) (xs : List A) (ys : List B) → ((n : ℕ) → n < length xs → pick n (get_or xs n d) < length ys) → ones_over (map_from (λ place (y : B). word_of (λ n x. eqb (pick n x) place) xs) 0 ys) ≡ length xs
ones-picked pick d xs ys f = ones-total (λ place n x. eqb (pick n x) place) ys d xs (λ n h. counted-once ys (pick n (get_or xs n d)) (f n h))
