-- Words that sort elements: beside each place a word of those that pass its test; and a loop that forms one word.
-- Assumes nothing.
use Prim.Native.Nat.{ℕ, ◌+◌, ◌*◌, ◌%◌, ◌≤◌, ◌<◌, ◌^◌}
use mathlib.Core.Path.{◌≡◌, refl, sym, ap, ◌∙◌}
use mathlib.Core.List.{List}
use mathlib.Core.Bool.{Bool, true, false, ◌&&◌, ◌||◌, or-false, and-false}
use native.Mathlib.Nat.{one-mul, mod-eq_of_lt}
use native.Mathlib.Omega.{arith}
use borrow.Author.Tests.{eqb-true, eqb-false, eq-eqb, lt-ltb, le-ltb, ltb-true, ltb-false}
use lib.Bits.{bit_or}
use lib.Dec.{eqb, ltb}
use lib.ListN.{length, get_or, set, length-set}
use lib.Seq.{ext_get_or, get_or-set_same, get_or-set_other}
use lib.Pow.{pow-lt}
use Rattle.arrays.specs.Arrays.{word_of}
use Rattle.arrays.specs.Words.{words_of}
use Rattle.arrays.proofs.Base.{cases}
use Rattle.arrays.proofs.Laws.{length-map_from, get_d-map_from}
use Rattle.arrays.proofs.Algebra.{word-or, word_same, word_none, word-one}

module _ {A B : Type 0} (q : ℕ → ℕ → A → Bool) (xs : List A) (ys : List B) where
  -- as many words as places
  pub words-length : length (words_of q xs ys) ≡ length ys
  words-length = length-map_from (λ place y. word_of (q place) xs) 0 ys

  -- the word of a place
  pub words-at : (e : B) (place : ℕ) → place < length ys → get_or (words_of q xs ys) place 0 ≡ word_of (q place) xs
  words-at e place h = get_d-map_from (λ k y. word_of (q k) xs) ys place e 0 h

module _ {A B : Type 0} (d : A) (e : B) (q r : ℕ → ℕ → A → Bool) (xs zs : List A) (ys : List B) (l : length xs ≡ length zs) where
  -- tests that tell the same at each place and element make the same words
  pub words_same : ((place n : ℕ) → place < length ys → n < length xs → q place n (get_or xs n d) ≡ r place n (get_or zs n d)) → words_of q xs ys ≡ words_of r zs ys
  words_same f =
      ext_get_or 0 (words_of q xs ys) (words_of r zs ys) (words-length q xs ys ∙ sym (words-length r zs ys))
      (λ place h.
      let t : place < length ys = omega (arith, words-length q xs ys, h) in
      words-at q xs ys e place t ∙ word_same (q place) (r place) d d xs zs l (λ n u. f place n t u) ∙ sym (words-at r zs ys e place t))

  -- one word stored: where it is that place's new one, and the tests tell the same at the others, all are the new ones
  pub words-set : (p v : ℕ) → v ≡ word_of (r p) zs → ((place n : ℕ) → eqb place p ≡ false → place < length ys → n < length xs → q place n (get_or xs n d) ≡ r place n (get_or zs n d)) → set (words_of q xs ys) p v ≡ words_of r zs ys
  words-set p v here f =
      let size : length (set (words_of q xs ys) p v) ≡ length ys = length-set (words_of q xs ys) p v ∙ words-length q xs ys in
      ext_get_or 0 (set (words_of q xs ys) p v) (words_of r zs ys) (size ∙ sym (words-length r zs ys))
      (λ place h. let t : place < length ys = omega (arith, size, h) in at place t ∙ sym (words-at r zs ys e place t))
    where
      at : (place : ℕ) → place < length ys → get_or (set (words_of q xs ys) p v) place 0 ≡ word_of (r place) zs
      at place t =
          cases (eqb place p)
          (λ y.
          let same : place ≡ p = eqb-true _ _ y in
          rw same (get_or-set_same (words_of q xs ys) p v 0 (omega (arith, same, words-length q xs ys)) ∙ here))
          (λ y.
          get_or-set_other (words_of q xs ys) p place v 0 (eqb-false _ _ y)
          ∙ words-at q xs ys e place t ∙ word_same (q place) (r place) d d xs zs l (λ n u. f place n y t u))

-- a step of "below": the index itself comes in
pub below-here : (i : ℕ) → ltb i (i + 1) ≡ true
below-here i = lt-ltb i (i + 1) (omega arith)

pub below_other : (k i : ℕ) → eqb k i ≡ false → ltb k (i + 1) ≡ ltb k i
below_other k i e =
    let ne : k ≡ i → ⊥ = eqb-false k i e in
    cases (ltb k i)
    (λ t. lt-ltb k (i + 1) (omega (arith, ltb-true k i t)) ∙ sym t)
    (λ t. le-ltb k (i + 1) (omega (arith, ltb-false k i t, ne)) ∙ sym t)

-- ---- a loop that goes up and forms one word

-- the invariant: of the n elements xs, those below i that pass have their bits in w
pub record Picked {A : Type 0} (p : ℕ → A → Bool) (n : ℕ) (xs : List A) (i w : ℕ) : Type 0 where
  pub within : i ≤ n
  pub sized : length xs ≡ n
  pub made : w ≡ word_of (λ k x. ltb k i && p k x) xs

-- in a word that is the same
pub pick_same : {A : Type 0} {p : ℕ → A → Bool} {n : ℕ} {xs : List A} {i v w : ℕ} → v ≡ w → Picked p n xs i w → Picked p n xs i v
pick_same e r = record { within = r.within; sized = r.sized; made = e ∙ r.made }

module _ {A : Type 0} {p : ℕ → A → Bool} {n : ℕ} {xs : List A} (d : A) where
  -- no bit is there yet
  pub pick-starts : length xs ≡ n → Picked p n xs 0 0
  pick-starts h =
      record { within = omega arith; sized = h; made = sym (word_same (λ k x. ltb k 0 && p k x) (λ k x. false) d d xs xs refl (λ k v. simp (le-ltb k 0 (omega arith))) ∙ word_none xs) }

  -- one more that passes
  pub pick_more : {i w : ℕ} → Picked p n xs i w → i < n → p i (get_or xs i d) ≡ true → {v : ℕ} → v ≡ 2 ^ i → Picked p n xs (i + 1) (bit_or w v)
  pick_more {i} {w} r h t {v} one =
      record { within = omega arith; sized = r.sized; made = joined }
    where
      at : (k : ℕ) → k < length xs → ((ltb k i && p k (get_or xs k d)) || eqb k i) ≡ (ltb k (i + 1) && p k (get_or xs k d))
      at k l =
          cases (eqb k i)
          (λ y. let same : k ≡ i = eqb-true k i y in rw (same, eq-eqb i i refl, below-here i, t, le-ltb i i (omega arith)))
          (λ y. rw (y, below_other k i y) (or-false (ltb k i && p k (get_or xs k d))))

      joined : bit_or w v ≡ word_of (λ k x. ltb k (i + 1) && p k x) xs
      joined =
          rw (r.made, one, ← word-one xs i (omega (arith, r.sized)), word-or (λ k x. ltb k i && p k x) (λ k x. eqb k i) xs)
          (word_same (λ k x. (ltb k i && p k x) || eqb k i) (λ k x. ltb k (i + 1) && p k x) d d xs xs refl at)

  -- one more that doesn't
  pub pick-passes : {i w : ℕ} → Picked p n xs i w → i < n → p i (get_or xs i d) ≡ false → Picked p n xs (i + 1) w
  pick-passes {i} {w} r h f =
      record {
        within = omega arith;
        sized = r.sized;
        made = r.made ∙ word_same (λ k x. ltb k i && p k x) (λ k x. ltb k (i + 1) && p k x) d d xs xs refl
            (λ k l. cases (eqb k i)
            (λ y. let same : k ≡ i = eqb-true k i y in rw (same, f, and-false (ltb i i), and-false (ltb i (i + 1))))
            (λ y. rw (below_other k i y)));
      }

  -- all are there
  pub pick_ends : {i w : ℕ} → Picked p n xs i w → n ≤ i → w ≡ word_of p xs
  pick_ends {i} r h =
      r.made ∙ word_same (λ k x. ltb k i && p k x) p d d xs xs refl (λ k l. ap (λ (b : Bool). b && p k (get_or xs k d)) (lt-ltb k i (omega (arith, r.sized))))

-- `1 << n` in words of m digits
pub shifted_one : (m n : ℕ) → n < m → 1 * 2 ^ n % 2 ^ m ≡ 2 ^ n
shifted_one m n h = rw (one-mul (2 ^ n)) (mod-eq_of_lt (pow-lt h))
