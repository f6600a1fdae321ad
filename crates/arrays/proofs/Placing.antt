-- A loop that goes over the places and gives each the elements that it is the first to take.
-- Assumes nothing.
use Prim.Native.Nat.{ℕ, zero, suc, ◌+◌, ◌≤◌, ◌<◌}
use mathlib.Core.Path.{◌≡◌, refl, sym, ap, ◌∙◌}
use mathlib.Core.List.{List}
use mathlib.Core.Bool.{Bool, true, false, not, ◌&&◌, ◌||◌, and-true}
use native.Mathlib.Numerals.{add-one}
use native.Mathlib.Omega.{arith}
use borrow.Author.Tests.{eqb-true, eq-eqb, lt-ltb, le-ltb, ltb-true, ltb-false, not-true}
use lib.Bits.{bit_xor}
use lib.Dec.{eqb, ltb}
use lib.ListN.{length, get_or, set, replicate, length-replicate, get_or-replicate}
use lib.Seq.{ext_get_or}
use Rattle.arrays.specs.Arrays.{word_of}
use Rattle.arrays.specs.Words.{words_of, some_below}
use Rattle.arrays.proofs.Base.{cases, clash, both, and_both, same_truth}
use Rattle.arrays.proofs.Algebra.{apart, word-xor, word_same, word_none}
use Rattle.arrays.proofs.Joining.{some_at}
use Rattle.arrays.proofs.Sorting.{words-length, words-at, words_same, words-set, below-here, below_other}

-- ---- the first that passes

-- where one passes, one is the first
pub some_first : {C : Type 0} (p : ℕ → Bool) (m : ℕ) → some_below m p ≡ true → ((k : ℕ) → k < m → p k ≡ true → some_below k p ≡ false → C) → C
some_first p zero e f = clash e refl
some_first p (suc m) e f =
    cases (some_below m p)
    (λ t. some_first p m t (λ k h. f k (omega arith)))
    (λ none. f m (omega arith) (sym (ap (λ (b : Bool). b || p m) none) ∙ e) none)

-- and no other
pub first-only : (p : ℕ → Bool) (k i : ℕ) → p k ≡ true → some_below k p ≡ false → (not (some_below i p) && p i) ≡ eqb k i
first-only p k i t none =
    same_truth (not (some_below i p) && p i) (eqb k i)
    (λ u.
    let here = and_both (not (some_below i p)) (p i) u in
    cases (ltb k i)
    (λ less. clash (some_at p i k (ltb-true k i less) t) (not-true _ here.0))
    (λ more. cases (ltb i k)
    (λ less. clash (some_at p k i (ltb-true i k less) here.1) none)
    (λ same. eq-eqb k i (omega (arith, ltb-false k i more, ltb-false i k same)))))
    (λ u. let e : k ≡ i = eqb-true k i u in rw (← e) (both (not (some_below k p)) (p k) (ap not none) t))

-- ---- the loop

module _ {A : Type 0} (p : ℕ → A → Bool) (q : ℕ → ℕ → A → Bool) where
  -- the element is to be placed, and no place below takes it
  abbrev pub waiting : ℕ → ℕ → A → Bool
  waiting place n x = p n x && not (some_below place (λ k. q k n x))

  -- the place is the first to take it
  abbrev pub taking : ℕ → ℕ → A → Bool
  taking place n x = waiting place n x && q place n x

  -- so far
  abbrev taking_below : ℕ → ℕ → ℕ → A → Bool
  taking_below i place n x = ltb place i && taking place n x

-- the invariant: each of the m places below i has the elements that it takes first, and the others wait
pub record Placed {A B : Type 0} (p : ℕ → A → Bool) (q : ℕ → ℕ → A → Bool) (m : ℕ) (xs : List A) (ys : List B) (i : ℕ) (words : List ℕ) (rest : ℕ) : Type 0 where
  pub within : i ≤ m
  pub sized : length ys ≡ m
  pub made : words ≡ words_of (taking_below p q i) xs ys
  pub left : rest ≡ word_of (waiting p q i) xs

module _ {A B : Type 0} {p : ℕ → A → Bool} {q : ℕ → ℕ → A → Bool} {m : ℕ} {xs : List A} {ys : List B} (d : A) (e : B) where
  -- all that are to be placed wait
  pub place-starts : {rest : ℕ} → length ys ≡ m → rest ≡ word_of p xs → Placed p q m xs ys 0 (replicate m 0) rest
  place-starts {rest} l h =
      record { within = omega arith; sized = l; made = zeros; left = h ∙ word_same p (waiting p q 0) d d xs xs refl (λ n k. sym (and-true (p n (get_or xs n d)))) }
    where
      zeros : replicate m 0 ≡ words_of (taking_below p q 0) xs ys
      zeros =
          ext_get_or 0 (replicate m 0) (words_of (taking_below p q 0) xs ys) (length-replicate m 0 ∙ sym l ∙ sym (words-length (taking_below p q 0) xs ys))
          (λ place t.
          let u : place < m = omega (arith, length-replicate {A = ℕ} m 0, t) in
          get_or-replicate m place 0 0 u ∙ sym (words-at (taking_below p q 0) xs ys e place (omega arith) ∙ word_same (taking_below p q 0 place) (λ k x. false) d d xs xs refl (λ k v. simp (le-ltb place 0 (omega arith))) ∙ word_none xs))

  -- one place more: it gets those that wait and that it takes, and they wait no longer
  pub place-more : {i : ℕ} {words : List ℕ} {rest : ℕ} → Placed p q m xs ys i words rest → i < m → {own : ℕ} → own ≡ word_of (taking p q i) xs
      → Placed p q m xs ys (i + 1) (set words i own) (bit_xor rest own)
  place-more {i} {words} {rest} r h {own} o =
      record { within = omega arith; sized = r.sized; made = stored; left = fewer }
    where
      stored : set words i own ≡ words_of (taking_below p q (i + 1)) xs ys
      stored =
          ap (λ (w : List ℕ). set w i own) r.made
          ∙ words-set d e (taking_below p q i) (taking_below p q (i + 1)) xs xs ys refl i own
          (o ∙ word_same (taking p q i) (taking_below p q (i + 1) i) d d xs xs refl (λ n k. rw (below-here i)))
          (λ place n y t k. rw (below_other place i y))

      gone : (a s b : Bool) → apart (a && not s) (a && not s && b) ≡ (a && not (s || b))
      gone true true b = refl
      gone true false true = refl
      gone true false false = refl
      gone false s b = refl

      fewer : bit_xor rest own ≡ word_of (waiting p q (i + 1)) xs
      fewer =
          rw (r.left, o) (word-xor (waiting p q i) (taking p q i) xs)
          ∙ word_same (λ n x. apart (waiting p q i n x) (taking p q i n x)) (waiting p q (i + 1)) d d xs xs refl
          (λ n k. rw (add-one i) (gone (p n (get_or xs n d)) (some_below i (λ j. q j n (get_or xs n d))) (q i n (get_or xs n d))))

  -- each place has what it takes first; those wait that no place takes
  pub place-ends : {i : ℕ} {words : List ℕ} {rest : ℕ} → Placed p q m xs ys i words rest → m ≤ i → (words ≡ words_of (taking p q) xs ys) × (rest ≡ word_of (waiting p q m) xs)
  place-ends {i} {words} {rest} r h =
      let last : i ≡ m = omega (arith, r.within) in (
        r.made ∙ words_same d e (taking_below p q i) (taking p q) xs xs ys refl (λ place n t k. simp (lt-ltb place i (omega (arith, r.sized)))),
        r.left ∙ ap (λ (j : ℕ). word_of (waiting p q j) xs) last,
      )
