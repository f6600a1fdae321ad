-- A word with one bit for each element: its lowest set bit is the lowest element that passes, and a loop that goes down makes it.
-- Assumes nothing.
use Prim.Native.Nat.{ℕ, zero, suc, ◌+◌, ◌-◌, ◌*◌, ◌/◌, ◌%◌, ◌^◌, ◌≤◌, ◌<◌}
use mathlib.Core.Path.{◌≡◌, refl, sym, ap, ◌∙◌}
use mathlib.Core.List.{List, [], ◌∷◌}
use mathlib.Core.Bool.{Bool, true, false}
use native.Mathlib.Nat.{le_of_suc-le-suc, not-suc-le-zero, add-zero, add-suc, suc-add, pow-suc, zero-add}
use native.Mathlib.Omega.{arith}
use borrow.Author.Tests.{ne_eqb}
use lib.Count.{count_trailing_zeros}
use lib.Dec.{eqb}
use lib.ListN.{length, get_or, drop, length-drop, drop_of_length-le}
use lib.Pow.{pow_mono}
use Rattle.arrays.specs.Base.{when◌then◌else◌, bit}
use Rattle.arrays.specs.Arrays.{fold_from, find, word_of}
use Rattle.arrays.proofs.Loops.{bit-few, unroll}

-- the word of the elements, their indices counted from k
abbrev pub word_from : {A : Type 0} → (ℕ → A → Bool) → ℕ → List A → ℕ
word_from p = fold_from (λ k x r. 2 * r + bit (p k x)) 0

-- ---- the lowest set bit

-- a word is 0 where its lowest digit is not set and the rest is 0
zero-step : (q : Bool) (r : ℕ) → eqb (2 * r + bit q) 0 ≡ when q then false else eqb r 0
zero-step true r = ne_eqb (2 * r + 1) 0 (λ e. omega arith)
zero-step false r = rw add-zero (zero-double r)
  where
    zero-double : (r : ℕ) → eqb (2 * r) 0 ≡ eqb r 0
    zero-double zero = refl
    zero-double (suc r) = ne_eqb (2 * suc r) 0 (λ e. omega arith) ∙ sym (ne_eqb (suc r) 0 (λ e. omega arith))

-- trailing zeros: none where the lowest digit is set, else one more than the rest has
trail-step : (q : Bool) (m r : ℕ) → count_trailing_zeros (suc m) (2 * r + bit q) ≡ when q then 0 else suc (count_trailing_zeros m r)
unfolding count_trailing_zeros
trail-step true m r = let low : (2 * r + 1) % 2 ≡ 1 = omega arith in rw low
trail-step false m r =
    let low : (2 * r + 0) % 2 ≡ 0 = omega arith in
    let high : (2 * r + 0) / 2 ≡ r = omega arith in
    rw (low, high)

module _ {A R : Type 0} (at : ℕ → R) (none : R) (p : ℕ → A → Bool) where
  abbrev find_from : ℕ → List A → R
  find_from = fold_from (λ k x r. when p k x then at k else r) none

  -- the lowest that passes: the first, or the lowest of the rest
  low_step : (q : Bool) (b t : ℕ) (none_left : Bool) (rest : R) → rest ≡ when none_left then none else at (suc b + t)
      → when q then at b else rest ≡ when (when q then false else none_left) then none else at (b + (when q then 0 else suc t))
  low_step true b t none_left rest e = rw add-zero refl
  low_step false b t none_left rest e = rw (add-suc b t, ← suc-add b t) e

  -- from any element on
  low-from : (xs : List A) (b m : ℕ) → length xs ≤ m → find_from b xs ≡ when eqb (word_from p b xs) 0 then none else at (b + count_trailing_zeros m (word_from p b xs))
  low-from [] b m h = refl
  low-from (x ∷ xs) b zero h = absurd (not-suc-le-zero h)
  low-from (x ∷ xs) b (suc m) h =
      let w = word_from p (suc b) xs in
      rw (zero-step (p b x) w, trail-step (p b x) m w) (low_step (p b x) b (count_trailing_zeros m w) (eqb w 0) _ (low-from xs (suc b) m (le_of_suc-le-suc h)))

  -- the trailing zeros of a word that is not 0, in a width m of digits, tell the lowest index that passes; where it is 0 none does
  pub lowest-bit : (xs : List A) (m : ℕ) → length xs ≤ m → when eqb (word_of p xs) 0 then none else at (count_trailing_zeros m (word_of p xs)) ≡ find at none p xs
  lowest-bit xs m h = sym (rw zero-add at (low-from xs 0 m h))

-- ---- a loop that goes down and forms a word

-- the invariant: w has the bits of the elements from i on, element i's lowest
pub record Worded {A : Type 0} (p : ℕ → A → Bool) (n : ℕ) (xs : List A) (i w : ℕ) : Type 0 where
  pub within : i ≤ n
  pub sized : length xs ≡ n
  pub made : w ≡ word_from p i (drop i xs)

pub double : (m : ℕ) → 2 ^ suc m ≡ 2 * 2 ^ m
double m = omega (arith, pow-suc 2 m)

-- a word has a digit for each element
pub word_below : {A : Type 0} (p : ℕ → A → Bool) (xs : List A) (b : ℕ) → word_from p b xs < 2 ^ length xs
word_below p [] b = omega arith
word_below p (x ∷ xs) b = omega (arith, double (length xs), word_below p xs (suc b), bit-few (p b x))

module _ {A : Type 0} {p : ℕ → A → Bool} {n : ℕ} {xs : List A} where
  -- no bit is there yet
  pub word-starts : length xs ≡ n → Worded p n xs n 0
  word-starts h = record { within = omega arith; sized = h; made = ap (word_from p n) (sym (drop_of_length-le xs {i = n} (omega arith))) }

  -- one more, downward
  pub word_more : {i w : ℕ} → Worded p n xs i w → 0 < i → (d : A) {b : Bool} → b ≡ p (i - 1) (get_or xs (i - 1) d) → Worded p n xs (i - 1) (2 * w + bit b)
  word_more {i} {w} r h d e =
      let back : i - 1 + 1 ≡ i = omega arith in
      record { within = omega arith; sized = r.sized; made = rw (e, r.made) (sym (rw back at (unroll (λ k x s. 2 * s + bit (p k x)) 0 xs (i - 1) d (omega (arith, r.within, r.sized))))) }

  -- and there is room for it in a width m of digits, where n elements have room
  pub word_fits : {i w : ℕ} → Worded p n xs i w → 0 < i → (m : ℕ) → n ≤ m → (b : Bool) → 2 * w + bit b < 2 ^ m
  word_fits {i} {w} r h m l b =
      let digits : length (drop i xs) ≡ n - i = length-drop i xs ∙ ap (λ (k : ℕ). k - i) r.sized in
      let below : w < 2 ^ (n - i) = rw (r.made, ← digits) (word_below p (drop i xs) i) in
      let fits : 2 ^ suc (n - i) ≤ 2 ^ m = pow_mono (omega (arith, r.within)) in
      omega (arith, below, double (n - i), fits, bit-few b)

  -- each bit is there
  word-ends : {i w : ℕ} → Worded p n xs i w → i ≤ 0 → w ≡ word_of p xs
  word-ends {i} r h = let e : i ≡ 0 = omega arith in rw e at r.made

  -- each but element 0's, which doesn't pass: one more doubling
  pub word-ends-above-0 : {i w : ℕ} → Worded p n xs i w → 0 < i → i ≤ 1 → (d : A) → p 0 (get_or xs 0 d) ≡ false → 2 * w ≡ word_of p xs
  word-ends-above-0 {i} {w} r h l d e =
      let one : i ≡ 1 = omega arith in
      sym (add-zero (2 * w)) ∙ word-ends (word_more r h d {b = false} (rw one (sym e))) (omega arith)
