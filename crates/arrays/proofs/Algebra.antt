-- Words with a bit for each element, joined bit by bit: what `|`, `&` and `^` make of two words of one list is a word of it.
-- Assumes nothing.
use Prim.Native.Nat.{ℕ, zero, suc, ◌+◌, ◌-◌, ◌*◌, ◌/◌, ◌%◌, ◌^◌, ◌≤◌, ◌<◌, min, max, suc-le-suc}
use mathlib.Core.Path.{◌≡◌, refl, sym, ap, ◌∙◌}
use mathlib.Core.List.{List, [], ◌∷◌}
use mathlib.Core.Bool.{Bool, true, false, not, ◌&&◌, ◌||◌}
use native.Mathlib.Nat.{le_of_suc-le-suc, not-suc-le-zero, add-zero, add-suc, suc-add, zero-add}
use native.Mathlib.Numerals.{one-add}
use native.Mathlib.Omega.{arith}
use borrow.Author.Tests.{eq-eqb, ne_eqb}
use lib.Bits.{bit_and, bit_or, bit_xor, differ, and_step, or_step, xor_step}
use lib.Dec.{eqb}
use lib.ListN.{length, get_or}
use lib.Pow.{shr-shr, shr_le}
use Rattle.arrays.specs.Base.{bit}
use Rattle.arrays.specs.Arrays.{word_of}
use Rattle.arrays.specs.Words.{bit_of}
use Rattle.arrays.proofs.Words.{word_from, double}

-- a word's lowest digit, and its other digits
pub low : (q : Bool) (r : ℕ) → (2 * r + bit q) % 2 ≡ bit q
low true r = omega arith
low false r = omega arith

pub high : (q : Bool) (r : ℕ) → (2 * r + bit q) / 2 ≡ r
high true r = omega arith
high false r = omega arith

-- ---- an operation on words that goes digit by digit, as `c` does on Bools

module _ (op f : ℕ → ℕ → ℕ) (step : (a b : ℕ) → op a b ≡ op (a / 2) (b / 2) * 2 + f (a % 2) (b % 2)) (none : op 0 0 ≡ 0)
    (c : Bool → Bool → Bool) (digit : (x y : Bool) → f (bit x) (bit y) ≡ bit (c x y)) {A : Type 0} (p q : ℕ → A → Bool) where
  joined-from : (xs : List A) (b : ℕ) → op (word_from p b xs) (word_from q b xs) ≡ word_from (λ k x. c (p k x) (q k x)) b xs
  joined-from [] b = none
  joined-from (x ∷ xs) b =
      let v = word_from p (suc b) xs in
      let w = word_from q (suc b) xs in
      let e : op v w ≡ word_from (λ k y. c (p k y) (q k y)) (suc b) xs = joined-from xs (suc b) in
      rw (step (2 * v + bit (p b x)) (2 * w + bit (q b x)), low (p b x) v, high (p b x) v, low (q b x) w, high (q b x) w, digit (p b x) (q b x)) (omega (arith, e))

or-digit : (x y : Bool) → max (bit x) (bit y) ≡ bit (x || y)
or-digit true true = refl
or-digit true false = refl
or-digit false true = refl
or-digit false false = refl

and-digit : (x y : Bool) → min (bit x) (bit y) ≡ bit (x && y)
and-digit true true = refl
and-digit true false = refl
and-digit false true = refl
and-digit false false = refl

-- one or the other, and not both
abbrev pub apart : Bool → Bool → Bool
apart true y = not y
apart false y = y

xor-digit : (x y : Bool) → differ (bit x) (bit y) ≡ bit (apart x y)
xor-digit true true = refl
xor-digit true false = refl
xor-digit false true = refl
xor-digit false false = refl

module _ {A : Type 0} (p q : ℕ → A → Bool) (xs : List A) where
  -- `|`: the bits of either
  pub word-or : bit_or (word_of p xs) (word_of q xs) ≡ word_of (λ k x. p k x || q k x) xs
  word-or = joined-from bit_or max or_step refl (λ a b. a || b) or-digit p q xs 0

  -- `&`: the bits of both
  pub word_and : bit_and (word_of p xs) (word_of q xs) ≡ word_of (λ k x. p k x && q k x) xs
  word_and = joined-from bit_and min and_step refl (λ a b. a && b) and-digit p q xs 0

  -- `^`: the bits of one alone
  pub word-xor : bit_xor (word_of p xs) (word_of q xs) ≡ word_of (λ k x. apart (p k x) (q k x)) xs
  word-xor = joined-from bit_xor differ xor_step refl apart xor-digit p q xs 0

-- ---- a word by its bits

module _ {A B : Type 0} (p : ℕ → A → Bool) (q : ℕ → B → Bool) (d : A) (e : B) where
  same_from : (xs : List A) (ys : List B) (b : ℕ) → length xs ≡ length ys → ((k : ℕ) → k < length xs → p (b + k) (get_or xs k d) ≡ q (b + k) (get_or ys k e)) → word_from p b xs ≡ word_from q b ys
  same_from [] [] b l f = refl
  same_from [] (y ∷ ys) b l f = absurd (omega arith)
  same_from (x ∷ xs) [] b l f = absurd (omega arith)
  same_from (x ∷ xs) (y ∷ ys) b l f =
      let h : bit (p b x) ≡ bit (q b y) = ap bit (rw add-zero at (f zero (omega arith))) in
      let r : word_from p (suc b) xs ≡ word_from q (suc b) ys = same_from xs ys (suc b) (omega arith) (λ k t. rw (suc-add b k, ← add-suc b k) (f (suc k) (suc-le-suc t))) in
      omega (arith, h, r)

  -- tests that tell the same at each index make one word
  pub word_same : (xs : List A) (ys : List B) → length xs ≡ length ys → ((k : ℕ) → k < length xs → p k (get_or xs k d) ≡ q k (get_or ys k e)) → word_of p xs ≡ word_of q ys
  word_same xs ys l f = same_from xs ys 0 l (λ k t. rw zero-add (f k t))

-- bit 0, and a bit further up
bit-first : (q : Bool) (r : ℕ) → bit_of (2 * r + bit q) 0 ≡ q
bit-first true r = eq-eqb ((2 * r + 1) / 2 ^ 0 % 2) 1 (omega arith)
bit-first false r = ne_eqb ((2 * r + 0) / 2 ^ 0 % 2) 1 (λ e. omega arith)

bit-next : (q : Bool) (r n : ℕ) → bit_of (2 * r + bit q) (suc n) ≡ bit_of r n
bit-next q r n =
    let up : (2 * r + bit q) / 2 ^ suc n ≡ r / 2 ^ n = ap (λ (k : ℕ). (2 * r + bit q) / 2 ^ k) (sym (one-add n)) ∙ sym (shr-shr (2 * r + bit q) 1 n) ∙ ap (λ (k : ℕ). k / 2 ^ n) (high q r) in
    ap (λ (k : ℕ). eqb (k % 2) 1) up

module _ {A : Type 0} (p : ℕ → A → Bool) (d : A) where
  bit-from : (xs : List A) (b n : ℕ) → n < length xs → bit_of (word_from p b xs) n ≡ p (b + n) (get_or xs n d)
  bit-from [] b n h = absurd (not-suc-le-zero h)
  bit-from (x ∷ xs) b zero h = rw add-zero (bit-first (p b x) _)
  bit-from (x ∷ xs) b (suc n) h = rw (add-suc b n, ← suc-add b n) (bit-next (p b x) _ n ∙ bit-from xs (suc b) n (le_of_suc-le-suc h))

  -- bit n is what the test tells of element n
  pub word-bit : (xs : List A) (n : ℕ) → n < length xs → bit_of (word_of p xs) n ≡ p n (get_or xs n d)
  word-bit xs n h = rw zero-add at (bit-from xs 0 n h)

-- so one word tells the same at each index
pub word-bits : {A : Type 0} (p q : ℕ → A → Bool) (d : A) (xs : List A) → word_of p xs ≡ word_of q xs → (n : ℕ) → n < length xs → p n (get_or xs n d) ≡ q n (get_or xs n d)
word-bits p q d xs e n h = sym (word-bit p d xs n h) ∙ ap (λ (w : ℕ). bit_of w n) e ∙ word-bit q d xs n h

-- ---- no bit, one bit, each bit

module _ {A : Type 0} where
  none_from : (xs : List A) (b : ℕ) → word_from (λ k (x : A). false) b xs ≡ 0
  none_from [] b = refl
  none_from (x ∷ xs) b = omega (arith, none_from xs (suc b))

  -- where nothing passes the word is 0
  pub word_none : (xs : List A) → word_of (λ k (x : A). false) xs ≡ 0
  word_none xs = none_from xs 0

  every-from : (xs : List A) (b : ℕ) → word_from (λ k (x : A). true) b xs + 1 ≡ 2 ^ length xs
  every-from [] b = refl
  every-from (x ∷ xs) b = omega (arith, every-from xs (suc b), double (length xs))

  -- where each passes, as many ones as elements
  pub word-every : (xs : List A) → word_of (λ k (x : A). true) xs ≡ 2 ^ length xs - 1
  word-every xs = omega (arith, every-from xs 0)

  past-from : (xs : List A) (b n : ℕ) → n < b → word_from (λ k (x : A). eqb k n) b xs ≡ 0
  past-from [] b n h = refl
  past-from (x ∷ xs) b n h = rw (ne_eqb b n (λ e. omega arith)) (omega (arith, past-from xs (suc b) n (omega arith)))

  first-from : (x : A) (xs : List A) (b n : ℕ) → n ≡ b → word_from (λ k (x : A). eqb k n) b (x ∷ xs) ≡ 1
  first-from x xs b n e = rw (eq-eqb b n (sym e)) (omega (arith, past-from xs (suc b) n (omega arith)))

  one_from : (xs : List A) (b n : ℕ) → n < length xs → word_from (λ k (x : A). eqb k (b + n)) b xs ≡ 2 ^ n
  one_from [] b n h = absurd (not-suc-le-zero h)
  one_from (x ∷ xs) b zero h = first-from x xs b (b + 0) (add-zero b)
  one_from (x ∷ xs) b (suc n) h =
      let r : word_from (λ k (y : A). eqb k (b + suc n)) (suc b) xs ≡ 2 ^ n = rw (add-suc b n, ← suc-add b n) (one_from xs (suc b) n (le_of_suc-le-suc h)) in
      rw (ne_eqb b (b + suc n) (λ e. omega arith)) (omega (arith, r, double n))

  -- the word of element n alone: `1 << n`
  pub word-one : (xs : List A) (n : ℕ) → n < length xs → word_of (λ k (x : A). eqb k n) xs ≡ 2 ^ n
  word-one xs n h = rw zero-add at (one_from xs 0 n h)

-- ---- the bits of a number that has no more of them

-- no bit from n on, where n halvings leave nothing
pub bits-end : (word n k : ℕ) → word / 2 ^ n ≡ 0 → n ≤ k → bit_of word k ≡ false
bits-end word n k e h =
    let up : word / 2 ^ k ≡ 0 = (let m : n + (k - n) ≡ k = omega arith in ap (λ (j : ℕ). word / 2 ^ j) (sym m) ∙ sym (shr-shr word n (k - n)) ∙ ap (λ (j : ℕ). j / 2 ^ (k - n)) e ∙ nothing_left (k - n)) in
    ap (λ (j : ℕ). eqb (j % 2) 1) up
  where
    nothing_left : (j : ℕ) → 0 / 2 ^ j ≡ 0
    nothing_left j = omega (arith, shr_le 0 j)
