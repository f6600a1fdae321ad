-- Laws of numbers in decimal.
-- Assumes nothing.
use Prim.Native.Nat.{ℕ, zero, suc, ◌+◌, ◌*◌, ◌-◌, ◌/◌, ◌%◌, ◌^◌, ◌≤◌, ◌<◌}
use mathlib.Core.Path.{◌≡◌, refl, sym, ap, ◌∙◌}
use mathlib.Core.Bool.{true}
use mathlib.Core.List.{List, [], ◌∷◌, ◌++◌}
use native.Mathlib.Nat.{not-suc-le-zero, pow-suc}
use native.Mathlib.Numerals.{add-one}
use native.Mathlib.Omega.{arith}
use borrow.Author.Tests.{ltb-true, ltb-false, lt-ltb, le-ltb, le-leb, leb-true, leb-false}
use lib.Dec.{leb, ltb}
use lib.ListN.{length, get_or, drop, length-append, drop_of_length-le}
use lib.Seq.{drop-cons}
use Rattle.arrays.specs.Arrays.{all}
use Rattle.arrays.proofs.Base.{cases, both, if-elim, if-true, if-false}
use Rattle.arrays.proofs.Laws.{all_append}
use Rattle.text.specs.Decimal.{zero_digit, digit, digits_within, decimal, is_digit, read_after, read_decimal, is_decimal, read_most, at_most}
use Rattle.text.specs.Spelled.{Spelled}

-- ---- the digits, one by one

-- a number below 10 is its digit
within_low : (tenths n : ℕ) → n < 10 → digits_within tenths (ltb n 10) n ≡ digit n ∷ []
unfolding digits_within
within_low zero n h = refl
within_low (suc tenths) n h = rw (lt-ltb n 10 h) refl

within_more : (tenths n : ℕ) → 10 ≤ n → digits_within (suc tenths) (ltb n 10) n ≡ digits_within tenths (ltb (n / 10) 10) (n / 10) ++ digit (n % 10) ∷ []
unfolding digits_within
within_more tenths n h = rw (le-ltb n 10 h) refl

-- more tenths than enough make no difference
enough : (a b n : ℕ) → n ≤ a → n ≤ b → digits_within a (ltb n 10) n ≡ digits_within b (ltb n 10) n
enough zero b n h k = within_low zero n (omega (arith, h)) ∙ sym (within_low b n (omega (arith, h)))
enough (suc a) zero n h k = within_low (suc a) n (omega (arith, k)) ∙ sym (within_low zero n (omega (arith, k)))
enough (suc a) (suc b) n h k =
    cases (ltb n 10)
    (λ t. let low = ltb-true n 10 t in within_low (suc a) n low ∙ sym (within_low (suc b) n low))
    (λ f.
    let some = ltb-false n 10 f in
    within_more a n some
    ∙ ap (λ (l : List ℕ). l ++ digit (n % 10) ∷ []) (enough a b (n / 10) (omega (arith, h, some)) (omega (arith, k, some)))
    ∙ sym (within_more b n some))

-- A number below 10 is its digit; any other the digits of its tenth part, then its last.
pub decimal-low : (n : ℕ) → n < 10 → decimal n ≡ digit n ∷ []
unfolding decimal
decimal-low n h = within_low n n h

pub decimal-more : (n : ℕ) → 10 ≤ n → decimal n ≡ decimal (n / 10) ++ digit (n % 10) ∷ []
unfolding decimal
decimal-more zero h = absurd (omega (arith, h))
decimal-more (suc n) h =
    within_more n (suc n) h
    ∙ ap (λ (l : List ℕ). l ++ digit (suc n % 10) ∷ []) (enough n (suc n / 10) (suc n / 10) (omega (arith, h)) (omega arith))

-- what holds of each number below 10, and of any other if it does of its tenth part, holds of all
module _ (P : ℕ → Type 0) (low : (n : ℕ) → n < 10 → P n) (more : (n : ℕ) → 10 ≤ n → P (n / 10) → P n) where
  up_to : (most n : ℕ) → n ≤ most → P n
  up_to zero n h = low n (omega (arith, h))
  up_to (suc most) n h =
      cases (ltb n 10)
      (λ t. low n (ltb-true n 10 t))
      (λ f. let some = ltb-false n 10 f in more n some (up_to most (n / 10) (omega (arith, h, some))))

  pub by-tenths : (n : ℕ) → P n
  by-tenths n = up_to n n (omega arith)

-- ---- read back

read-append : (n : ℕ) (a b : List ℕ) → read_after n (a ++ b) ≡ read_after (read_after n a) b
unfolding read_after
read-append n [] b = refl
read-append n (c ∷ a) b = read-append (10 * n + (c - zero_digit)) a b

read_one : (n d : ℕ) → read_after n (digit d ∷ []) ≡ 10 * n + d
unfolding read_after
read_one n d = omega arith

reads : (n : ℕ) → read_decimal (decimal n) ≡ n
reads =
    by-tenths (λ n. read_decimal (decimal n) ≡ n)
    (λ n h. ap read_decimal (decimal-low n h) ∙ read_one 0 n ∙ omega arith)
    (λ n h e.
    ap read_decimal (decimal-more n h)
    ∙ read-append 0 (decimal (n / 10)) (digit (n % 10) ∷ [])
    ∙ read_one (read_decimal (decimal (n / 10))) (n % 10)
    ∙ ap (λ k. 10 * k + n % 10) e
    ∙ omega arith)

-- ---- digits alone, and no zero first

-- digits after digits
is-decimal : (text : List ℕ) → 0 < length text → all is_digit text ≡ true → is_decimal text ≡ true
is-decimal text some digits = both (ltb 0 (length text)) (all is_digit text) (lt-ltb _ _ some) digits

-- a digit is one of 0 to 9
digit-is : (d : ℕ) → d < 10 → all is_digit (digit d ∷ []) ≡ true
digit-is d h = simp (le-leb zero_digit (digit d) (omega arith), le-leb (digit d) (digit 9) (omega (arith, h)))

-- there is one at least
pub decimal-some : (n : ℕ) → 0 < length (decimal n)
decimal-some n =
    cases (ltb n 10)
    (λ t. rw (decimal-low n (ltb-true n 10 t)) (omega arith))
    (λ f. let m = decimal-more n (ltb-false n 10 f) in let l = ap length m ∙ length-append (decimal (n / 10)) (digit (n % 10) ∷ []) in omega (arith, l))

pub all_digits : (n : ℕ) → all is_digit (decimal n) ≡ true
all_digits =
    by-tenths (λ n. all is_digit (decimal n) ≡ true)
    (λ n h. ap (all is_digit) (decimal-low n h) ∙ digit-is n h)
    (λ n h e.
    ap (all is_digit) (decimal-more n h)
    ∙ all_append is_digit (decimal (n / 10)) (digit (n % 10) ∷ [])
    ∙ both _ _ e (digit-is (n % 10) (omega arith)))

-- the first digit of the tenth part is the first
first-kept : (text : List ℕ) (c : ℕ) → 0 < length text → get_or (text ++ c ∷ []) 0 0 ≡ get_or text 0 0
first-kept [] c h = absurd (not-suc-le-zero h)
first-kept (x ∷ text) c h = refl

leads : (n : ℕ) → 0 < n → zero_digit < get_or (decimal n) 0 0
leads =
    by-tenths (λ n. 0 < n → zero_digit < get_or (decimal n) 0 0)
    (λ n h some. rw (decimal-low n h) (omega (arith, some)))
    (λ n h below some. rw (decimal-more n h, first-kept (decimal (n / 10)) (digit (n % 10)) (decimal-some (n / 10))) (below (omega (arith, h))))

-- A number in decimal is digits, at least one, that give the number when they are read, and no zero stands before others.
pub decimal-spells : (n : ℕ) → Spelled n (decimal n)
decimal-spells n = record { digits = is-decimal (decimal n) (decimal-some n) (all_digits n); reads = reads n; leads = leads n }

-- A number below the k-th power of 10 has at most k digits.
pub decimal-few : (k n : ℕ) → 0 < k → n < 10 ^ k → length (decimal n) ≤ k
decimal-few zero n some h = absurd (not-suc-le-zero some)
decimal-few (suc k) n some h =
    cases (ltb n 10)
    (λ t. rw (decimal-low n (ltb-true n 10 t)) (omega arith))
    (λ f.
    let more = ltb-false n 10 f in
    let l = ap length (decimal-more n more) ∙ length-append (decimal (n / 10)) (digit (n % 10) ∷ []) in
    let p : 10 ^ suc k ≡ 10 ^ k * 10 = pow-suc 10 k in
    let k-some : 0 < k = positive k n more p h in
    omega (arith, l, decimal-few k (n / 10) k-some (omega (arith, p, h))))
  where
    positive : (k n : ℕ) → 10 ≤ n → 10 ^ suc k ≡ 10 ^ k * 10 → n < 10 ^ suc k → 0 < k
    positive zero n more p h = absurd (omega (arith, more, h))
    positive (suc k) n more p h = omega arith

-- a number of 64 bits has at most 20
pub decimal-20 : (n : ℕ) → n < 2 ^ 64 → length (decimal n) ≤ 20
decimal-20 n h = decimal-few 20 n (omega arith) (omega (arith, h))

-- ---- a number told at most

-- more digits never make a number smaller
read-grows : (n : ℕ) (text : List ℕ) → n ≤ read_after n text
unfolding read_after
read-grows n [] = omega arith
read-grows n (c ∷ text) = omega (arith, read-grows (10 * n + (c - zero_digit)) text)

pub at-most : (most n : ℕ) → most ≤ n → at_most most n ≡ most
at-most most n h = cases (leb n most) (λ t. rw t (omega (arith, h, leb-true n most t))) (λ f. rw f refl)

-- it may be told so at each digit
read-most : (n : ℕ) (text : List ℕ) → at_most read_most (read_after (at_most read_most n) text) ≡ at_most read_most (read_after n text)
read-most n text =
    cases (leb n read_most)
    (λ t. ap (λ k. at_most read_most (read_after k text)) (if-true (leb n read_most) n read_most t))
    (λ f.
    let above : read_most ≤ n = omega (arith, leb-false n read_most f) in
    ap (λ k. at_most read_most (read_after k text)) (if-false (leb n read_most) n read_most f)
    ∙ at-most read_most (read_after read_most text) (read-grows read_most text)
    ∙ sym (at-most read_most (read_after n text) (omega (arith, above, read-grows n text))))

-- the invariant of reading: what is left, after a value, reads as the whole does
pub record Reading (text : List ℕ) (i value : ℕ) : Type 0 where
  pub low : value ≤ read_most
  pub gives : at_most read_most (read_after value (drop i text)) ≡ at_most read_most (read_decimal text)

module _ {text : List ℕ} {i value : ℕ} (l : Reading text i value) where
  -- one digit more
  pub reading-more : i < length text → {next : ℕ} → next ≡ at_most read_most (10 * value + (get_or text i 0 - zero_digit)) → Reading text (i + 1) next
  unfolding read_after
  reading-more h {next} e =
      let all = 10 * value + (get_or text i 0 - zero_digit) in
      record {
        low = rw e (if-elim (λ k. k ≤ read_most) (leb all read_most) (leb-true all read_most) (λ f. omega arith));
        gives =
            ap (λ k. at_most read_most (read_after k (drop (i + 1) text))) e
            ∙ read-most all (drop (i + 1) text)
            ∙ ap (λ r. at_most read_most (read_after all r)) (ap (λ k. drop k text) (add-one i))
            ∙ sym (ap (λ r. at_most read_most (read_after value r)) (drop-cons text i 0 h))
            ∙ l.gives;
      }

  -- all are read
  pub reading-ends : length text ≤ i → value ≡ at_most read_most (read_decimal text)
  unfolding read_after
  reading-ends h = sym (if-true (leb value read_most) value read_most (le-leb value read_most l.low)) ∙ sym (ap (λ r. at_most read_most (read_after value r)) (drop_of_length-le text {i = i} h)) ∙ l.gives
