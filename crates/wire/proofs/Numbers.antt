-- A number and its bytes.
-- Assumes nothing.
use mathlib.Core.Path.{◌≡◌, refl, ap₂}
use mathlib.Core.List.{List, [], ◌∷◌, ◌++◌}
use Prim.Native.Nat.{ℕ, ◌+◌, ◌*◌, ◌/◌, ◌%◌, ◌^◌, ◌<◌}
use native.Mathlib.Omega.{arith}
use lib.Pow.{shr-shr}
use Rattle.wire.specs.Numbers.{word, number, two, four, wide, eight}

-- four bytes make less than 4,294,967,296
pub number-below : (a b c d : ℕ) → a < 256 → b < 256 → c < 256 → d < 256 → number a b c d < 4294967296
number-below a b c d h i j k = omega arith

-- a number below 256 is in the lower byte
pub two-small : (n : ℕ) → n < 256 → two n ≡ 0 ∷ n ∷ []
two-small n h = let p : n / 256 % 256 ≡ 0 = omega arith in let q : n % 256 ≡ n = omega arith in rw (p, q) refl

-- the two bytes of a number give it back
pub word_two : (n : ℕ) → n < 65536 → word (n / 256 % 256) (n % 256) ≡ n
word_two n h = omega arith

-- the bytes of two bytes' number are these
pub two-word : (a b : ℕ) → a < 256 → b < 256 → two (word a b) ≡ a ∷ b ∷ []
two-word a b h l = let p : word a b / 256 % 256 ≡ a = omega arith in let q : word a b % 256 ≡ b = omega arith in rw (p, q) refl

-- the four bytes of a number give it back
pub number-four : (n : ℕ) → n < 4294967296 → number (n / 16777216 % 256) (n / 65536 % 256) (n / 256 % 256) (n % 256) ≡ n
number-four n h =
    let p : n / 256 / 256 ≡ n / 65536 = shr-shr n 8 8 in
    let q : n / 65536 / 256 ≡ n / 16777216 = shr-shr n 16 8 in
    let high : n / 16777216 % 256 * 256 + n / 65536 % 256 ≡ n / 65536 = omega arith in
    let low : n / 65536 * 256 + n / 256 % 256 ≡ n / 256 = omega arith in
    omega arith

-- the bytes of four bytes' number are these
pub four-number : (a b c d : ℕ) → a < 256 → b < 256 → c < 256 → d < 256 → four (number a b c d) ≡ a ∷ b ∷ c ∷ d ∷ []
four-number a b c d h i j k =
    let n = number a b c d in
    let p : n / 16777216 % 256 ≡ a = omega arith in
    let q : n / 65536 % 256 ≡ b = omega arith in
    let r : n / 256 % 256 ≡ c = omega arith in
    let s : n % 256 ≡ d = omega arith in
    rw (p, q, r, s) refl

-- a number's lower 16 bits have its two bytes
pub two-lower : (n : ℕ) → two (n % 65536) ≡ two n
two-lower n =
    let high : n % 65536 / 256 % 256 ≡ n / 256 % 256 = omega arith in
    let low : n % 65536 % 256 ≡ n % 256 = omega arith in
    rw (high, low) refl

-- the eight bytes of a number give it back, whatever follows
pub wide-eight : (n : ℕ) → n < 2 ^ 64 → (rest : List ℕ) → wide (eight n ++ rest) ≡ n
wide-eight n h rest =
    omega (arith, number-four (n / 4294967296) (omega arith), number-four (n % 4294967296) (omega arith))

-- the bytes of a number of two halves are those of its halves
pub eight-halves : (a b : ℕ) → b < 4294967296 → eight (a * 4294967296 + b) ≡ four a ++ four b
eight-halves a b h =
    let upper : (a * 4294967296 + b) / 4294967296 ≡ a = omega arith in
    let lower : (a * 4294967296 + b) % 4294967296 ≡ b = omega arith in
    ap₂ (λ (x y : ℕ). four x ++ four y) upper lower
