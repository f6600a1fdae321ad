-- Numbers in decimal.
use Rattle.std.specs.Prelude.{ℕ, zero, suc, ◌+◌, ◌*◌, ◌-◌, ◌/◌, ◌%◌, Bool, true, false, ◌&&◌, List, [], ◌∷◌, ◌++◌, leb, ltb, length, Option, Some, None}
use Rattle.arrays.specs.Base.{when◌then◌else◌}
use Rattle.arrays.specs.Arrays.{all}

-- the characters 0 to 9
abbrev pub zero_digit : ℕ
zero_digit = 48

abbrev pub digit : ℕ → ℕ
digit d = zero_digit + d

-- the digits of a number that is below 10 or not: of one below 10 its own; of any other those of its tenth part, then its last. At most so
-- many tenths are taken.
unfoldable pub digits_within : (tenths : ℕ) → (low : Bool) → ℕ → List ℕ
digits_within zero low n = digit n ∷ []
digits_within (suc tenths) true n = digit n ∷ []
digits_within (suc tenths) false n = digits_within tenths (ltb (n / 10) 10) (n / 10) ++ digit (n % 10) ∷ []

-- a number in decimal: it has fewer tenths than itself
unfoldable pub decimal : ℕ → List ℕ
decimal n = digits_within n (ltb n 10) n

-- ---- read back

abbrev pub is_digit : ℕ → Bool
is_digit c = leb zero_digit c && leb c (digit 9)

-- the number that digits give after those which gave n
unfoldable pub read_after : ℕ → List ℕ → ℕ
read_after n [] = n
read_after n (c ∷ more) = read_after (10 * n + (c - zero_digit)) more

abbrev pub read_decimal : List ℕ → ℕ
read_decimal = read_after 0

-- a number is digits, and at least one
abbrev pub is_decimal : List ℕ → Bool
is_decimal text = ltb 0 (length text) && all is_digit text

-- what a text reads as, nothing where it is no number; a number above the most is told as that
abbrev pub read_most : ℕ
read_most = 1000000000000000000

abbrev pub at_most : (most n : ℕ) → ℕ
at_most most n = when leb n most then n else most

abbrev pub number_told : List ℕ → Option ℕ
number_told text = when is_decimal text then Some (at_most read_most (read_decimal text)) else None
