-- Numbers are big-endian. A byte past a list's end reads as 0.
use Rattle.std.specs.Prelude.{ℕ, ◌+◌, ◌*◌, ◌/◌, ◌%◌, Bool, List, [], ◌∷◌, ◌++◌, leb, ltb, eqb, get_or}
use Rattle.arrays.specs.Arrays.{all}

abbrev pub byte_at : List ℕ → ℕ → ℕ
byte_at s i = get_or s i 0

-- the number in two bytes, and in four
abbrev pub word : ℕ → ℕ → ℕ
word high low = high * 256 + low

abbrev pub number : ℕ → ℕ → ℕ → ℕ → ℕ
number a b c d = a * 16777216 + b * 65536 + c * 256 + d

-- the number that stands at byte i
abbrev pub word_at : List ℕ → ℕ → ℕ
word_at s i = word (byte_at s i) (byte_at s (i + 1))

abbrev pub number_at : List ℕ → ℕ → ℕ
number_at s i = number (byte_at s i) (byte_at s (i + 1)) (byte_at s (i + 2)) (byte_at s (i + 3))

-- a number as two bytes, and as four
abbrev pub two : ℕ → List ℕ
two n = n / 256 % 256 ∷ n % 256 ∷ []

abbrev pub four : ℕ → List ℕ
four n = n / 16777216 % 256 ∷ n / 65536 % 256 ∷ n / 256 % 256 ∷ n % 256 ∷ []

-- the number in the first eight bytes, the upper half in the first four; and as eight bytes
abbrev pub wide : List ℕ → ℕ
wide s = number_at s 0 * 4294967296 + number_at s 4

abbrev pub eight : ℕ → List ℕ
eight n = four (n / 4294967296) ++ four (n % 4294967296)

-- a byte that tells yes or no is a yes where it is 1, and a no where it is 0
abbrev pub flag_at : List ℕ → ℕ → Bool
flag_at s i = eqb (byte_at s i) 1

abbrev pub yes_or_no : List ℕ → ℕ → Bool
yes_or_no s i = leb (byte_at s i) 1

-- bytes are below 256
abbrev pub are_bytes : List ℕ → Bool
are_bytes = all (λ b. ltb b 256)
