-- Numbers and texts, by computing.
-- Assumes nothing.
use mathlib.Core.Path.{◌≡◌, refl}
use mathlib.Core.List.{[], ◌∷◌, map}
use Rattle.text.specs.Characters.{bytes_of}
use Rattle.text.specs.Decimal.{digits_within, decimal}

-- a text's bytes
pub text-computed : bytes_of "total\n" ≡ 116 ∷ 111 ∷ 116 ∷ 97 ∷ 108 ∷ 10 ∷ []
unfolding bytes_of
text-computed = refl

-- numbers at the ends of their lengths, the largest amount, and the largest number of 64 bits
pub numbers-computed : map decimal (0 ∷ 9 ∷ 10 ∷ 99 ∷ 100 ∷ 250 ∷ 8190 ∷ 8190000000 ∷ 18446744073709551615 ∷ [])
    ≡ map bytes_of ("0" ∷ "9" ∷ "10" ∷ "99" ∷ "100" ∷ "250" ∷ "8190" ∷ "8190000000" ∷ "18446744073709551615" ∷ [])
unfolding bytes_of decimal digits_within
numbers-computed = refl
