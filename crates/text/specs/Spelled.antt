-- What is claimed of a number in decimal (proofs/Decimal).
use Rattle.std.specs.Prelude.{ℕ, ◌<◌, ◌≡◌, true, List, get_or}
use Rattle.text.specs.Decimal.{zero_digit, read_decimal, is_decimal}

-- a text is digits, at least one; reading them gives the number; and no zero stands before others
pub record Spelled (n : ℕ) (text : List ℕ) : Type 0 where
  pub digits : is_decimal text ≡ true
  pub reads : read_decimal text ≡ n
  pub leads : 0 < n → zero_digit < get_or text 0 0
