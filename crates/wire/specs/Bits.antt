-- Bits of a byte, counted from 0, the lowest.
use Rattle.std.specs.Prelude.{ℕ, ◌+◌, ◌-◌, ◌/◌, ◌%◌, ◌^◌, Bool, eqb}

-- bits high to low of b, as a number
abbrev pub bits : ℕ → ℕ → ℕ → ℕ
bits high low b = b / 2 ^ low % 2 ^ (high - low + 1)

-- bit i of b, as a yes or no
abbrev pub bit_at : ℕ → ℕ → Bool
bit_at i b = eqb (bits i i b) 1
