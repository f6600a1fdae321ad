-- A field of bits shifted above another.
-- Assumes nothing.
use mathlib.Core.Path.{◌≡◌, ap, ◌∙◌}
use Prim.Native.Nat.{ℕ, ◌+◌, ◌*◌, ◌%◌, ◌^◌, ◌<◌}
use native.Mathlib.Nat.{mod-eq_of_lt}
use lib.Bits.{bit_or, or_shifted}

-- a field shifted above another
pub pack : (k a b : ℕ) → a * 2 ^ k < 256 → b < 2 ^ k → bit_or (a * 2 ^ k % 256) b ≡ a * 2 ^ k + b
pack k a b h l = ap (λ (x : ℕ). bit_or x b) (mod-eq_of_lt h) ∙ or_shifted a k b l
