-- What is told where a value is known by what it isn't.
-- Assumes nothing.
use Prim.Native.Nat.{ℕ, ◌≤◌}
use mathlib.Core.Path.{◌≡◌, refl}
use native.Mathlib.Omega.{arith}
use borrow.Author.Tests.{ne_eqb}
use Rattle.std.specs.Option.{unwrap_or}
use Rattle.std.specs.Prelude.{Option, Some, None}
use Rattle.text.specs.Characters.{bytes_of}
use Rattle.sentence.specs.Telling.{position_of, block_words}

-- "encrypted under any other"
pub block-encrypted : (mode : ℕ) → 2 ≤ mode → bytes_of "encrypted" ≡ block_words mode
unfolding block_words
block-encrypted mode h = rw (ne_eqb mode 0 (λ e. omega (arith, h, e)), ne_eqb mode 1 (λ e. omega (arith, h, e))) refl

-- where there is no position, 0 is read
pub position-read : (found : Option ℕ) → unwrap_or found 0 ≡ position_of found
position-read (Some i) = refl
position-read None = refl
