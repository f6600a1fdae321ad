-- A reply's first six bytes.
-- Assumes nothing.
use Prim.Native.Nat.{ℕ, ◌<◌}
use mathlib.Core.Path.{◌≡◌, refl}
use lib.ListN.{length as size}
use Rattle.wire.specs.Numbers.{byte_at, word_at}
use Rattle.wire.proofs.Numbers.{word_two}
use Rattle.answer.specs.declared.Sense.{Sense}
use Rattle.command.specs.Replies.{reply_head_size, reply_head}

-- there are as many as stand before the data
pub head-size : (number : ℕ) (sense : Sense) (length : ℕ) → size (reply_head number sense length) ≡ reply_head_size
head-size number sense length = refl

-- they tell the number and the sense
pub head-number : (number : ℕ) (sense : Sense) (length : ℕ) → byte_at (reply_head number sense length) 0 ≡ number
head-number number sense length = refl

pub head-sense : (number : ℕ) (sense : Sense) (length : ℕ)
    → let h = reply_head number sense length in record { key = byte_at h 1; asc = byte_at h 2; ascq = byte_at h 3 } ≡ sense
head-sense number sense length = refl

-- and the length, where two bytes hold it
pub head-length : (number : ℕ) (sense : Sense) (length : ℕ) → length < 65536 → word_at (reply_head number sense length) 4 ≡ length
head-length number sense length h = word_two length h
