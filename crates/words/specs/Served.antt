-- What is claimed of the words (proofs/Words): a nexus's bit is in one word, that of the place which it selects.
use Rattle.std.specs.Prelude.{ℕ, ◌<◌, true, ◌≡◌, length, get_or}
use Rattle.arrays.specs.Words.{bit_of}
use Rattle.device.specs.Record.{State}
use Rattle.device.specs.Selecting.{selected}
use Rattle.device.specs.Words.{words}

pub record InOne (s : State) (n : ℕ) : Type 0 where
  pub within : selected s n < length s.sets
  pub there : bit_of (get_or (words s) (selected s n) 0) n ≡ true
  pub only : (place : ℕ) → place < length s.sets → bit_of (get_or (words s) place 0) n ≡ true → place ≡ selected s n
