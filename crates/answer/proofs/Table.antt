-- The table of document 01, "Answer numbers", row by row.
use Prim.Native.Nat.{ℕ}
use mathlib.Core.Path.{◌≡◌, refl}
use mathlib.Core.List.{map}
use Rattle.answer.specs.Answers.{row_of}
use Rattle.answer.specs.Printed.{printed, every_answer}

pub table : (byte : ℕ) → map row_of (every_answer byte) ≡ printed byte
table byte = refl
