use mathlib.Core.Bool.{true}
use lib.ListN.{length}
use Rattle.arrays.proofs.Loops.{Checked}
use Rattle.text.specs.Decimal.{is_digit}
use Rattle.text.proofs.Decimal.{Reading}
use Rattle.text_code.proofs.read_decimal.Given as goal

abbrev pub invariant-loop-c : goal.invariant-loop-c
invariant-loop-c l = Checked (λ k. is_digit) (length l.text) l.text l.c-index true × Reading l.text l.c-index l.value
