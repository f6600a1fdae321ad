use lib.Dec.{eqb}
use lib.ListN.{length}
use Rattle.arrays.proofs.Loops.{Checked}
use Rattle.wire_code.proofs.all_zero.Given as goal

abbrev pub invariant-loop-byte : goal.invariant-loop-byte
invariant-loop-byte l = Checked (λ k b. eqb b 0) (length l.part) l.part l.byte-index l.good
