use lib.ListN.{length}
use Rattle.arrays.proofs.Loops.{Rewritten}
use Rattle.marks.specs.Reset.{unmarked}
use Rattle.marks_code.proofs.clear_marks.Given as goal

abbrev pub invariant-loop-n : goal.invariant-loop-n
invariant-loop-n l = Rewritten (λ k. unmarked) (length l.initial.nexuses) l.initial.nexuses l.n l.nexuses
