use Rattle.claim.proofs.Lines.{Lining}
use Rattle.claim_16.proofs.put_rows.Given as goal

abbrev pub invariant-loop-k : goal.invariant-loop-k
invariant-loop-k l = Lining l.initial.out l.row-items l.k l.at l.out
