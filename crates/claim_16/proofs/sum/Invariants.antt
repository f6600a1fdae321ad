use Prim.Native.Nat.{◌≤◌}
use Rattle.claim.proofs.Sums.{Summed}
use Rattle.claim_16.proofs.sum.Given as goal

abbrev pub invariant-loop-row : goal.invariant-loop-row
invariant-loop-row l = (l.row-index ≤ 17) × Summed l.row-items l.row-index l.total
