use borrow.Author.Rules.{rules}
use native.Mathlib.Omega.{arith}
use mathlib.Core.Path.{◌≡◌}
use lib.ListN.{length}
use Rattle.arrays.proofs.Laws.{sized-field}
use Rattle.claim.proofs.Sums.{sum-starts, sum_more, sum-ends, sum-few}
use Rattle.claim_16.proofs.sum.Goals as goal
use Rattle.claim_16.proofs.sum.Goals.{Start}

-- there are 17 rows
sized : (c : Start) → length c.args.rows ≡ 17
sized c = search (rules, sized-field)

pub loop-row-init : goal.loop-row-init
loop-row-init c = (omega arith, sum-starts c.args.rows)

pub add-total-requires : goal.add-total-requires
add-total-requires c =
    let rows = sized (goal.at.add-total-requires c).Start in
    omega (arith, sum-few c.loop-row.invariant.1 (omega (arith, rows, c.loop-row-test.true)), c.requires)

pub loop-row-preserved : goal.loop-row-preserved
loop-row-preserved c =
    let rows = sized (goal.at.loop-row-preserved c).Start in
    (omega (arith, c.loop-row-test.true), sum_more c.loop-row.invariant.1 (omega (arith, rows, c.loop-row-test.true)) c.add-total.ensures)

pub returns : goal.returns
returns c =
    let rows = sized (goal.at.returns c).Start in
    sum-ends c.loop-row.invariant.1 (omega (arith, rows, c.loop-row-test.false))
