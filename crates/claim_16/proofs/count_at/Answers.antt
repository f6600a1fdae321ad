use Prim.Native.Nat.{◌<◌}
use mathlib.Core.Path.{ap, ap₂, ◌∙◌}
use native.Mathlib.Omega.{arith}
use lib.ListN.{get_or, set}
use Rattle.sizes_16.specs.Sizes.{nexus_count}
use Rattle.claim.specs.Rows.{no_writes, plus, one}
use Rattle.claim.specs.Making.{noted_each}
use Rattle.claim.proofs.Counting.{row_within}
use Rattle.claim.proofs.Sums.{row-few}
use Rattle.claim_16.proofs.count_at.Goals as goal
use Rattle.claim_16.proofs.count_at.Goals.{After-row_of_nexus-at}

-- the row is one of them
within : (c : After-row_of_nexus-at) → c.row_of_nexus-at.result < 17
within c = let e = c.row_of_nexus-at.ensures in omega (arith, e, row_within nexus_count c.args.n)

pub offset_bounds-more-at : goal.offset_bounds-more-at
unfolding noted_each
offset_bounds-more-at c = omega (arith, within c)

pub bounds-more-at : goal.bounds-more-at
unfolding noted_each
bounds-more-at c = within c

pub count-requires : goal.count-requires
unfolding noted_each
count-requires c = omega (arith, row-few c.args.rows c.row_of_nexus-at.result, c.requires)

pub offset_bounds-more-at-2 : goal.offset_bounds-more-at-2
unfolding noted_each
offset_bounds-more-at-2 c = omega (arith, within c.before.before)

pub bounds-more-at-2 : goal.bounds-more-at-2
unfolding noted_each
bounds-more-at-2 c = within c.before.before

pub returns : goal.returns
unfolding noted_each
returns c =
    let a = c.args in
    let k = c.row_of_nexus-at.ensures in
    ap₂ (set a.rows) k (c.count.ensures ∙ ap (λ j. plus (get_or a.rows j no_writes) (one a.decision)) k)
