use borrow.Author.Rules.{rules}
use borrow.Author.Tests.{eq-eqb, ne_eqb}
use Rattle.arrays.proofs.Sorting.{pick-starts, pick_more, pick-passes, pick_ends, pick_same, shifted_one}
use Rattle.device.specs.Record.{new_nexus}
use Rattle.words_16.proofs.locals_of.Goals as goal
use Rattle.words_16.proofs.locals_of.Goals.{then-nexus-eq-LOCAL, else-nexus-eq-LOCAL}

pub loop-n-init : goal.loop-n-init
loop-n-init c = pick-starts new_nexus (search rules)

pub loop-n-preserved : goal.loop-n-preserved
loop-n-preserved c =
    let l = c.loop-n in
    elim c.if-nexus-eq-LOCAL.branch [
      | then-nexus-eq-LOCAL w ↦ pick_same w.locals-is (pick_more new_nexus l.invariant (search rules) (eq-eqb _ _ w.if-nexus-eq-LOCAL.true) (shifted_one 64 l.n (search rules)))
      | else-nexus-eq-LOCAL w ↦ pick_same w.locals-is (pick-passes new_nexus l.invariant (search rules) (ne_eqb _ _ w.if-nexus-eq-LOCAL.false))
    ]

pub returns : goal.returns
returns c = pick_ends new_nexus c.loop-n.invariant (search rules)
