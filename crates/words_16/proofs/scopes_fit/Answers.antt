use borrow.Author.Rules.{rules}
use mathlib.Core.Bool.{true}
use mathlib.Core.Path.{refl, sym, ap}
use lib.Dec.{eqb}
use borrow.Author.Tests.{eq-eqb, ne_eqb}
use Rattle.arrays.proofs.Base.{and_first, and_last}
use Rattle.arrays.proofs.Loops.{check-starts, check-passes, check-fails, check-ends}
use Rattle.arrays.proofs.Sorting.{pick-starts, pick_more, pick-passes, pick_ends, pick_same, shifted_one}
use Rattle.device.specs.Record.{new_nexus}
use Rattle.words.specs.Fitting.{scopes_fit}
use Rattle.words_16.proofs.scopes_fit.Goals as goal
use Rattle.words_16.proofs.scopes_fit.Goals.{then-nexus-ne-PUBLIC+else-not-nexus_fits+then-nexus-eq-LOCAL, then-nexus-ne-PUBLIC+else-not-nexus_fits+else-nexus-eq-LOCAL, else-nexus-ne-PUBLIC}

pub loop-n-init : goal.loop-n-init
unfolding scopes_fit
loop-n-init c = (check-starts (search rules), pick-starts new_nexus (search rules))

pub returns-then-not-nexus_fits : goal.returns-then-not-nexus_fits
unfolding scopes_fit
returns-then-not-nexus_fits c =
    let l = c.loop-n in
    and_first _ _ (check-fails l.invariant.0 (search rules) new_nexus c.nexus_fits.ensures (c.if-not-nexus_fits.true))

-- one nexus more: LOCAL, ALL, or PUBLIC
pub loop-n-preserved : goal.loop-n-preserved
loop-n-preserved c =
    let l = c.loop-n in
    elim c.if-nexus-ne-PUBLIC.branch [
      | then-nexus-ne-PUBLIC+else-not-nexus_fits+then-nexus-eq-LOCAL w ↦ (
        check-passes l.invariant.0 (search rules) new_nexus w.nexus_fits.ensures w.if-not-nexus_fits.false,
        pick_same w.locals-is (pick_more new_nexus l.invariant.1 (search rules) (eq-eqb _ _ w.if-nexus-eq-LOCAL.true) (shifted_one 64 l.n (search rules))),
      )
      | then-nexus-ne-PUBLIC+else-not-nexus_fits+else-nexus-eq-LOCAL w ↦ (
        check-passes l.invariant.0 (search rules) new_nexus w.nexus_fits.ensures w.if-not-nexus_fits.false,
        pick_same w.locals-is (pick-passes new_nexus l.invariant.1 (search rules) (ne_eqb _ _ w.if-nexus-eq-LOCAL.false)),
      )
      | else-nexus-ne-PUBLIC w ↦ (
        check-passes l.invariant.0 (search rules) new_nexus {b = true} (sym (simp (eq-eqb _ _ w.if-nexus-ne-PUBLIC.false))) refl,
        pick_same w.locals-is (pick-passes new_nexus l.invariant.1 (search rules) (simp w.if-nexus-ne-PUBLIC.false)),
      )
    ]

pub returns : goal.returns
unfolding scopes_fit
returns c =
    let inv = c.loop-n.invariant in
    and_last _ _ (check-ends inv.0 (search rules)) (ap (λ k. eqb k c.args.owners) (pick_ends new_nexus inv.1 (search rules)))
