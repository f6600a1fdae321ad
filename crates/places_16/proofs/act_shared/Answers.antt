use borrow.Author.Tests.{eq-eqb, ne_eqb}
use Rattle.places.specs.Actions.{acts}
use Rattle.places.proofs.Releases.{acts-append}
use Rattle.places_16.proofs.act_shared.Goals as goal

pub returns-then-page-ne-ALL : goal.returns-then-page-ne-ALL
unfolding acts
returns-then-page-ne-ALL c = simp (ne_eqb _ _ c.if-page-ne-ALL.true, c.release_own-released.ensures)

pub returns : goal.returns
unfolding acts
returns c = simp (eq-eqb _ _ c.if-page-ne-ALL.false, acts-append, c.establish.ensures, c.release_own-released.ensures)
