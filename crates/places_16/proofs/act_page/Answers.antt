use borrow.Author.Tests.{eq-eqb, ne_eqb}
use Rattle.places_16.proofs.act_page.Goals as goal

pub returns-then-page-eq-LOCAL : goal.returns-then-page-eq-LOCAL
returns-then-page-eq-LOCAL c = simp (eq-eqb _ _ c.if-page-eq-LOCAL.true, c.establish_in.ensures)

pub returns : goal.returns
returns c = simp (ne_eqb _ _ c.if-page-eq-LOCAL.false, c.act_shared.ensures)
