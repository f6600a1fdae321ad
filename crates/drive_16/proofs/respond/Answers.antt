use borrow.Author.Tests.{eq-eqb, ne_eqb}
use Rattle.drive.specs.Outcomes.{response_page}
use Rattle.drive_16.proofs.respond.Goals as goal

pub returns-then-code-eq0 : goal.returns-then-code-eq0
unfolding response_page
returns-then-code-eq0 c = simp (eq-eqb _ _ c.if-code-eq0.true) c.write_supported_in.ensures

pub returns-then-code-eq1 : goal.returns-then-code-eq1
unfolding response_page
returns-then-code-eq1 c = simp (ne_eqb _ _ c.if-code-eq0.false, eq-eqb _ _ c.if-code-eq1.true) c.write_supported_out.ensures

pub returns-then-code-eq18 : goal.returns-then-code-eq18
unfolding response_page
returns-then-code-eq18 c = simp (ne_eqb _ _ c.if-code-eq0.false, ne_eqb _ _ c.if-code-eq1.false, eq-eqb _ _ c.if-code-eq18.true) c.write_capabilities.ensures

pub returns : goal.returns
unfolding response_page
returns c = simp (ne_eqb _ _ c.if-code-eq0.false, ne_eqb _ _ c.if-code-eq1.false, ne_eqb _ _ c.if-code-eq18.false, ← c.status_of.ensures) c.write_status.ensures
