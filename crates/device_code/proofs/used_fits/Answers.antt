use borrow.Author.Tests.{eq-eqb, ne_eqb}
use Rattle.device.specs.WellFormed.{used_fits}
use Rattle.device_code.proofs.used_fits.Goals as goal

pub returns-then-set-eq0 : goal.returns-then-set-eq0
unfolding used_fits
returns-then-set-eq0 c = simp (eq-eqb _ _ c.if-set-eq0.true)

pub returns-else-set-eq0 : goal.returns-else-set-eq0
unfolding used_fits
returns-else-set-eq0 c = simp (ne_eqb _ _ c.if-set-eq0.false, c.set_codes.ensures, c.set_tails.ensures, c.scope_fits.ensures)
