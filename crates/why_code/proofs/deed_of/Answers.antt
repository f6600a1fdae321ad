use borrow.Author.Tests.{eq-eqb, ne_eqb}
use Rattle.why_code.proofs.deed_of.Goals as goal

pub returns-then-new-eq0 : goal.returns-then-new-eq0
returns-then-new-eq0 c = simp (eq-eqb _ _ c.if-new-eq0.true)

pub returns-then-old-eq0 : goal.returns-then-old-eq0
returns-then-old-eq0 c = simp (ne_eqb _ _ c.if-new-eq0.false, eq-eqb _ _ c.if-old-eq0.true)

pub returns-then-new-old : goal.returns-then-new-old
returns-then-new-old c = simp (ne_eqb _ _ c.if-new-eq0.false, ne_eqb _ _ c.if-old-eq0.false, c.if-new-old.true)

pub returns : goal.returns
returns c = simp (ne_eqb _ _ c.if-new-eq0.false, ne_eqb _ _ c.if-old-eq0.false, c.if-new-old.false)
