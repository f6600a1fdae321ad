use borrow.Author.Tests.{eq-eqb, ne_eqb}
use Rattle.words_code.proofs.owner_bit.Goals as goal

pub returns-then-place-eq0 : goal.returns-then-place-eq0
returns-then-place-eq0 c = simp (eq-eqb _ _ c.if-place-eq0.true)

pub returns : goal.returns
returns c = simp (ne_eqb _ _ c.if-place-eq0.false)
