use Rattle.std.proofs.Common.{arith, eq-eqb, ne_eqb}
use lib.Count.{trailing_le}
use Rattle.places_code.proofs.lowest_bit.Goals as goal

pub returns-then-word-eq0 : goal.returns-then-word-eq0
returns-then-word-eq0 c = simp (eq-eqb _ _ c.if-word-eq0.true)

pub overflow_cast-result : goal.overflow_cast-result
overflow_cast-result c = omega (arith, trailing_le 32 c.args.word)

pub returns : goal.returns
returns c = simp (ne_eqb _ _ c.if-word-eq0.false)
