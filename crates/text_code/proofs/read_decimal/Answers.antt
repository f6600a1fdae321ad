use mathlib.Core.Path.{sym, ◌∙◌}
use native.Mathlib.Omega.{arith}
use borrow.Author.Tests.{lt-ltb, eqb-false}
use lib.ListN.{length}
use Rattle.arrays.proofs.Loops.{check-passes, check-ends}
use Rattle.text.proofs.Decimal.{reading-more, reading-ends}
use Rattle.text_code.proofs.read_decimal.Goals as goal

pub loop-c-preserved : goal.loop-c-preserved
loop-c-preserved c =
    let l = c.loop-c in
    let here = c.loop-c-test.true in
    (check-passes l.invariant.0 here 0 c.is_digit.ensures c.if-not-is_digit.false, reading-more l.invariant.1 here c.read_on-value.ensures)

pub returns : goal.returns
returns c =
    let l = c.loop-c in
    let ends = c.loop-c-test.false in
    let some = eqb-false (length c.args.text.now) 0 (sym c.is_empty.ensures ∙ c.if-is_empty.false) in
    simp (lt-ltb 0 (length c.args.text.now) (omega arith), ← check-ends l.invariant.0 ends, ← reading-ends l.invariant.1 ends)
