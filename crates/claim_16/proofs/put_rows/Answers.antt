use borrow.Author.Rules.{rules}
use Prim.Native.Nat.{ℕ}
use mathlib.Core.Path.{◌≡◌, ap}
use mathlib.Core.List.{List}
use native.Mathlib.Omega.{arith}
use lib.ListN.{length, get_or}
use Rattle.arrays.proofs.Laws.{sized-field}
use Rattle.text_code.specs.declared.Lines.{Lines}
use Rattle.text_code.specs.Telling.{told_lines}
use Rattle.text_code.proofs.Telling.{text-read}
use Rattle.claim.specs.Lines.{row_line}
use Rattle.claim.specs.Rows.{no_writes}
use Rattle.claim.proofs.Lines.{lining-starts, lining-more, lining_ends}
use Rattle.claim_16.proofs.put_rows.Goals as goal

-- a line is as long as its text
line-length : (text : List ℕ) {line : Lines} → line ≡ told_lines text → line.length ≡ length text
unfolding told_lines
line-length text e = ap (λ (x : Lines). x.length) e

pub loop-k-init : goal.loop-k-init
loop-k-init c = lining-starts

pub put_line-at-requires : goal.put_line-at-requires
put_line-at-requires c = (omega (arith, c.loop-k.invariant.few, c.loop-k-test.true), c.row_line.ensures.1)

pub loop-k-preserved : goal.loop-k-preserved
loop-k-preserved c =
    let rows : length c.args.rows ≡ 17 = search (rules, sized-field) in
    let line = c.row_line.ensures in
    let text = row_line c.loop-k.k (get_or c.args.rows c.loop-k.k no_writes) in
    let read = text-read text line.0 (omega (arith, line.1)) in
    lining-more c.loop-k.invariant (omega (arith, rows, c.loop-k-test.true)) read (omega (arith, ap length read, line-length text line.0, line.1)) c.put_line-at.ensures

pub returns : goal.returns
returns c =
    let rows : length c.args.rows ≡ 17 = search (rules, sized-field) in
    (lining_ends c.loop-k.invariant (omega (arith, rows, c.loop-k-test.false)), omega (arith, c.loop-k.invariant.few, c.loop-k.auto.k-end))
