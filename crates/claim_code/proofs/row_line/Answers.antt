use Prim.Native.Nat.{◌≤◌}
use mathlib.Core.Path.{◌≡◌}
use native.Mathlib.Omega.{arith}
use lib.ListN.{length}
use Rattle.text.specs.Characters.{bytes_of}
use Rattle.text_code.specs.Telling.{told_lines}
use Rattle.text_code.proofs.Telling.{and-then, told}
use Rattle.claim.specs.Making.{line_most}
use Rattle.claim.specs.Lines.{row_line}
use Rattle.claim.proofs.Long.{row_line-most}
use Rattle.claim_code.proofs.row_line.Goals as goal

pub returns : goal.returns
unfolding bytes_of row_line told_lines
returns c =
    let row = c.args.row in
    let text = row_line c.args.k row in
    let most : length text ≤ line_most = row_line-most row (omega (arith, c.well_formed)) (omega (arith, c.well_formed)) (omega (arith, c.well_formed)) (omega (arith, c.well_formed)) c.args.k (omega arith) in
    let is : c.put_words.new.self ≡ told_lines text = simp (c.put_words.ensures, c.put_columns.ensures, c.put_number.ensures.0, and-then) (told text (omega (arith, most))) in
    (is, rw is most)
