use Prim.Native.Nat.{◌≤◌}
use mathlib.Core.Path.{◌≡◌}
use native.Mathlib.Omega.{arith}
use lib.ListN.{length}
use Rattle.text.specs.Characters.{bytes_of}
use Rattle.text_code.specs.Telling.{told_lines}
use Rattle.text_code.proofs.Telling.{and-then, told}
use Rattle.claim.specs.Making.{line_most}
use Rattle.claim.specs.Lines.{total_line}
use Rattle.claim.proofs.Long.{total_line-most}
use Rattle.claim_code.proofs.total_line.Goals as goal

pub returns : goal.returns
unfolding bytes_of total_line told_lines
returns c =
    let total = c.args.total in
    let text = total_line total c.args.amount in
    let most : length text ≤ line_most = total_line-most total (omega (arith, c.well_formed)) (omega (arith, c.well_formed)) (omega (arith, c.well_formed)) (omega (arith, c.well_formed)) c.args.amount (omega arith) in
    let is : c.put_words-3.new.self ≡ told_lines text = simp (c.put_words-3.ensures, c.put_spaced.ensures, c.put_words-2.ensures, c.put_columns.ensures, c.put_words.ensures, and-then) (told text (omega (arith, most))) in
    (is, rw is most)
