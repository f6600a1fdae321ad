use Prim.Native.Nat.{◌≤◌, ◌<◌, ◌^◌}
use borrow.Author.Rules.{rules}
use mathlib.Core.Path.{◌≡◌}
use native.Mathlib.Omega.{arith}
use lib.ListN.{length}
use Rattle.text.specs.Making.{lines_most}
use Rattle.text_code.specs.Telling.{told_lines}
use Rattle.sentence.specs.Telling.{position_of, write_text}
use Rattle.sentence.proofs.Fits.{write-fits}
use Rattle.text.specs.Characters.{bytes_of}
use Rattle.text_code.proofs.Telling.{and-then, told}
use Rattle.sentence_code.proofs.tell_write.Goals as goal

pub returns : goal.returns
unfolding bytes_of write_text told_lines
returns c =
    let reason = c.args.reason in
    let text = write_text c.args.position reason in
    let fits : length text ≤ lines_most = write-fits reason (let x : position_of c.args.reason.cause.touch.at < 2 ^ 64 = search rules in x) (omega (arith, c.well_formed)) (omega (arith, c.well_formed)) (omega (arith, c.well_formed)) (omega (arith, c.well_formed)) c.args.position (omega arith) in
    let is : c.put_second.new.lines ≡ told_lines text = simp (c.put_second.ensures, c.put_words.ensures, c.put_number.ensures.0, and-then) (told text fits) in
    (is, rw is fits)
