use Prim.Native.Nat.{◌≤◌}
use mathlib.Core.Path.{◌≡◌, ◌∙◌}
use native.Mathlib.Omega.{arith}
use lib.ListN.{length}
use Rattle.text.specs.Making.{lines_most}
use Rattle.text_code.specs.Telling.{told_lines}
use Rattle.sentence.specs.Telling.{position_of, reason_text}
use Rattle.sentence.proofs.Ways.{position-read}
use Rattle.sentence.proofs.Fits.{text-fits}
use Rattle.text_code.proofs.Telling.{and-then, told}
use Rattle.sentence_code.proofs.tell.Goals as goal

pub returns : goal.returns
unfolding reason_text told_lines
returns c =
    let reason = c.args.reason in
    let at : c.unwrap_or.result ≡ position_of reason.cause.touch.at = c.unwrap_or.ensures ∙ position-read reason.cause.touch.at in
    let fits : length (reason_text reason) ≤ lines_most = text-fits reason (omega (arith, at)) (omega (arith, c.well_formed)) (omega (arith, c.well_formed)) (omega (arith, c.well_formed)) (omega (arith, c.well_formed)) in
    let is : c.put_second.new.lines ≡ told_lines (reason_text reason) = simp (c.put_second.ensures, c.put_first.ensures, at, and-then) (told (reason_text reason) fits) in
    (is, rw is fits)
