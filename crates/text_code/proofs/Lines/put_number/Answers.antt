use native.Mathlib.Omega.{arith}
use lib.Seq.{length-sets}
use Rattle.text.proofs.Decimal.{decimal-20}
use Rattle.text_code.specs.Telling.{and_text}
use Rattle.text_code.proofs.Lines.put_number.Goals as goal

pub returns : goal.returns
unfolding and_text
returns c =
    let digits = c.put_decimal-digits.ensures in
    (simp (c.grow.ensures, digits.0, digits.1, length-sets), decimal-20 c.args.n (omega arith))
