use Prim.Native.Nat.{ℕ, ◌-◌}
use mathlib.Core.Path.{◌≡◌, sym, ap, ◌∙◌}
use mathlib.Core.List.{List}
use lib.ListN.{length, set, take, drop, length-set}
use lib.Seq.{sets}
use Rattle.wire.proofs.Stores.{part-rest}
use Rattle.text.proofs.Spelling.{spell-more, spell_last, spell-length}
use Rattle.text_code.proofs.put_decimal.Goals as goal

-- the text from an index to its end
rest_of : (text : List ℕ) (from : ℕ) → length text ≡ 20 → take (20 - from) (drop from text) ≡ drop from text
rest_of text from e = ap (λ k. take (k - from) (drop from text)) (sym e) ∙ part-rest text from

pub loop-rest-preserved : goal.loop-rest-preserved
loop-rest-preserved c = spell-more c.loop-rest.invariant c.loop-rest-test.true c.digit.ensures

pub returns : goal.returns
returns c =
    let l = c.loop-rest in
    let a = c.args in
    let low = c.loop-rest-test.false in
    let text = set l.text (l.from - 1) c.digit-2.result in (
      spell-length l.invariant low c.digit-2.ensures,
      c.put.ensures ∙ ap (sets a.buffer.now a.at) (rest_of text (l.from - 1) (length-set l.text (l.from - 1) c.digit-2.result ∙ l.invariant.held) ∙ spell_last l.invariant low c.digit-2.ensures),
    )
