use Rattle.sentence.specs.Telling.{first_line, stopper_words}
use Rattle.sentence_code.proofs.put_first.Goals.{in-KeyInstanceChanged, in_default}
use Prim.Native.Nat.{ℕ}
use mathlib.Core.Path.{◌≡◌}
use mathlib.Core.List.{[], append_assoc}
use native.Mathlib.Omega.{arith}
use Rattle.std.proofs.lemmas.Grind.{common_steps}
use Rattle.answer.specs.Answers.{number_of}
use Rattle.answer.specs.declared.Answer.{Answer}
use Rattle.answer.specs.declared.Answer.TheVariants.{KeyInstanceChanged}
use Rattle.text.specs.Characters.{bytes_of}
use Rattle.text_code.proofs.Telling.{and-then}
use Rattle.sentence_code.proofs.put_first.Goals as goal

-- no other answer has a stopper
without-stopper : (a : Answer) (kind position : ℕ) → (a ≡ KeyInstanceChanged → ⊥) → stopper_words (number_of a) kind position ≡ []
unfolding stopper_words
without-stopper a kind position h = grind (arith, common_steps)

pub returns : goal.returns
unfolding bytes_of first_line stopper_words
returns c =
    elim c.match-answer.branch [
      | in-KeyInstanceChanged w ↦
          simp (c.put_words-2.ensures, w.lines-is, w.put_number-in-KeyInstanceChanged-2.ensures.0, w.put_words-in-KeyInstanceChanged.ensures, w.put_number-in-KeyInstanceChanged.ensures.0, w.put_words.ensures, c.put_number.ensures.0, c.row_of.ensures, w.in-KeyInstanceChanged.is, and-then, append_assoc)
      | in_default w ↦
          let stopper = without-stopper c.args.answer c.args.kind c.args.position w.in_default.not-KeyInstanceChanged in
          simp (c.put_words-2.ensures, w.lines-is, c.put_number.ensures.0, c.row_of.ensures, stopper, and-then, append_assoc)
    ]
