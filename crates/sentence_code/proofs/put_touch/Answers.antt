use mathlib.Core.Path.{◌≡◌, ◌∙◌}
use Rattle.sentence.proofs.Ways.{position-read}
use Rattle.sentence.specs.Telling.{position_of, touch_words}
use mathlib.Core.List.{append_assoc}
use Rattle.text.specs.Characters.{bytes_of}
use Rattle.text_code.proofs.Telling.{and-then}
use Rattle.sentence_code.proofs.put_touch.Goals as goal

pub returns : goal.returns
unfolding bytes_of touch_words
returns c =
    let at : c.unwrap_or.result ≡ position_of c.args.reason.cause.touch.at = c.unwrap_or.ensures ∙ position-read c.args.reason.cause.touch.at in
    simp (c.put_words-4.ensures, c.put_number.ensures.0, c.put_words-3.ensures, c.put_words-2.ensures, c.deed_name.ensures, c.put_words.ensures, c.put_event.ensures, at, and-then, append_assoc)
