use Rattle.sentence.specs.Telling.{unsupported_words}
use mathlib.Core.List.{append_assoc}
use Rattle.text.specs.Characters.{bytes_of}
use Rattle.text_code.proofs.Telling.{and-then}
use Rattle.sentence_code.proofs.put_unsupported.Goals as goal

pub returns : goal.returns
unfolding bytes_of unsupported_words
returns c =
    simp (c.put_words-3.ensures, c.put_number-2.ensures.0, c.put_words-2.ensures, c.put_number.ensures.0, c.put_words.ensures, and-then, append_assoc)
