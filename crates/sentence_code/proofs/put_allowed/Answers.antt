use Rattle.sentence.specs.Telling.{allowed_words}
use mathlib.Core.List.{append_assoc}
use Rattle.text.specs.Characters.{bytes_of}
use Rattle.text_code.proofs.Telling.{and-then}
use Rattle.sentence_code.proofs.put_allowed.Goals as goal

pub returns : goal.returns
unfolding bytes_of allowed_words
returns c =
    simp (c.put_number.ensures.0, c.put_words-3.ensures, c.put_words-2.ensures, c.block_name.ensures, c.put_words.ensures, and-then, append_assoc)
