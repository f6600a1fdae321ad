use Rattle.sentence.specs.Telling.{second_line}
use Rattle.text.specs.Characters.{bytes_of}
use Rattle.text_code.proofs.Telling.{and-then}
use Rattle.sentence_code.proofs.put_second.Goals as goal

pub returns : goal.returns
unfolding bytes_of second_line
returns c = simp (c.put_words.ensures, c.put_sentence.ensures, and-then)
