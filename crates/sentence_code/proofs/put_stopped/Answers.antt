use Rattle.text_code.proofs.Telling.{and-then}
use Rattle.sentence_code.proofs.put_stopped.Goals as goal

pub returns : goal.returns
returns c = simp (c.put_touch.ensures, c.put_words.ensures, and-then)
