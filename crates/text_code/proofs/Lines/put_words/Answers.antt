use lib.Seq.{length-sets}
use Rattle.text_code.specs.Telling.{and_text}
use Rattle.text_code.proofs.Lines.put_words.Goals as goal

pub returns : goal.returns
unfolding and_text
returns c = simp (c.grow.ensures, c.put.ensures, length-sets)
