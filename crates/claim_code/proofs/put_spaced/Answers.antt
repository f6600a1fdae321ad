use Rattle.text.specs.Characters.{bytes_of}
use Rattle.text_code.proofs.Telling.{and-then}
use Rattle.claim_code.proofs.put_spaced.Goals as goal

pub returns : goal.returns
unfolding bytes_of
returns c = simp (c.put_number.ensures.0, c.put_words.ensures, and-then)
