use mathlib.Core.List.{append_assoc}
use native.Mathlib.Omega.{arith}
use Rattle.wire.specs.Parts.{joined}
use Rattle.text.specs.Characters.{bytes_of}
use Rattle.text_code.proofs.Telling.{and-then}
use Rattle.salvage_code.proofs.put_change.Goals as goal

pub returns : goal.returns
unfolding bytes_of joined
returns c = (
  simp (c.put_words-3.ensures, c.put_number-2.ensures.0, c.put_words-2.ensures, c.put_number.ensures.0, c.put_words.ensures, and-then, append_assoc),
  omega (arith, c.put_number.ensures.1, c.put_number-2.ensures.1),
)
