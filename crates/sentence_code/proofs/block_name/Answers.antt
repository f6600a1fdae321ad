use mathlib.Core.Path.{sym, ap}
use native.Mathlib.Omega.{arith}
use Rattle.sentence.proofs.Ways.{block-encrypted}
use Rattle.sentence.specs.Telling.{block_words}
use Rattle.text.specs.Characters.{bytes_of}
use Rattle.sentence_code.proofs.block_name.Goals as goal

pub returns-in-0 : goal.returns-in-0
unfolding bytes_of block_words
returns-in-0 c = sym (ap block_words c.in-0.is)

pub returns-in-1 : goal.returns-in-1
unfolding bytes_of block_words
returns-in-1 c = sym (ap block_words c.in-1.is)

pub returns-in_default : goal.returns-in_default
unfolding bytes_of
returns-in_default c = block-encrypted _ (omega arith)
