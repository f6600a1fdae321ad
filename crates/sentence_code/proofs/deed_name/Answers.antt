use mathlib.Core.Path.{sym, ap}
use Rattle.sentence.specs.Telling.{deed_words}
use Rattle.text.specs.Characters.{bytes_of}
use Rattle.sentence_code.proofs.deed_name.Goals as goal

pub returns-in-Untouched : goal.returns-in-Untouched
unfolding bytes_of deed_words
returns-in-Untouched c = sym (ap deed_words c.in-Untouched.is)

pub returns-in-Established : goal.returns-in-Established
unfolding bytes_of deed_words
returns-in-Established c = sym (ap deed_words c.in-Established.is)

pub returns-in-Replaced : goal.returns-in-Replaced
unfolding bytes_of deed_words
returns-in-Replaced c = sym (ap deed_words c.in-Replaced.is)

pub returns-in-Evicted : goal.returns-in-Evicted
unfolding bytes_of deed_words
returns-in-Evicted c = sym (ap deed_words c.in-Evicted.is)

pub returns-in-Released : goal.returns-in-Released
unfolding bytes_of deed_words
returns-in-Released c = sym (ap deed_words c.in-Released.is)
