use mathlib.Core.Path.{sym, ap}
use native.Mathlib.Omega.{arith}
use Rattle.text.specs.Characters.{bytes_of}
use Rattle.sentence.specs.Telling.{kind_words}
use Rattle.sentence.proofs.Names.{unnamed}
use Rattle.sentence_code.proofs.kind_name.Goals as goal

pub returns-in-0 : goal.returns-in-0
unfolding bytes_of kind_words
returns-in-0 c = sym (ap kind_words c.in-0.is)

pub returns-in-1 : goal.returns-in-1
unfolding bytes_of kind_words
returns-in-1 c = sym (ap kind_words c.in-1.is)

pub returns-in-2 : goal.returns-in-2
unfolding bytes_of kind_words
returns-in-2 c = sym (ap kind_words c.in-2.is)

pub returns-in-3 : goal.returns-in-3
unfolding bytes_of kind_words
returns-in-3 c = sym (ap kind_words c.in-3.is)

pub returns-in-4 : goal.returns-in-4
unfolding bytes_of kind_words
returns-in-4 c = sym (ap kind_words c.in-4.is)

pub returns-in-5 : goal.returns-in-5
unfolding bytes_of kind_words
returns-in-5 c = sym (ap kind_words c.in-5.is)

pub returns-in-6 : goal.returns-in-6
unfolding bytes_of kind_words
returns-in-6 c = sym (ap kind_words c.in-6.is)

pub returns-in-7 : goal.returns-in-7
unfolding bytes_of kind_words
returns-in-7 c = sym (ap kind_words c.in-7.is)

pub returns-in-8 : goal.returns-in-8
unfolding bytes_of kind_words
returns-in-8 c = sym (ap kind_words c.in-8.is)

pub returns-in-9 : goal.returns-in-9
unfolding bytes_of kind_words
returns-in-9 c = sym (ap kind_words c.in-9.is)

pub returns-in-10 : goal.returns-in-10
unfolding bytes_of kind_words
returns-in-10 c = sym (ap kind_words c.in-10.is)

pub returns-in-11 : goal.returns-in-11
unfolding bytes_of kind_words
returns-in-11 c = sym (ap kind_words c.in-11.is)

pub returns-in_default : goal.returns-in_default
unfolding bytes_of
returns-in_default c = unnamed _ (omega arith)
