-- Every public function's promise settles its answer.
use Rattle.settled.specs.Settles.{SettlesAnswer, same}
use Rattle.words_16.proofs.words_of.Reads as words_of
use Rattle.words_16.proofs.words_of.Kinds as words-of-kinds
use Rattle.words_16.proofs.with_words.Reads as with-words
use Rattle.words_16.proofs.with_words.Kinds as with-words-kinds
use Rattle.words_16.proofs.power_on.Reads as power-on
use Rattle.words_16.proofs.power_on.Kinds as power-on-kinds
use Rattle.words_16.proofs.formed.Reads as formed
use Rattle.words_16.proofs.formed.Kinds as formed-kinds

pub words-of-settles : SettlesAnswer 0 words-of-kinds.ps words-of-kinds.r words_of.Post
words-of-settles κs a x y s t p q = same p q

pub with-words-settles : SettlesAnswer 0 with-words-kinds.ps with-words-kinds.r with-words.Post
with-words-settles κs a x y s t p q = same p q

pub power-on-settles : SettlesAnswer 0 power-on-kinds.ps power-on-kinds.r power-on.Post
power-on-settles κs a x y s t p q = same p q

pub formed-settles : SettlesAnswer 0 formed-kinds.ps formed-kinds.r formed.Post
formed-settles κs a x y s t p q = same p q
