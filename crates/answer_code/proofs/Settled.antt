-- Every public function's promise settles its answer.
use Rattle.settled.specs.Settles.{SettlesAnswer, same}
use Rattle.answer_code.proofs.row_of.Reads as row_of
use Rattle.answer_code.proofs.row_of.Kinds as row-of-kinds
use Rattle.answer_code.proofs.sense_of.Reads as sense-of
use Rattle.answer_code.proofs.sense_of.Kinds as sense-of-kinds
use Rattle.answer_code.proofs.refusal_of.Reads as refusal_of
use Rattle.answer_code.proofs.refusal_of.Kinds as refusal-of-kinds
use Rattle.answer_code.proofs.is_done.Reads as is-done
use Rattle.answer_code.proofs.is_done.Kinds as is-done-kinds

pub row-of-settles : SettlesAnswer 0 row-of-kinds.ps row-of-kinds.r row_of.Post
row-of-settles κs a x y s t p q = same p q

pub sense-of-settles : SettlesAnswer 0 sense-of-kinds.ps sense-of-kinds.r sense-of.Post
sense-of-settles κs a x y s t p q = same p q

pub refusal-of-settles : SettlesAnswer 0 refusal-of-kinds.ps refusal-of-kinds.r refusal_of.Post
refusal-of-settles κs a x y s t p q = same p q

pub is-done-settles : SettlesAnswer 0 is-done-kinds.ps is-done-kinds.r is-done.Post
is-done-settles κs a x y s t p q = same p q
