-- The public function's promise settles its answer.
use Rattle.settled.specs.Settles.{SettlesAnswer, same}
use Rattle.batch_code.proofs.verdict_of.Reads as verdict-of
use Rattle.batch_code.proofs.verdict_of.Kinds as verdict-of-kinds

pub verdict-of-settles : SettlesAnswer 2 verdict-of-kinds.ps verdict-of-kinds.r verdict-of.Post
verdict-of-settles κs a x y s t p q = same p q
