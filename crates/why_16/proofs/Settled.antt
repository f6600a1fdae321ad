-- Every public function's promise settles its answer.
use Rattle.settled.specs.Settles.{SettlesAnswer, same}
use Rattle.why_16.proofs.follow.Reads as follow
use Rattle.why_16.proofs.follow.Kinds as follow-kinds
use Rattle.why_16.proofs.why.Reads as why
use Rattle.why_16.proofs.why.Kinds as why-kinds

pub follow-settles : SettlesAnswer 2 follow-kinds.ps follow-kinds.r follow.Post
follow-settles κs a x y s t p q = same p q

pub why-settles : SettlesAnswer 1 why-kinds.ps why-kinds.r why.Post
why-settles κs a x y s t p q = same p q
