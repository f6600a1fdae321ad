-- Every public function's promise settles its answer.
use Rattle.settled.specs.Settles.{SettlesAnswer, same}
use Rattle.calls_16.proofs.look.Reads as look
use Rattle.calls_16.proofs.look.Kinds as look-kinds
use Rattle.calls_16.proofs.perform.Reads as perform
use Rattle.calls_16.proofs.perform.Kinds as perform-kinds

pub look-settles : SettlesAnswer 0 look-kinds.ps look-kinds.r look.Post
look-settles κs a x y s t p q = same p q

pub perform-settles : SettlesAnswer 1 perform-kinds.ps perform-kinds.r perform.Post
perform-settles κs a x y s t p q = same p q
