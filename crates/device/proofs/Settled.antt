-- The one public function's promise settles its answer.
use Rattle.settled.specs.Settles.{SettlesAnswer, same}
use Rattle.device.proofs.Set.established.Reads as established
use Rattle.device.proofs.Set.established.Kinds as established-kinds

pub established-settles : SettlesAnswer 0 established-kinds.ps established-kinds.r established.Post
established-settles κs a x y s t p q = same p q
