-- Every public function's promise settles its answer.
use Rattle.settled.specs.Settles.{SettlesAnswer, same}
use Rattle.sentence_code.proofs.tell.Reads as tell
use Rattle.sentence_code.proofs.tell.Kinds as tell-kinds
use Rattle.sentence_code.proofs.tell_write.Reads as tell-write
use Rattle.sentence_code.proofs.tell_write.Kinds as tell-write-kinds

pub tell-settles : SettlesAnswer 0 tell-kinds.ps tell-kinds.r tell.Post
tell-settles κs a x y s t p q = same p.0 q.0

pub tell-write-settles : SettlesAnswer 0 tell-write-kinds.ps tell-write-kinds.r tell-write.Post
tell-write-settles κs a x y s t p q = same p.0 q.0
