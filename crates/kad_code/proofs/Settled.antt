-- Every public function's promise settles its answer.
use Rattle.settled.specs.Settles.{SettlesAnswer, same}
use Rattle.kad_code.proofs.lengths_good.Reads as lengths-good
use Rattle.kad_code.proofs.lengths_good.Kinds as lengths-good-kinds
use Rattle.kad_code.proofs.tails_good.Reads as tails-good
use Rattle.kad_code.proofs.tails_good.Kinds as tails-good-kinds
use Rattle.kad_code.proofs.is_zero.Reads as is_zero
use Rattle.kad_code.proofs.is_zero.Kinds as is-zero-kinds
use Rattle.kad_code.proofs.read.Reads as read
use Rattle.kad_code.proofs.read.Kinds as read-kinds
use Rattle.kad_code.proofs.write.Reads as write
use Rattle.kad_code.proofs.write.Kinds as write-kinds

pub lengths-good-settles : SettlesAnswer 0 lengths-good-kinds.ps lengths-good-kinds.r lengths-good.Post
lengths-good-settles κs a x y s t p q = same p q

pub tails-good-settles : SettlesAnswer 0 tails-good-kinds.ps tails-good-kinds.r tails-good.Post
tails-good-settles κs a x y s t p q = same p q

pub is-zero-settles : SettlesAnswer 0 is-zero-kinds.ps is-zero-kinds.r is_zero.Post
is-zero-settles κs a x y s t p q = same p q

pub read-settles : SettlesAnswer 1 read-kinds.ps read-kinds.r read.Post
read-settles κs a x y s t p q = same p.0 q.0

pub write-settles : SettlesAnswer 0 write-kinds.ps write-kinds.r write.Post
write-settles κs a x y s t p q = same p.0 q.0
