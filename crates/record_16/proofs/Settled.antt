-- Every public function's promise settles its answer.
use Rattle.settled.specs.Settles.{SettlesAnswer, same}
use Rattle.record_16.proofs.record_bytes.Reads as record-bytes
use Rattle.record_16.proofs.record_bytes.Kinds as record-bytes-kinds
use Rattle.record_16.proofs.load.Reads as load
use Rattle.record_16.proofs.load.Kinds as load-kinds

pub record-bytes-settles : SettlesAnswer 0 record-bytes-kinds.ps record-bytes-kinds.r record-bytes.Post
record-bytes-settles κs a x y s t p q = same p q

pub load-settles : SettlesAnswer 1 load-kinds.ps load-kinds.r load.Post
load-settles κs a x y s t p q = same p q
