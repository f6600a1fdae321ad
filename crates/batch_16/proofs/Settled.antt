-- The public function's promise settles its answer, the record, and each byte of the lent buffer.
use Prim.Native.Nat.{ℕ}
use mathlib.Core.List.{List}
use Rattle.settled.specs.Settles.{Settles, both-same}
use Rattle.batch_16.proofs.batch.Reads as batch
use Rattle.batch_16.proofs.batch.Kinds as batch-kinds

pub batch-settles : Settles 3 batch-kinds.ps batch-kinds.r (List ℕ) (λ κs s. s.1.1.1.0.now) batch.Post
batch-settles κs a x y s t p q = both-same p.ran p.told q.ran q.told
