-- Every public function's promise settles its answer, the record, and each byte of a lent buffer.
use Prim.Native.Nat.{ℕ}
use mathlib.Core.List.{List}
use Rattle.settled.specs.Settles.{Settles, both-same}
use Rattle.session_16.proofs.run.Reads as run
use Rattle.session_16.proofs.run.Kinds as run-kinds
use Rattle.session_16.proofs.replay.Reads as replay
use Rattle.session_16.proofs.replay.Kinds as replay-kinds

pub run-settles : Settles 3 run-kinds.ps run-kinds.r (List ℕ) (λ κs s. s.1.1.1.0.now) run.Post
run-settles κs a x y s t p q = both-same p.0 p.1 q.0 q.1

pub replay-settles : Settles 2 replay-kinds.ps replay-kinds.r (List ℕ) (λ κs s. s.1.0.now) replay.Post
replay-settles κs a x y s t p q = both-same p.ran p.told q.ran q.told
