-- The public function's promise settles its answer, and each byte of the lent buffer.
use Prim.Native.Nat.{ℕ}
use mathlib.Core.List.{List}
use Rattle.settled.specs.Settles.{Settles, both-same}
use Rattle.stream_16.proofs.obey.Reads as obey
use Rattle.stream_16.proofs.obey.Kinds as obey-kinds

pub obey-settles : Settles 2 obey-kinds.ps obey-kinds.r (List ℕ) (λ κs s. s.1.1.1.0.now) obey.Post
obey-settles κs a x y s t p q = both-same p.tells p.holds q.tells q.holds
