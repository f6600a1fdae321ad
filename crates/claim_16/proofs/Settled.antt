-- Every public function's promise settles its answer, and each byte of a lent buffer.
use Prim.Native.Nat.{ℕ}
use mathlib.Core.List.{List}
use Rattle.settled.specs.Settles.{Settles, SettlesAnswer, same, both-same}
use Rattle.claim_16.proofs.tally.Reads as tally
use Rattle.claim_16.proofs.tally.Kinds as tally-kinds
use Rattle.claim_16.proofs.claim.Reads as claim
use Rattle.claim_16.proofs.claim.Kinds as claim-kinds

pub tally-settles : SettlesAnswer 2 tally-kinds.ps tally-kinds.r tally.Post
tally-settles κs a x y s t p q = same p q

pub claim-settles : Settles 2 claim-kinds.ps claim-kinds.r (List ℕ) (λ κs s. s.1.1.0.now) claim.Post
claim-settles κs a x y s t p q = both-same p.claimed p.told q.claimed q.told
