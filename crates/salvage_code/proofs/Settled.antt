-- Every public function's promise settles its answer, and each byte of a lent buffer.
use Prim.Native.Nat.{ℕ}
use mathlib.Core.List.{List}
use Rattle.settled.specs.Settles.{Settles, SettlesAnswer, same, both-same}
use Rattle.salvage_code.proofs.salvage.Reads as salvage
use Rattle.salvage_code.proofs.salvage.Kinds as salvage-kinds
use Rattle.salvage_code.proofs.tell.Reads as tell
use Rattle.salvage_code.proofs.tell.Kinds as tell-kinds

pub salvage-settles : Settles 2 salvage-kinds.ps salvage-kinds.r (List ℕ) (λ κs s. s.1.0.now) salvage.Post
salvage-settles κs a x y s t p q = both-same p.reports p.writes q.reports q.writes

pub tell-settles : SettlesAnswer 0 tell-kinds.ps tell-kinds.r tell.Post
tell-settles κs a x y s t p q = same p.0 q.0
