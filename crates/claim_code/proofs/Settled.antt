-- Every public function's promise settles its answer.
use Rattle.settled.specs.Settles.{SettlesAnswer, same}
use Rattle.claim_code.proofs.became.Reads as became
use Rattle.claim_code.proofs.became.Kinds as became-kinds
use Rattle.claim_code.proofs.row_of_nexus.Reads as row-of-nexus
use Rattle.claim_code.proofs.row_of_nexus.Kinds as row-of-nexus-kinds
use Rattle.claim_code.proofs.row_line.Reads as row_Line
use Rattle.claim_code.proofs.row_line.Kinds as row-line-kinds
use Rattle.claim_code.proofs.total_line.Reads as total-line
use Rattle.claim_code.proofs.total_line.Kinds as total-line-kinds

pub became-settles : SettlesAnswer 0 became-kinds.ps became-kinds.r became.Post
became-settles κs a x y s t p q = same p q

pub row-of-nexus-settles : SettlesAnswer 0 row-of-nexus-kinds.ps row-of-nexus-kinds.r row-of-nexus.Post
row-of-nexus-settles κs a x y s t p q = same p q

pub row-line-settles : SettlesAnswer 0 row-line-kinds.ps row-line-kinds.r row_Line.Post
row-line-settles κs a x y s t p q = same p.0 q.0

pub total-line-settles : SettlesAnswer 0 total-line-kinds.ps total-line-kinds.r total-line.Post
total-line-settles κs a x y s t p q = same p.0 q.0
