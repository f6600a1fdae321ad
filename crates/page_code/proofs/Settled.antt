-- The public function's promise settles its answer.
use Rattle.settled.specs.Settles.{SettlesAnswer, same}
use Rattle.page_code.proofs.check.Reads as check
use Rattle.page_code.proofs.check.Kinds as check-kinds

-- the answer, the faulty byte and the page
pub check-settles : SettlesAnswer 1 check-kinds.ps check-kinds.r check.Post
check-settles κs a x y s t p q = same p q
