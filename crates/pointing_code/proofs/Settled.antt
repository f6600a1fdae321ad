-- Every public function's promise settles its answer.
use Rattle.settled.specs.Settles.{SettlesAnswer, same}
use Rattle.pointing_code.proofs.check_rule.Reads as check-rule
use Rattle.pointing_code.proofs.check_rule.Kinds as check-rule-kinds
use Rattle.pointing_code.proofs.check_zeros.Reads as check-zeros
use Rattle.pointing_code.proofs.check_zeros.Kinds as check-zeros-kinds

pub check-rule-settles : SettlesAnswer 0 check-rule-kinds.ps check-rule-kinds.r check-rule.Post
check-rule-settles κs a x y s t p q = same p q

pub check-zeros-settles : SettlesAnswer 1 check-zeros-kinds.ps check-zeros-kinds.r check-zeros.Post
check-zeros-settles κs a x y s t p q = same p q
