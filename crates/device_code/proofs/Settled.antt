-- Every public function's promise settles its answer.
use Rattle.settled.specs.Settles.{SettlesAnswer, same}
use Rattle.device_code.proofs.is_owned.Reads as is-owned
use Rattle.device_code.proofs.is_owned.Kinds as is-owned-kinds
use Rattle.device_code.proofs.used_fits.Reads as used-fits
use Rattle.device_code.proofs.used_fits.Kinds as used-fits-kinds
use Rattle.device_code.proofs.empty_is_zero.Reads as empty-is-zero
use Rattle.device_code.proofs.empty_is_zero.Kinds as empty-is-zero-kinds

pub is-owned-settles : SettlesAnswer 0 is-owned-kinds.ps is-owned-kinds.r is-owned.Post
is-owned-settles κs a x y s t p q = same p q

pub used-fits-settles : SettlesAnswer 0 used-fits-kinds.ps used-fits-kinds.r used-fits.Post
used-fits-settles κs a x y s t p q = same p q

pub empty-is-zero-settles : SettlesAnswer 0 empty-is-zero-kinds.ps empty-is-zero-kinds.r empty-is-zero.Post
empty-is-zero-settles κs a x y s t p q = same p q
