-- Every public function's promise settles its answer.
use Rattle.settled.specs.Settles.{SettlesAnswer, same}
use Rattle.words_code.proofs.local_bit.Reads as local-bit
use Rattle.words_code.proofs.local_bit.Kinds as local-bit-kinds
use Rattle.words_code.proofs.hold.Reads as hold
use Rattle.words_code.proofs.hold.Kinds as hold-kinds
use Rattle.words_code.proofs.nexus_fits.Reads as nexus-fits
use Rattle.words_code.proofs.nexus_fits.Kinds as nexus-fits-kinds
use Rattle.words_code.proofs.changed_at.Reads as changed-at
use Rattle.words_code.proofs.changed_at.Kinds as changed-at-kinds

pub local-bit-settles : SettlesAnswer 0 local-bit-kinds.ps local-bit-kinds.r local-bit.Post
local-bit-settles κs a x y s t p q = same p q

pub hold-settles : SettlesAnswer 0 hold-kinds.ps hold-kinds.r hold.Post
hold-settles κs a x y s t p q = same p q

pub nexus-fits-settles : SettlesAnswer 0 nexus-fits-kinds.ps nexus-fits-kinds.r nexus-fits.Post
nexus-fits-settles κs a x y s t p q = same p q

pub changed-at-settles : SettlesAnswer 0 changed-at-kinds.ps changed-at-kinds.r changed-at.Post
changed-at-settles κs a x y s t p q = same p q
