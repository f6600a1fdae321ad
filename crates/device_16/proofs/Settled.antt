-- Every public function's promise settles its answer.
use Rattle.settled.specs.Settles.{SettlesAnswer, same}
use Rattle.device_16.proofs.power_on.Reads as power-on
use Rattle.device_16.proofs.power_on.Kinds as power-on-kinds
use Rattle.device_16.proofs.owned_place.Reads as owned-place
use Rattle.device_16.proofs.owned_place.Kinds as owned-place-kinds
use Rattle.device_16.proofs.nexus_of.Reads as nexus-of
use Rattle.device_16.proofs.nexus_of.Kinds as nexus-of-kinds
use Rattle.device_16.proofs.nexus_at.Reads as nexus-at
use Rattle.device_16.proofs.nexus_at.Kinds as nexus-at-kinds
use Rattle.device_16.proofs.place_of.Reads as place_of
use Rattle.device_16.proofs.place_of.Kinds as place-of-kinds
use Rattle.device_16.proofs.selected.Reads as selected
use Rattle.device_16.proofs.selected.Kinds as selected-kinds
use Rattle.device_16.proofs.numbers.Reads as numbers
use Rattle.device_16.proofs.numbers.Kinds as numbers-kinds
use Rattle.device_16.proofs.selected_set.Reads as selected-set
use Rattle.device_16.proofs.selected_set.Kinds as selected-set-kinds

pub power-on-settles : SettlesAnswer 0 power-on-kinds.ps power-on-kinds.r power-on.Post
power-on-settles κs a x y s t p q = same p q

pub owned-place-settles : SettlesAnswer 0 owned-place-kinds.ps owned-place-kinds.r owned-place.Post
owned-place-settles κs a x y s t p q = same p q

pub nexus-of-settles : SettlesAnswer 0 nexus-of-kinds.ps nexus-of-kinds.r nexus-of.Post
nexus-of-settles κs a x y s t p q = same p q

pub nexus-at-settles : SettlesAnswer 0 nexus-at-kinds.ps nexus-at-kinds.r nexus-at.Post
nexus-at-settles κs a x y s t p q = same p q

pub place-of-settles : SettlesAnswer 0 place-of-kinds.ps place-of-kinds.r place_of.Post
place-of-settles κs a x y s t p q = same p.0 q.0

pub selected-settles : SettlesAnswer 0 selected-kinds.ps selected-kinds.r selected.Post
selected-settles κs a x y s t p q = same p.0 q.0

pub numbers-settles : SettlesAnswer 0 numbers-kinds.ps numbers-kinds.r numbers.Post
numbers-settles κs a x y s t p q = same p q

pub selected-set-settles : SettlesAnswer 0 selected-set-kinds.ps selected-set-kinds.r selected-set.Post
selected-set-settles κs a x y s t p q = same p q
