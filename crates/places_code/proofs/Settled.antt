-- Every public function's promise settles its answer.
use Rattle.settled.specs.Settles.{SettlesAnswer, same}
use Rattle.places_code.proofs.draw.Reads as draw
use Rattle.places_code.proofs.draw.Kinds as draw-kinds
use Rattle.places_code.proofs.free.Reads as free
use Rattle.places_code.proofs.free.Kinds as free-kinds
use Rattle.places_code.proofs.room_by.Reads as Room-by
use Rattle.places_code.proofs.room_by.Kinds as room-by-kinds
use Rattle.places_code.proofs.is_no_room.Reads as is-no-room
use Rattle.places_code.proofs.is_no_room.Kinds as is-no-room-kinds
use Rattle.places_code.proofs.needs_place.Reads as needs-place
use Rattle.places_code.proofs.needs_place.Kinds as needs-place-kinds
use Rattle.places_code.proofs.nexus_after.Reads as nexus-after
use Rattle.places_code.proofs.nexus_after.Kinds as nexus-after-kinds
use Rattle.places_code.proofs.append.Reads as append
use Rattle.places_code.proofs.append.Kinds as append-kinds
use Rattle.places_code.proofs.is_due.Reads as is-due
use Rattle.places_code.proofs.is_due.Kinds as is-due-kinds

pub draw-settles : SettlesAnswer 0 draw-kinds.ps draw-kinds.r draw.Post
draw-settles κs a x y s t p q = same p q

pub free-settles : SettlesAnswer 0 free-kinds.ps free-kinds.r free.Post
free-settles κs a x y s t p q = same p q

pub room-by-settles : SettlesAnswer 0 room-by-kinds.ps room-by-kinds.r Room-by.Post
room-by-settles κs a x y s t p q = same p q

pub is-no-room-settles : SettlesAnswer 0 is-no-room-kinds.ps is-no-room-kinds.r is-no-room.Post
is-no-room-settles κs a x y s t p q = same p q

pub needs-place-settles : SettlesAnswer 0 needs-place-kinds.ps needs-place-kinds.r needs-place.Post
needs-place-settles κs a x y s t p q = same p q

pub nexus-after-settles : SettlesAnswer 0 nexus-after-kinds.ps nexus-after-kinds.r nexus-after.Post
nexus-after-settles κs a x y s t p q = same p q

pub append-settles : SettlesAnswer 0 append-kinds.ps append-kinds.r append.Post
append-settles κs a x y s t p q = same p q

pub is-due-settles : SettlesAnswer 0 is-due-kinds.ps is-due-kinds.r is-due.Post
is-due-settles κs a x y s t p q = same p q
