-- Every public function's promise settles its answer.
use Rattle.settled.specs.Settles.{SettlesAnswer, same}
use Rattle.places_16.proofs.own_place.Reads as own-place
use Rattle.places_16.proofs.own_place.Kinds as own-place-kinds
use Rattle.places_16.proofs.room_for.Reads as room_for
use Rattle.places_16.proofs.room_for.Kinds as room-for-kinds
use Rattle.places_16.proofs.room_asked.Reads as room-asked
use Rattle.places_16.proofs.room_asked.Kinds as room-asked-kinds
use Rattle.places_16.proofs.take_page.Reads as take-page
use Rattle.places_16.proofs.take_page.Kinds as take-page-kinds
use Rattle.places_16.proofs.none_due.Reads as none-due
use Rattle.places_16.proofs.none_due.Kinds as none-due-kinds
use Rattle.places_16.proofs.release_by.Reads as release-by
use Rattle.places_16.proofs.release_by.Kinds as release-by-kinds

pub own-place-settles : SettlesAnswer 0 own-place-kinds.ps own-place-kinds.r own-place.Post
own-place-settles κs a x y s t p q = same p q

pub room-for-settles : SettlesAnswer 0 room-for-kinds.ps room-for-kinds.r room_for.Post
room-for-settles κs a x y s t p q = same p q

pub room-asked-settles : SettlesAnswer 0 room-asked-kinds.ps room-asked-kinds.r room-asked.Post
room-asked-settles κs a x y s t p q = same p q

pub take-page-settles : SettlesAnswer 0 take-page-kinds.ps take-page-kinds.r take-page.Post
take-page-settles κs a x y s t p q = same p q

pub none-due-settles : SettlesAnswer 0 none-due-kinds.ps none-due-kinds.r none-due.Post
none-due-settles κs a x y s t p q = same p q

pub release-by-settles : SettlesAnswer 0 release-by-kinds.ps release-by-kinds.r release-by.Post
release-by-settles κs a x y s t p q = same p q
