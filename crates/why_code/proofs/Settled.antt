-- Every public function's promise settles its answer.
use Rattle.settled.specs.Settles.{SettlesAnswer, same}
use Rattle.why_code.proofs.deed_of.Reads as deed-of
use Rattle.why_code.proofs.deed_of.Kinds as deed-of-kinds
use Rattle.why_code.proofs.note_first.Reads as note-first
use Rattle.why_code.proofs.note_first.Kinds as note-first-kinds
use Rattle.why_code.proofs.touch_for.Reads as touch-for
use Rattle.why_code.proofs.touch_for.Kinds as touch-for-kinds
use Rattle.why_code.proofs.mode_for.Reads as mode-for
use Rattle.why_code.proofs.mode_for.Kinds as mode-for-kinds
use Rattle.why_code.proofs.event_at.Reads as event-at
use Rattle.why_code.proofs.event_at.Kinds as event-at-kinds

pub deed-of-settles : SettlesAnswer 0 deed-of-kinds.ps deed-of-kinds.r deed-of.Post
deed-of-settles κs a x y s t p q = same p q

pub note-first-settles : SettlesAnswer 0 note-first-kinds.ps note-first-kinds.r note-first.Post
note-first-settles κs a x y s t p q = same p q

pub touch-for-settles : SettlesAnswer 0 touch-for-kinds.ps touch-for-kinds.r touch-for.Post
touch-for-settles κs a x y s t p q = same p q

pub mode-for-settles : SettlesAnswer 0 mode-for-kinds.ps mode-for-kinds.r mode-for.Post
mode-for-settles κs a x y s t p q = same p q

pub event-at-settles : SettlesAnswer 1 event-at-kinds.ps event-at-kinds.r event-at.Post
event-at-settles κs a x y s t p q = same p q
