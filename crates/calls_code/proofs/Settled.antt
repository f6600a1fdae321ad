-- Every public function's promise settles its answer.
use Rattle.settled.specs.Settles.{SettlesAnswer, same}
use Rattle.calls_code.proofs.command_of.Reads as command-of
use Rattle.calls_code.proofs.command_of.Kinds as command-of-kinds
use Rattle.calls_code.proofs.event_of.Reads as event-of
use Rattle.calls_code.proofs.event_of.Kinds as event-of-kinds
use Rattle.calls_code.proofs.is_event.Reads as is-event
use Rattle.calls_code.proofs.is_event.Kinds as is-event-kinds
use Rattle.calls_code.proofs.asked_of.Reads as asked_of
use Rattle.calls_code.proofs.asked_of.Kinds as asked-of-kinds
use Rattle.calls_code.proofs.is_power_on.Reads as is-power-on
use Rattle.calls_code.proofs.is_power_on.Kinds as is-power-on-kinds
use Rattle.calls_code.proofs.sender_number.Reads as sender-number
use Rattle.calls_code.proofs.sender_number.Kinds as sender-number-kinds
use Rattle.calls_code.proofs.quietly.Reads as quietly
use Rattle.calls_code.proofs.quietly.Kinds as quietly-kinds

pub command-of-settles : SettlesAnswer 0 command-of-kinds.ps command-of-kinds.r command-of.Post
command-of-settles κs a x y s t p q = same p q

pub event-of-settles : SettlesAnswer 0 event-of-kinds.ps event-of-kinds.r event-of.Post
event-of-settles κs a x y s t p q = same p q

pub is-event-settles : SettlesAnswer 0 is-event-kinds.ps is-event-kinds.r is-event.Post
is-event-settles κs a x y s t p q = same p q

pub asked-of-settles : SettlesAnswer 0 asked-of-kinds.ps asked-of-kinds.r asked_of.Post
asked-of-settles κs a x y s t p q = same p q

pub is-power-on-settles : SettlesAnswer 0 is-power-on-kinds.ps is-power-on-kinds.r is-power-on.Post
is-power-on-settles κs a x y s t p q = same p q

pub sender-number-settles : SettlesAnswer 0 sender-number-kinds.ps sender-number-kinds.r sender-number.Post
sender-number-settles κs a x y s t p q = same p q

pub quietly-settles : SettlesAnswer 0 quietly-kinds.ps quietly-kinds.r quietly.Post
quietly-settles κs a x y s t p q = same p q
