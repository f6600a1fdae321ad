-- Every public call's promise settles its answer, the record, and each byte of a lent buffer.
use Rattle.settled.specs.Settles.{SettlesAnswer, same}
use Rattle.drive_code.proofs.hear.Reads as hear
use Rattle.drive_code.proofs.hear.Kinds as hear-kinds
use Rattle.drive_code.proofs.check_command.Reads as check-command
use Rattle.drive_code.proofs.check_command.Kinds as check-command-kinds
use Rattle.drive_code.proofs.check_write.Reads as check-write
use Rattle.drive_code.proofs.check_write.Kinds as check-write-kinds
use Rattle.drive_code.proofs.decide.Reads as decide
use Rattle.drive_code.proofs.decide.Kinds as decide-kinds
use Rattle.drive_code.proofs.value_of.Reads as value_of_lem
use Rattle.drive_code.proofs.value_of.Kinds as value-of-kinds
use Rattle.drive_code.proofs.block_of.Reads as Block-of
use Rattle.drive_code.proofs.block_of.Kinds as block-of-kinds
use Rattle.drive_code.proofs.restore.Reads as restore
use Rattle.drive_code.proofs.restore.Kinds as restore-kinds
use Rattle.drive_code.proofs.read_value_of.Reads as read-value-of
use Rattle.drive_code.proofs.read_value_of.Kinds as read-value-of-kinds
use Rattle.drive_code.proofs.check_event.Reads as check-event
use Rattle.drive_code.proofs.check_event.Kinds as check-event-kinds
use Rattle.drive_code.proofs.actor_of.Reads as actor-of
use Rattle.drive_code.proofs.actor_of.Kinds as actor-of-kinds

pub hear-settles : SettlesAnswer 0 hear-kinds.ps hear-kinds.r hear.Post
hear-settles κs a x y s t p q = same p q

pub check-command-settles : SettlesAnswer 0 check-command-kinds.ps check-command-kinds.r check-command.Post
check-command-settles κs a x y s t p q = same p q

pub check-write-settles : SettlesAnswer 0 check-write-kinds.ps check-write-kinds.r check-write.Post
check-write-settles κs a x y s t p q = same p q

pub decide-settles : SettlesAnswer 0 decide-kinds.ps decide-kinds.r decide.Post
decide-settles κs a x y s t p q = same p q

pub value-of-settles : SettlesAnswer 0 value-of-kinds.ps value-of-kinds.r value_of_lem.Post
value-of-settles κs a x y s t p q = same p q

pub block-of-settles : SettlesAnswer 0 block-of-kinds.ps block-of-kinds.r Block-of.Post
block-of-settles κs a x y s t p q = same p q

pub restore-settles : SettlesAnswer 0 restore-kinds.ps restore-kinds.r restore.Post
restore-settles κs a x y s t p q = same p q

pub read-value-of-settles : SettlesAnswer 0 read-value-of-kinds.ps read-value-of-kinds.r read-value-of.Post
read-value-of-settles κs a x y s t p q = same p q

pub check-event-settles : SettlesAnswer 0 check-event-kinds.ps check-event-kinds.r check-event.Post
check-event-settles κs a x y s t p q = same p q

pub actor-of-settles : SettlesAnswer 0 actor-of-kinds.ps actor-of-kinds.r actor-of.Post
actor-of-settles κs a x y s t p q = same p q
