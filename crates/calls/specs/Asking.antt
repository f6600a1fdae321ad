-- What a kind asks of the drive, with a nexus, an argument and, for IN and OUT, a protocol.
use Rattle.std.specs.Prelude.{ℕ, Bool, true, false, List, eqb}
use Rattle.arrays.specs.Base.{when◌then◌else◌}
use Rattle.places.specs.declared.Event.{Event}
use Rattle.places.specs.declared.Event.TheVariants.{Demount, NexusLoss, DeviceLoss, Preempt, Microcode, VendorRelease}
use Rattle.drive.specs.declared.Command.{Command}
use Rattle.drive.specs.Restoring.{block_of}
use Rattle.drive.specs.Calls.{Call, power_up, security_in, security_out, write, read, unit_reset, happens}
use Rattle.calls.specs.Kinds.{in_kind, out_kind, write_kind, unit_reset_kind, demount_kind, nexus_loss_kind, device_loss_kind, preempt_kind, microcode_kind, read_kind, is_event}
use Rattle.calls.specs.declared.Asked.{Asked}
use Rattle.calls.specs.declared.Asked.TheVariants.{PowerOn, In, Out, Write, Read, UnitReset, Happen}

-- "The argument is the page code, .."
abbrev pub command_of : (nexus protocol argument : ℕ) → Command
command_of nexus protocol argument = record { nexus = nexus; protocol = protocol; code = argument }

-- ".. the support flag 0 or 1, .."
abbrev pub flag_most : ℕ
flag_most = 1

abbrev pub supports : ℕ → Bool
supports argument = eqb argument 1

-- ".. the place, .."; the nexus is whose reservation is lost, or the preemptor
unfoldable pub event_of : (kind nexus argument : ℕ) → Event
event_of kind nexus argument =
    when eqb kind demount_kind then Demount
    else when eqb kind nexus_loss_kind then NexusLoss nexus
    else when eqb kind device_loss_kind then DeviceLoss
    else when eqb kind preempt_kind then Preempt nexus
    else when eqb kind microcode_kind then Microcode
    else VendorRelease argument

-- ".. or block kind times 256 plus key": `block_of`. A kind that is no call's is not asked: it reads as power-on's.
unfoldable pub asked_of : (kind nexus argument protocol : ℕ) → Asked
asked_of kind nexus argument protocol =
    when eqb kind in_kind then In (command_of nexus protocol argument)
    else when eqb kind out_kind then Out (command_of nexus protocol argument)
    else when eqb kind write_kind then Write nexus (supports argument)
    else when eqb kind unit_reset_kind then UnitReset
    else when is_event kind then Happen (event_of kind nexus argument)
    else when eqb kind read_kind then Read nexus (block_of argument)
    else PowerOn

-- the call: only OUT has a page
abbrev pub call_of : Asked → (page : List ℕ) → Call
call_of PowerOn page = power_up
call_of (In command) page = security_in command
call_of (Out command) page = security_out command page
call_of (Write n supported) page = write n supported
call_of (Read n block) page = read n block
call_of UnitReset page = unit_reset
call_of (Happen event) page = happens event

-- power-on, which takes no record
abbrev pub is_power_on : Asked → Bool
is_power_on PowerOn = true
is_power_on (In command) = false
is_power_on (Out command) = false
is_power_on (Write n supported) = false
is_power_on (Read n block) = false
is_power_on UnitReset = false
is_power_on (Happen event) = false
