-- The calls of document 01, and the read of document 02. An event is any that may release sets.
use Rattle.std.specs.Prelude.{ℕ, Bool, true, false, List, Option, Some, None}
use Rattle.places.specs.declared.Event.{Event}
use Rattle.drive.specs.declared.Command.{Command}
use Rattle.drive.specs.declared.Block.{Block}

pub data Call : Type 0 where
  power_up : Call
  security_in : Command → Call
  security_out : Command → (page : List ℕ) → Call
  write : (nexus : ℕ) (supported : Bool) → Call
  read : (nexus : ℕ) → Block → Call
  unit_reset : Call
  happens : Event → Call

-- the nexus that sends a security command, a write or a read; other calls have none
abbrev pub sender_of : Call → Option ℕ
sender_of power_up = None
sender_of (security_in command) = Some command.nexus
sender_of (security_out command page) = Some command.nexus
sender_of (write n supported) = Some n
sender_of (read n block) = Some n
sender_of unit_reset = None
sender_of (happens event) = None

-- "Power-on takes no record"
abbrev pub is_power_up : Call → Bool
is_power_up power_up = true
is_power_up (security_in command) = false
is_power_up (security_out command page) = false
is_power_up (write n supported) = false
is_power_up (read n block) = false
is_power_up unit_reset = false
is_power_up (happens event) = false
