-- What is claimed of a page that is sent (proofs/Sending).
use Rattle.std.specs.Prelude.{◌<◌, ◌≡◌, true, false, length}
use Rattle.device.specs.Record.{State, nexus_at}
use Rattle.device.specs.WellFormed.{well_formed}
use Rattle.drive.specs.declared.Command.{Command}

-- a SECURITY PROTOCOL OUT that nothing stops before its page is looked at: none of answers 1 to 6 is due
pub record Reached (s : State) (command : Command) : Type 0 where
  pub formed : well_formed s ≡ true
  pub within : command.nexus < length s.nexuses
  pub another : (nexus_at s command.nexus).marks.another ≡ false
  pub vendor : (nexus_at s command.nexus).marks.vendor ≡ false
  pub protocol : command.protocol ≡ 0x20
  pub code : command.code ≡ 0x10
