-- Document 02, request 11: "Every write event is counted once".
use Rattle.std.specs.Prelude.{ℕ, List, [], ◌∷◌, ◌++◌}
use Rattle.device.specs.Record.{State}
use Rattle.drive.specs.declared.Decision.{Decision}
use Rattle.drive.specs.Calls.{Call, power_up, security_in, security_out, write, read, unit_reset, happens}
use Rattle.drive.specs.Checks.{answer}
use Rattle.drive.specs.After.{after}
use Rattle.drive.specs.Outcomes.{decision}

-- a write of the session: its nexus, and what became of the block when the drive answered it
pub record Wrote : Type 0 where
  pub nexus : ℕ
  pub decision : Decision

-- a call is one write or none
abbrev pub wrote : State → Call → List Wrote
wrote s power_up = []
wrote s (security_in command) = []
wrote s (security_out command page) = []
wrote s (write n supported) = record { nexus = n; decision = decision s n (answer s (write n supported)) } ∷ []
wrote s (read n block) = []
wrote s unit_reset = []
wrote s (happens event) = []

-- the writes of a session, in order
unfoldable pub writes_from : State → List Call → List Wrote
writes_from s [] = []
writes_from s (call ∷ later) = wrote s call ++ writes_from (after s call) later
