-- Sequences of calls.
use Rattle.std.specs.Prelude.{ℕ, List, [], ◌∷◌}
use Rattle.device.specs.Record.{State, power_on}
use Rattle.drive.specs.Calls.{Call}
use Rattle.drive.specs.After.{after}

-- the record after calls
unfoldable pub run_from : State → List Call → State
run_from s [] = s
run_from s (call ∷ later) = run_from (after s call) later

-- since power-on
abbrev pub run : (nexuses places : ℕ) → List Call → State
run nexuses places calls = run_from (power_on nexuses places) calls
