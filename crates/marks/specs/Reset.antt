-- Document 01: "Logical unit reset clears registered marks and pending flags only".
use Rattle.std.specs.Prelude.{map}
use Rattle.device.specs.Record.{State, no_marks}
use Rattle.device.specs.Updates.{with_marks, with_nexuses}
use Rattle.device.specs.declared.Nexus.{Nexus}

-- a nexus after the reset
abbrev pub unmarked : Nexus → Nexus
unmarked nexus = with_marks no_marks nexus

unfoldable pub cleared : State → State
cleared s = with_nexuses (map unmarked s.nexuses) s
