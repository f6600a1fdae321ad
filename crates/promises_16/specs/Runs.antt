-- Sequences of this model's calls.
use Rattle.std.specs.Prelude.{ℕ, List, [], ◌∷◌}
use Rattle.answer.specs.Answers.{number_of}
use Rattle.drive.specs.Calls.{Call}
use Rattle.device_16.specs.Model.{worded}
use Rattle.device_16.specs.declared.Record.{Record}
use Rattle.drive_16.specs.Outcomes.{outcome, powered_on}

-- the record that this model's calls leave, one after another, as they promise it
unfoldable pub leaves : Record → List Call → Record
leaves r [] = r
leaves r (call ∷ later) = leaves (outcome (worded r) call).after later

-- what they answer, one after another: number and sense, as they promise them
unfoldable pub tells : Record → List Call → List ℕ
tells r [] = []
tells r (call ∷ later) =
    let o = outcome (worded r) call in
    number_of o.answer ∷ o.sense.key ∷ o.sense.asc ∷ o.sense.ascq ∷ tells o.after later

-- since power-on
abbrev pub since_power_on : List Call → Record
since_power_on calls = leaves powered_on.after calls
