-- How the code makes a claim: no rule, but what its promises say.
use Rattle.std.specs.Prelude.{ℕ, List, [], ◌∷◌, get_or, set}
use Rattle.arrays.specs.Base.{when◌then◌else◌}
use Rattle.answer.specs.Answers.{is_done}
use Rattle.answer.specs.declared.Answer.{Answer}
use Rattle.drive.specs.Outcomes.{decided}
use Rattle.drive.specs.declared.Decision.{Decision}
use Rattle.drive.specs.declared.Decision.TheVariants.{Refused}
use Rattle.calls.specs.declared.Asked.{Asked}
use Rattle.calls.specs.declared.Asked.TheVariants.{PowerOn, In, Out, Write, Read, UnitReset, Happen}
use Rattle.claim.specs.declared.Row.{Row}
use Rattle.claim.specs.Writes.{Wrote}
use Rattle.claim.specs.Rows.{row_of_nexus, no_writes, plus, one}

-- what became of a write with that answer, under a set of that mode
abbrev pub became_by : Answer → (mode : ℕ) → Decision
became_by a mode = when is_done a then decided mode else Refused

-- it is added to its own row, as the code does it
abbrev pub noted : (nexuses : ℕ) → Wrote → List Row → List Row
noted nexuses w rows = let k = row_of_nexus nexuses w.nexus in set rows k (plus (get_or rows k no_writes) (one w.decision))

-- what is asked is one write or none
abbrev pub wrote_as : Asked → Decision → List Wrote
wrote_as PowerOn decision = []
wrote_as (In command) decision = []
wrote_as (Out command) decision = []
wrote_as (Write n supported) decision = record { nexus = n; decision = decision } ∷ []
wrote_as (Read n block) decision = []
wrote_as UnitReset decision = []
wrote_as (Happen event) decision = []

-- writes are added one after another
unfoldable pub noted_each : (nexuses : ℕ) → List Wrote → List Row → List Row
noted_each nexuses [] rows = rows
noted_each nexuses (w ∷ more) rows = noted_each nexuses more (noted nexuses w rows)

-- the most bytes of a line: five numbers of 20 digits and what stands between them
abbrev pub line_most : ℕ
line_most = 128
