-- A nexus of the record, and the set that it uses.
use Rattle.std.specs.Prelude.{ℕ, true, length}
use Rattle.device.specs.Record.{State, nexus_at}
use Rattle.device.specs.Selecting.{selected_set}
use Rattle.marks.specs.Marks.{changes}
use Rattle.device.specs.Words.{Worded, keeping}
use Rattle.drive_16.specs.Outcomes.{outcome_with}
use Rattle.drive_16.specs.declared.Outcome.{Outcome}
use Rattle.calls.specs.Quiet.{sender_number, quietly}
use Rattle.calls.specs.declared.Asked.{Asked}
use Rattle.calls_16.specs.declared.Sight.{Sight}

abbrev pub sighted : State → ℕ → Sight
sighted s n = record { nexus = nexus_at s n; set = selected_set s n }

-- the outcome of IN, a write or a read of a well-formed record, as the code makes it
abbrev pub marked_by : Worded → Asked → Outcome
marked_by r asked =
    let n = sender_number asked in
    let found = quietly true (length r.state.nexuses) (nexus_at r.state n) (selected_set r.state n) asked in
    outcome_with (keeping r.words (changes r.state n found.change)) found.answer
