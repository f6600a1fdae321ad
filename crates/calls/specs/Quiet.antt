-- IN, writes and reads change at most the marks of their sender: what they change is found by the sender and its set alone, and one that
-- changes nothing needs no record made anew.
use Rattle.std.specs.Prelude.{ℕ, Bool, false, [], ◌∷◌, ◌++◌}
use Rattle.arrays.specs.Base.{when◌then◌else◌}
use Rattle.answer.specs.Answers.{change_of, is_done}
use Rattle.answer.specs.declared.Answer.{Answer}
use Rattle.answer.specs.declared.Answer.TheVariants.{Done, NotWellFormed}
use Rattle.answer.specs.declared.Change.{Change}
use Rattle.answer.specs.declared.Change.TheVariants.{Unchanged, Registered}
use Rattle.device.specs.declared.Marks.{Marks}
use Rattle.device.specs.declared.Nexus.{Nexus}
use Rattle.device.specs.declared.Set.{Set}
use Rattle.marks.specs.Marks.{keeps_marks}
use Rattle.status.specs.Pages.{is_in_page}
use Rattle.drive.specs.Restoring.{ruled_answer, restored}
use Rattle.drive.specs.Checks.{first_of, heard, commanded, permitted}
use Rattle.calls.specs.declared.Asked.{Asked}
use Rattle.calls.specs.declared.Asked.TheVariants.{PowerOn, In, Out, Write, Read, UnitReset, Happen}
use Rattle.calls.specs.declared.Quiet.{Quiet}

-- the sender of IN, a write or a read
abbrev pub sender_number : Asked → ℕ
sender_number PowerOn = 0
sender_number (In command) = command.nexus
sender_number (Out command) = 0
sender_number (Write n supported) = n
sender_number (Read n block) = n
sender_number UnitReset = 0
sender_number (Happen event) = 0

-- what a call with that answer changes of its sender's marks, where carried out it makes this change
abbrev pub change_by : (doing : Change) → Answer → Change
change_by doing a = when is_done a then doing else change_of a

abbrev quiet_with : Marks → (doing : Change) → Answer → Quiet
quiet_with marks doing a = record { quiet = keeps_marks marks (change_by doing a); answer = a; change = change_by doing a }

-- a call with that answer to its checks after the first, where it is known whether the record is well formed
abbrev pub quiet_by : (formed : Bool) → Marks → (doing : Change) → Answer → Quiet
quiet_by formed marks doing a = quiet_with marks doing (when formed then a else NotWellFormed)

-- any other call
abbrev pub not_quiet : Quiet
not_quiet = record { quiet = false; answer = Done; change = Unchanged }

-- whether a call leaves the record as it is, its answer, and what it changes of its sender's marks: by the sender, the set that it uses,
-- and how many nexuses there are
unfoldable pub quietly : (formed : Bool) (nexuses : ℕ) → Nexus → Set → Asked → Quiet
quietly formed nexuses nexus set PowerOn = not_quiet
quietly formed nexuses nexus set (In command) =
    quiet_by formed nexus.marks Registered (first_of (commanded nexuses command nexus.marks (is_in_page command.code)))
quietly formed nexuses nexus set (Out command) = not_quiet
quietly formed nexuses nexus set (Write n supported) =
    quiet_by formed nexus.marks Unchanged (first_of (heard nexuses n nexus.marks ++ permitted nexus set supported))
quietly formed nexuses nexus set (Read n block) =
    quiet_by formed nexus.marks Unchanged (first_of (heard nexuses n nexus.marks ++ ruled_answer (restored set block) ∷ []))
quietly formed nexuses nexus set UnitReset = not_quiet
quietly formed nexuses nexus set (Happen event) = not_quiet
