-- What is claimed of every call (proofs/Refusals): what a refusal leaves of the record, and what an answer carries.
use Rattle.std.specs.Prelude.{ℕ, ◌<◌, ◌≤◌, ◌≡◌, Bool, true, false, List, length, get_or, Option, Some, None}
use Rattle.answer.specs.Answers.{row, row_of, number_of, faulty_byte_of, is_done}
use Rattle.answer.specs.Printed.{printed}
use Rattle.answer.specs.declared.Row.{Row}
use Rattle.answer.specs.declared.Change.{Change}
use Rattle.answer.specs.declared.Change.TheVariants.{Unchanged}
use Rattle.device.specs.Record.{State, nexus_at}
use Rattle.device.specs.declared.Nexus.{Nexus}
use Rattle.marks.specs.Marks.{changed, changes, is_actor}
use Rattle.drive.specs.declared.Command.{Command}
use Rattle.drive.specs.declared.Decision.TheVariants.{Refused}
use Rattle.drive.specs.declared.Block.{Block}
use Rattle.drive.specs.declared.ReadDecision.TheVariants.{Withheld}
use Rattle.drive.specs.Calls.{Call, security_in, write, read}
use Rattle.drive.specs.Checks.{answer}
use Rattle.drive.specs.Outcomes.{in_length, in_buffer, decision, decided_place, decided_index, read_decision}

-- the record with a change in its sender's marks; where there is no sender, the record
abbrev pub changes_by : Option ℕ → Change → State → State
changes_by None change s = s
changes_by (Some n) change s = changes s n change

-- a nexus with that change in its marks, and nothing else
pub record Remarked (change : Change) (before after : Nexus) : Type 0 where
  pub scope : after.scope ≡ before.scope
  pub lock : after.lock ≡ before.lock
  pub saved : after.saved ≡ before.saved
  pub last_local : after.last_local ≡ before.last_local
  pub marks : after.marks ≡ changed change before.marks

-- a record with that change in its sender's marks, and nothing else, part by part
pub record OnlyMarks (sender : Option ℕ) (change : Change) (before after : State) : Type 0 where
  pub counter : after.counter ≡ before.counter
  pub sets : after.sets ≡ before.sets
  pub count : length after.nexuses ≡ length before.nexuses
  pub others : (n : ℕ) → is_actor sender n ≡ false → nexus_at after n ≡ nexus_at before n
  pub own : (n : ℕ) → is_actor sender n ≡ true → n < length before.nexuses → Remarked change (nexus_at before n) (nexus_at after n)
  pub nobody : sender ≡ None → after ≡ before
  pub above : (n : ℕ) → is_actor sender n ≡ true → length before.nexuses ≤ n → after ≡ before

-- the row of a number in the table, in which answer 8 carries that byte
abbrev pub row_at : (byte number : ℕ) → Row
row_at byte number = get_or (printed byte) number (row 0 0 0 0 Unchanged)

-- what an answer carries, of a record: its number is that of one of those 18 rows, whose sense and change are its own;
-- "A refused answer carries its number and sense only"
pub record Carries (s : State) : Type 0 where
  pub number : (call : Call) → number_of (answer s call) ≤ 17
  pub row : (call : Call) → row_of (answer s call) ≡ row_at (faulty_byte_of (answer s call)) (number_of (answer s call))
  pub inward :
      (command : Command) (buffer : List ℕ) → let a = answer s (security_in command) in
      is_done a ≡ false → (in_length s command a ≡ 0) × (in_buffer s command a buffer ≡ buffer)
  pub writing :
      (n : ℕ) (supported : Bool) → let a = answer s (write n supported) in
      is_done a ≡ false → (decision s n a ≡ Refused) × ((decided_place s n a ≡ 0) × (decided_index s n a ≡ 0))
  pub reading :
      (n : ℕ) (block : Block) → let a = answer s (read n block) in
      is_done a ≡ false → (read_decision s n block a ≡ Withheld) × (decided_place s n a ≡ 0)
