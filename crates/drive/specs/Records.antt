-- Document 02, request 7: calls of a record with words.
use Rattle.std.specs.Prelude.{◌||◌, List, [], ◌∷◌, Some}
use Rattle.arrays.specs.Base.{when◌then◌else◌}
use Rattle.arrays.specs.Arrays.{each}
use Rattle.answer.specs.declared.Answer.{Answer}
use Rattle.device.specs.Words.{Worded, with_words, keeping, formed}
use Rattle.marks.specs.Parts.{told_by}
use Rattle.places.specs.Actions.{spared, released_by}
use Rattle.drive.specs.Calls.{Call, is_power_up}
use Rattle.drive.specs.Checks.{answer_where}
use Rattle.drive.specs.Effects.{Effect, nothing, marks, takes, clears, releasing, restarts}
use Rattle.drive.specs.After.{changed_by, actor_of, after}

-- check 1 asks whether the record is well formed, its words included
abbrev pub answer_of : Worded → Call → Answer
answer_of r call = answer_where (formed r) r.state call

-- "After every call each word equals what the scopes say"; a record that is not well formed stays as it is
abbrev pub after_of : Worded → Call → Worded
after_of r call = when formed r || is_power_up call then with_words (after r.state call) else r

-- after several
unfoldable pub after_all : Worded → List Call → Worded
after_all r [] = r
after_all r (call ∷ later) = after_all (after_of r call) later

-- what the code makes of an effect, whatever words the record holds: who is told is told by them, and an event that releases nothing leaves
-- the record (proofs/Records: of a well-formed record this is what document 01 says)
unfoldable pub held_after : Worded → Effect → Worded
held_after r nothing = r
held_after r (marks n change) = keeping r.words (changed_by r.state (marks n change))
held_after r (takes n page) = told_by (Some n) r (changed_by r.state (takes n page))
held_after r clears = keeping r.words (changed_by r.state clears)
held_after r (releasing event) =
    when each (spared (released_by event)) r.state.sets then r
    else told_by (actor_of event) r (changed_by r.state (releasing event))
held_after r restarts = with_words (changed_by r.state restarts)
