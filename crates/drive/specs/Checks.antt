-- Document 01, "Answer numbers": "Checks run in number order, and a check applies only to calls that have its argument."
use Rattle.std.specs.Prelude.{ℕ, Bool, not, ◌&&◌, ◌||◌, List, [], ◌∷◌, ◌++◌, leb, eqb, length}
use Rattle.arrays.specs.Base.{when◌then◌else◌}
use Rattle.answer.specs.Answers.{is_done}
use Rattle.answer.specs.declared.Answer.{Answer}
use Rattle.answer.specs.declared.Answer.TheVariants.{Done, NotWellFormed, NexusAbove, ChangedByAnotherNexus, ChangedByVendorEvent, ProtocolNotSupported, PageNotSupported, NoPlaceForLocal, KeyInstanceChanged, ParametersNotUsable, PlaceAbove}
use Rattle.parameters.specs.Codes.{encrypts}
use Rattle.page.specs.Check.{Checked, checked}
use Rattle.page.specs.declared.Page.{Page}
use Rattle.device.specs.Record.{State, nexus_at}
use Rattle.device.specs.Selecting.{selected_set}
use Rattle.device.specs.WellFormed.{well_formed}
use Rattle.device.specs.declared.Marks.{Marks}
use Rattle.device.specs.declared.Set.{Set}
use Rattle.device.specs.declared.Nexus.{Nexus}
use Rattle.status.specs.Pages.{is_in_page, is_out_page}
use Rattle.drive.specs.declared.Command.{Command}
use Rattle.drive.specs.Calls.{Call, power_up, security_in, security_out, write, read, unit_reset, happens, is_power_up}
use Rattle.drive.specs.Restoring.{ruled_answer, restored}
use Rattle.places.specs.Actions.{no_place}
use Rattle.places.specs.declared.Event.{Event}
use Rattle.places.specs.declared.Event.TheVariants.{Demount, NexusLoss, DeviceLoss, Preempt, Microcode, VendorRelease}

-- the answer of a check: its number where it finds a fault, else 0
abbrev pub answer_if : Bool → Answer → Answer
answer_if fault answer = when fault then answer else Done

-- the first that isn't 0
abbrev pub first_of : List Answer → Answer
first_of [] = Done
first_of (a ∷ more) = when is_done a then first_of more else a

abbrev pub check1 : State → Answer
check1 s = answer_if (not (well_formed s)) NotWellFormed

-- where there are that many nexuses
abbrev pub check2 : ℕ → ℕ → Answer
check2 nexuses n = answer_if (leb nexuses n) NexusAbove

abbrev pub check3 : Marks → Answer
check3 marks = answer_if marks.another ChangedByAnotherNexus

abbrev pub check4 : Marks → Answer
check4 marks = answer_if marks.vendor ChangedByVendorEvent

abbrev pub check5 : ℕ → Answer
check5 protocol = answer_if (not (eqb protocol 0x20)) ProtocolNotSupported

abbrev pub check6 : Bool → Answer
check6 supported = answer_if (not supported) PageNotSupported

-- checks 7, 8 and 9, with the nexus's scope, its set's decryption mode and its count of supplemental keys
abbrev pub page_checked : State → ℕ → List ℕ → Checked
page_checked s n page = checked page (nexus_at s n).scope (selected_set s n).fields.decryption (selected_set s n).supplemental.count

-- "else answer 10"
abbrev pub check10 : State → ℕ → Page → Answer
check10 s n page = answer_if (no_place s n page) NoPlaceForLocal

-- "Answer 11 if lock is 1 and the saved number differs from the selected set's"
abbrev pub instance_changed : Nexus → Set → Bool
instance_changed nexus set = nexus.lock && not (eqb nexus.saved set.number)

abbrev pub check11 : Nexus → Set → Answer
check11 nexus set = answer_if (instance_changed nexus set) KeyInstanceChanged

-- "Answer 12 if ENCRYPT and not supported"
abbrev pub not_usable : Set → Bool → Bool
not_usable set supported = encrypts set.fields.encryption && not supported

abbrev pub check12 : Set → Bool → Answer
check12 set supported = answer_if (not_usable set supported) ParametersNotUsable

-- where there are that many places
abbrev pub check13 : ℕ → ℕ → Answer
check13 places place = answer_if (leb places place) PlaceAbove

-- the check of an event's argument, where there are that many nexuses and places
abbrev pub event_check : ℕ → ℕ → Event → Answer
event_check nexuses places Demount = Done
event_check nexuses places (NexusLoss n) = check2 nexuses n
event_check nexuses places DeviceLoss = Done
event_check nexuses places (Preempt n) = check2 nexuses n
event_check nexuses places Microcode = Done
event_check nexuses places (VendorRelease place) = check13 places place

-- checks 2 to 4, of nexus n with these marks, where there are that many: "Numbers 3 and 4 apply to security commands and writes", and to
-- reads (document 02, request 1: "after 3 and 4")
abbrev pub heard : ℕ → ℕ → Marks → List Answer
heard nexuses n marks = check2 nexuses n ∷ check3 marks ∷ check4 marks ∷ []

-- checks 2 to 6, of a security command whose page is supported or not
abbrev pub commanded : ℕ → Command → Marks → Bool → List Answer
commanded nexuses command marks supported = heard nexuses command.nexus marks ++ check5 command.protocol ∷ check6 supported ∷ []

-- checks 11 and 12, of a nexus and the set that it uses
abbrev pub permitted : Nexus → Set → Bool → List Answer
permitted nexus set supported = check11 nexus set ∷ check12 set supported ∷ []

-- the same of a nexus of the record
abbrev pub heard_of : State → ℕ → List Answer
heard_of s n = heard (length s.nexuses) n (nexus_at s n).marks

abbrev pub commanded_of : State → Command → Bool → List Answer
commanded_of s command supported = commanded (length s.nexuses) command (nexus_at s command.nexus).marks supported

-- the checks after the first, in number order; "The lock doesn't stop reads."
unfoldable pub checks : State → Call → List Answer
checks s power_up = []
checks s (security_in command) = commanded_of s command (is_in_page command.code)
checks s (security_out command page) =
    let read = page_checked s command.nexus page in
    commanded_of s command (is_out_page command.code) ++ read.answer ∷ check10 s command.nexus read.page ∷ []
checks s (write n supported) = heard_of s n ++ permitted (nexus_at s n) (selected_set s n) supported
checks s (read n block) = heard_of s n ++ ruled_answer (restored (selected_set s n) block) ∷ []
checks s unit_reset = []
checks s (happens event) = event_check (length s.nexuses) (length s.sets) event ∷ []

-- check 1 is asked of every call that takes a record: power-on takes none
abbrev pub record_check : State → Call → Answer
record_check s power_up = Done
record_check s (security_in command) = check1 s
record_check s (security_out command page) = check1 s
record_check s (write n supported) = check1 s
record_check s (read n block) = check1 s
record_check s unit_reset = check1 s
record_check s (happens event) = check1 s

unfoldable pub answer : State → Call → Answer
answer s call = first_of (record_check s call ∷ checks s call)

-- the same list of checks without the first: the answer to a call whose record is known to be well formed
unfoldable pub known_answer : State → Call → Answer
known_answer s call = first_of (checks s call)

-- where check 1 was made before: the answer to a call by whether the record is well formed
unfoldable pub answer_where : (formed : Bool) → State → Call → Answer
answer_where formed s call = when formed || is_power_up call then known_answer s call else NotWellFormed
