-- What the table of reasons claims (proofs/Worked), and when a claim holds, on a drive of 16 nexuses and 5 places.
use Rattle.std.specs.Prelude.{ℕ, Bool, true, false, ◌&&◌, List, [], ◌∷◌, ◌++◌, take, Option, Some, None}
use Rattle.answer.specs.Answers.{number_of}
use Rattle.answer.specs.declared.Answer.{Answer}
use Rattle.device.specs.Record.{power_on}
use Rattle.device.specs.Selecting.{selected, selected_set}
use Rattle.drive.specs.Calls.{Call, write}
use Rattle.drive.specs.Checks.{answer}
use Rattle.drive.specs.Runs.{run}
use Rattle.drive.specs.Claims.{same_list}
use Rattle.recording.specs.Verdicts.{verdict_number}
use Rattle.recording.specs.Files.{event_bytes, calls_of}
use Rattle.recording.specs.declared.Verdict.TheVariants.{Done}
use Rattle.session.specs.Folds.{fold_calls}
use Rattle.why.specs.declared.Deed.{Deed}
use Rattle.why.specs.declared.Deed.TheVariants.{Untouched, Established, Replaced, Evicted, Released}
use Rattle.why.specs.declared.Cause.{Cause}
use Rattle.why.specs.declared.Reason.{Reason}
use Rattle.why.specs.Touches.{standing}
use Rattle.why.specs.Causes.{cause_by}
use Rattle.why.specs.Reasons.{reason_by, why}
use Rattle.why.specs.Watching.{watched, unwatched}

-- a recording, a number of events, a nexus, the volume's support, and the reason
pub record Question : Type 0 where
  pub file : List ℕ
  pub events : ℕ
  pub nexus : ℕ
  pub supported : Bool
  pub reason : Reason

-- on a volume that supports the algorithm
abbrev pub asks : (file : List ℕ) → (events nexus : ℕ) → Reason → Question
asks file events nexus reason = record { file = file; events = events; nexus = nexus; supported = true; reason = reason }

-- on one that does not
abbrev pub asks_old : (file : List ℕ) → (events nexus : ℕ) → Reason → Question
asks_old file events nexus reason = record { file = file; events = events; nexus = nexus; supported = false; reason = reason }

-- the event at that position, of that kind and nexus, and what it did in that place
abbrev pub by_touch : Answer → (position kind nexus place : ℕ) → Deed → Reason
by_touch a position kind nexus place deed = record {
  verdict = Done;
  cause = record { answer = a; touch = record { at = Some position; place = place; deed = deed }; mode = 0 };
  kind = kind;
  nexus = nexus;
}

-- the set in that place, of that mode
abbrev pub by_use : Answer → (place mode : ℕ) → Reason
by_use a place mode = record { verdict = Done; cause = record { answer = a; touch = standing place; mode = mode }; kind = 0; nexus = 0 }

-- ---- equal, number by number

abbrev found_numbers : Option ℕ → List ℕ
found_numbers (Some i) = 1 ∷ i ∷ []
found_numbers None = 0 ∷ 0 ∷ []

abbrev deed_number : Deed → ℕ
deed_number Untouched = 0
deed_number Established = 1
deed_number Replaced = 2
deed_number Evicted = 3
deed_number Released = 4

abbrev numbers : Reason → List ℕ
numbers r =
    let touch = r.cause.touch in
    verdict_number r.verdict ∷ number_of r.cause.answer ∷ (found_numbers touch.at ++ touch.place ∷ deed_number touch.deed ∷ r.cause.mode ∷ r.kind ∷ r.nexus ∷ [])

-- the cause that the code reads, by the numbers of places
abbrev read_cause : (n : ℕ) → Bool → List Call → Cause
read_cause n supported calls =
    let s = run 16 5 calls in
    let w = fold_calls (watched n) 0 (power_on 16 5) calls unwatched in
    cause_by (answer s (write n supported)) w.first w.another w.vendor (selected s n) (selected_set s n).fields.encryption

-- the reasons are those told
unfoldable pub reasons_told : List Question → Bool
reasons_told [] = true
reasons_told (t ∷ more) = same_list (numbers (why 16 5 t.file t.events t.nexus t.supported)) (numbers t.reason) && reasons_told more

-- and so are those that the code reads, of recordings that are taken
unfoldable pub reasons_read : List Question → Bool
reasons_read [] = true
reasons_read (t ∷ more) =
    let cause = read_cause t.nexus t.supported (take t.events (calls_of t.file)) in
    same_list (numbers (reason_by (event_bytes t.file) cause)) (numbers t.reason) && reasons_read more
