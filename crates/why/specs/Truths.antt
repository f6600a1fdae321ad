-- What is claimed of a reason (proofs/Stoppers, Raisers, Truth, Parts): "The reason must be the true one".
use Rattle.std.specs.Prelude.{ℕ, suc, ◌+◌, ◌≤◌, ◌<◌, ◌≡◌, Bool, true, false, List, ◌⊎◌, length, get_or, take, Option, Some, None}
use Rattle.answer.specs.Answers.{number_of}
use Rattle.parameters.specs.Codes.{encrypt}
use Rattle.device.specs.Record.{State, nexus_at}
use Rattle.device.specs.Selecting.{selected, selected_set}
use Rattle.device.specs.declared.Marks.{Marks}
use Rattle.drive.specs.Calls.{Call, power_up, write}
use Rattle.drive.specs.Checks.{answer}
use Rattle.drive.specs.Effects.{effect}
use Rattle.drive.specs.Runs.{run}
use Rattle.recording.specs.Entries.{call}
use Rattle.recording.specs.Files.{event_bytes, page_bytes, calls_of}
use Rattle.history.specs.History.{reading, Latest, place_left, First}
use Rattle.recording.specs.declared.Verdict.TheVariants.{Done}
use Rattle.why.specs.declared.Deed.TheVariants.{Untouched}
use Rattle.why.specs.declared.Touch.{Touch}
use Rattle.why.specs.declared.Cause.{Cause}
use Rattle.why.specs.declared.Reason.{Reason}
use Rattle.why.specs.Touches.{untouched}
use Rattle.why.specs.Causes.{before}
use Rattle.why.specs.Reasons.{event_at}
use Rattle.why.specs.Deeds.{StoppedBy, deed_to, is_other, is_nobody, RaisedBy}

-- the call at a position
abbrev pub call_at : List Call → (i : ℕ) → Call
call_at calls i = get_or calls i power_up

module _ (nexuses places n : ℕ) (calls : List Call) (touch : Touch) where
  -- 11: "the lock", the nexus's latest accepted page that wasn't supplemental; the position is after it; the place is the one that it left
  -- the nexus using; the call there acted on that place and no earlier one after the lock did; and what it did there: an event released the
  -- set, or another nexus's ALL page replaced it or established the first one
  pub record Stops : Type 0 where
    pub lock : Latest n (reading nexuses places calls)
    pub position : ℕ
    pub found : touch.at ≡ Some position
    pub later : ℕ
    pub counted : position ≡ suc (length lock.before) + later
    pub within : position < length calls
    pub place : touch.place ≡ place_left lock
    pub first : First (place_left lock) lock.later later
    pub by : StoppedBy (before nexuses places calls position) n (call_at calls position)
    pub deed : touch.deed ≡ deed_to (before nexuses places calls position) n (call_at calls position)

  -- 3 and 4: before the call at the position the flag was clear, and it is pending ever since; the call acted on the place whose set the
  -- nexus used, and is one that raises this flag
  pub record Raises (flag : Marks → Bool) (who : Option ℕ → Bool) : Type 0 where
    pub position : ℕ
    pub found : touch.at ≡ Some position
    pub within : position < length calls
    pub clear : flag (nexus_at (before nexuses places calls position) n).marks ≡ false
    pub pending : (i : ℕ) → position < i → i ≤ length calls → flag (nexus_at (before nexuses places calls i) n).marks ≡ true
    pub place : touch.place ≡ selected (before nexuses places calls position) n
    pub by : RaisedBy who (before nexuses places calls position) n (effect (before nexuses places calls position) (call_at calls position))
    pub deed : touch.deed ≡ deed_to (before nexuses places calls position) n (call_at calls position)

-- 0 and 12: the set in use
pub record InUse (s : State) (n : ℕ) (cause : Cause) : Type 0 where
  pub untold : cause.touch.at ≡ None
  pub undone : cause.touch.deed ≡ Untouched
  pub place : cause.touch.place ≡ selected s n
  pub mode : cause.mode ≡ (selected_set s n).fields.encryption

-- ---- a recording's reason, after so many events

-- "the write, tried at that point, gives that answer"; what is told besides is true of the calls up to there; the kind and nexus told are
-- those that the recording has of the call at that position; and every other field is zero
pub record TrueReason (nexuses places : ℕ) (file : List ℕ) (events n : ℕ) (supported : Bool) (r : Reason) : Type 0 where
  pub taken : r.verdict ≡ Done
  pub answered : r.cause.answer ≡ answer (run nexuses places (take events (calls_of file))) (write n supported)
  pub stopped : number_of r.cause.answer ≡ 11 → Stops nexuses places n (take events (calls_of file)) r.cause.touch
  pub anothers : number_of r.cause.answer ≡ 3 → Raises nexuses places n (take events (calls_of file)) r.cause.touch (λ m. m.another) (is_other n)
  pub vendors : number_of r.cause.answer ≡ 4 → Raises nexuses places n (take events (calls_of file)) r.cause.touch (λ m. m.vendor) is_nobody
  pub used : (number_of r.cause.answer ≡ 0) ⊎ (number_of r.cause.answer ≡ 12) → InUse (run nexuses places (take events (calls_of file))) n r.cause
  pub unusable : number_of r.cause.answer ≡ 12 → (r.cause.mode ≡ encrypt) × (supported ≡ false)
  pub bare : number_of r.cause.answer ≡ 2 → r.cause.touch ≡ untouched
  pub modeless : (number_of r.cause.answer ≡ 0 → ⊥) → (number_of r.cause.answer ≡ 12 → ⊥) → r.cause.mode ≡ 0
  pub unrecorded : r.cause.touch.at ≡ None → (r.kind ≡ 0) × (r.nexus ≡ 0)
  pub recorded : (position : ℕ) → r.cause.touch.at ≡ Some position → position < events → let e = event_at (event_bytes file) (Some position) in
      (r.kind ≡ e.kind) × (r.nexus ≡ e.nexus) × (call (page_bytes file) e ≡ call_at (take events (calls_of file)) position)

-- ---- a power-on in the middle

-- a position, and a cause, counted from so many calls before
abbrev pub later_found : (k : ℕ) → Option ℕ → Option ℕ
later_found k (Some i) = Some (k + i)
later_found k None = None

abbrev pub later_touch : (k : ℕ) → Touch → Touch
later_touch k touch = record { at = later_found k touch.at; place = touch.place; deed = touch.deed }

abbrev pub later_cause : (k : ℕ) → Cause → Cause
later_cause k cause = record { answer = cause.answer; touch = later_touch k cause.touch; mode = cause.mode }
