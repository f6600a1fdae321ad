-- Document 02, request 8: the reason from a recorded session, where there are that many nexuses and places.
use Rattle.std.specs.Prelude.{ℕ, ◌*◌, Bool, List, [], leb, take, drop, Option, Some, None}
use Rattle.arrays.specs.Base.{when◌then◌else◌}
use Rattle.answer.specs.declared.Answer.TheVariants as answers
use Rattle.recording.specs.Entries.{entry_size, entry_of}
use Rattle.recording.specs.Files.{header, event_bytes, sound_file, calls_of}
use Rattle.recording.specs.Verdicts.{is_taken}
use Rattle.recording.specs.declared.Entry.{Entry}
use Rattle.recording.specs.declared.Verdict.{Verdict}
use Rattle.recording.specs.declared.Verdict.TheVariants.{Done, EventsAbove, RecordingWrong}
use Rattle.why.specs.declared.Cause.{Cause}
use Rattle.why.specs.declared.Reason.{Reason}
use Rattle.why.specs.Touches.{untouched}
use Rattle.why.specs.Causes.{cause_of}

-- "a number above the event count gets 19, after 22 and before 2"
unfoldable pub why_verdict : (file : List ℕ) → (events : ℕ) → Verdict
why_verdict file events = when sound_file file then when leb events (header file).event_count then Done else EventsAbove else RecordingWrong

-- the event at a position, as it is recorded; zeros where there is none
abbrev pub event_at : (events : List ℕ) → Option ℕ → Entry
event_at events (Some i) = entry_of (drop (entry_size * i) events)
event_at events None = entry_of []

-- no reason is given
abbrev pub no_cause : Cause
no_cause = record { answer = answers.Done; touch = untouched; mode = 0 }

-- a cause, and the recorded kind and nexus of its call
abbrev pub reason_by : (events : List ℕ) → Cause → Reason
reason_by events cause = let e = event_at events cause.touch.at in record { verdict = Done; cause = cause; kind = e.kind; nexus = e.nexus }

-- a recording, or a number of events, that is refused has none
abbrev pub no_reason : Verdict → Reason
no_reason verdict = record { verdict = verdict; cause = no_cause; kind = 0; nexus = 0 }

-- "It reads request 3's session up to a given number of events"
unfoldable pub why : (nexuses places : ℕ) (file : List ℕ) (events n : ℕ) (supported : Bool) → Reason
why nexuses places file events n supported =
    let verdict = why_verdict file events in
    when is_taken verdict then reason_by (event_bytes file) (cause_of nexuses places n supported (take events (calls_of file)))
    else no_reason verdict
