-- Document 02, request 5: "Several events in one call. The bridge board batches."
use Rattle.std.specs.Prelude.{ℕ, ◌*◌, ◌/◌, ◌%◌, Bool, ◌&&◌, ◌||◌, List, ltb, eqb, length}
use Rattle.arrays.specs.Base.{when◌then◌else◌}
use Rattle.device.specs.Words.{Worded}
use Rattle.recording.specs.Entries.{entry_size, entries, all_sound, calls}
use Rattle.recording.specs.declared.Verdict.{Verdict}
use Rattle.recording.specs.declared.Verdict.TheVariants.{Done, BatchNotTaken, RecordingWrong}
use Rattle.session.specs.Answers.{answer_size}
use Rattle.session.specs.Records.{record_after_of, buffer_after_of}

-- "One call takes up to 64 events in request 3's form"
abbrev pub events_most : ℕ
events_most = 64

-- how many there are: "a part event left over" is none
abbrev pub event_count : (events : List ℕ) → ℕ
event_count events = length events / entry_size

-- "A buffer too short for all answers, or more than 64 events, refuses with 18"
abbrev pub is_too_much : (events : List ℕ) (room : ℕ) → Bool
is_too_much events room = ltb events_most (event_count events) || ltb room (answer_size * event_count events)

-- not "a wrong field or page, or a part event left over", which refuse "with 22"
abbrev pub sound_batch : (events pages : List ℕ) → Bool
sound_batch events pages = eqb (length events % entry_size) 0 && all_sound (length pages) (entries events)

-- "18 comes first"
abbrev pub batch_verdict : (events pages : List ℕ) (room : ℕ) → Verdict
batch_verdict events pages room =
    when is_too_much events room then BatchNotTaken
    else when sound_batch events pages then Done
    else RecordingWrong

-- the record after it, from "any starting record": a refused batch is refused "before any event runs"
abbrev pub batch_record : Worded → (events pages buffer : List ℕ) → Worded
batch_record r events pages buffer = record_after_of (batch_verdict events pages (length buffer)) r (calls events pages)

-- the "lent buffer for 4 bytes of answer each, bytes beyond kept"; of a refused batch "the buffer is untouched"
abbrev pub batch_buffer : Worded → (events pages buffer : List ℕ) → List ℕ
batch_buffer r events pages buffer = buffer_after_of (batch_verdict events pages (length buffer)) r (calls events pages) buffer
