-- Document 02, request 3: "Header, four big-endian 16-bit numbers: event count, offset of the first event (8), offset of the page bytes,
-- total length."
use Rattle.std.specs.Prelude.{ℕ, ◌+◌, ◌*◌, ◌-◌, ◌/◌, Bool, ◌&&◌, List, ◌++◌, leb, eqb, length, take, drop}
use Rattle.arrays.specs.Base.{when◌then◌else◌}
use Rattle.wire.specs.Numbers.{word_at, two}
use Rattle.drive.specs.Calls.{Call}
use Rattle.recording.specs.declared.Header.{Header}
use Rattle.recording.specs.declared.Verdict.{Verdict}
use Rattle.recording.specs.declared.Verdict.TheVariants.{Done, RecordingWrong}
use Rattle.recording.specs.Entries.{entry_size, entries, all_sound, calls}

abbrev pub header_size : ℕ
header_size = 8

abbrev pub header : List ℕ → Header
header file = record { event_count = word_at file 0; first_event = word_at file 2; pages_from = word_at file 4; total = word_at file 6 }

-- the header of so many events and page bytes: "The page bytes start just after the last event"
abbrev pub right_header : (event_count page_count : ℕ) → Header
right_header event_count page_count = record {
  event_count = event_count;
  first_event = header_size;
  pages_from = header_size + entry_size * event_count;
  total = header_size + entry_size * event_count + page_count;
}

-- not "a file under 8 bytes", nor "a total differing from its length", nor a wrong header value
unfoldable pub headed : List ℕ → Bool
headed file =
    let h = header file in
    leb header_size (length file) && eqb h.total (length file) && eqb h.first_event header_size
    && eqb h.pages_from (header_size + entry_size * h.event_count) && leb h.pages_from (length file)

-- the bytes of its events, and its page bytes
abbrev pub event_bytes : List ℕ → List ℕ
event_bytes file = take ((header file).pages_from - header_size) (drop header_size file)

abbrev pub page_bytes : List ℕ → List ℕ
page_bytes file = drop (header file).pages_from file

-- a file that replay takes
unfoldable pub sound_file : List ℕ → Bool
sound_file file = headed file && all_sound (length (page_bytes file)) (entries (event_bytes file))

-- ".. refuses the file whole with 22"
abbrev pub file_verdict : List ℕ → Verdict
file_verdict file = when sound_file file then Done else RecordingWrong

-- its calls
abbrev pub calls_of : List ℕ → List Call
calls_of file = calls (event_bytes file) (page_bytes file)

-- ---- a file made of events and page bytes

abbrev pub header_bytes : Header → List ℕ
header_bytes h = two h.event_count ++ two h.first_event ++ two h.pages_from ++ two h.total

abbrev pub file_of : (events pages : List ℕ) → List ℕ
file_of events pages = header_bytes (right_header (length events / entry_size) (length pages)) ++ (events ++ pages)

-- a file cut after k events, its header put right
abbrev pub cut_after : (k : ℕ) → List ℕ → List ℕ
cut_after k file = file_of (take (entry_size * k) (event_bytes file)) (page_bytes file)
