-- What is claimed of a salvage (proofs/Due, Saved, Same, Replayed): document 02, request 12, in numbers and bytes, without a test.
use Rattle.std.specs.Prelude.{ℕ, ◌+◌, ◌*◌, ◌-◌, ◌≤◌, ◌<◌, ◌≡◌, true, false, List, [], ◌∷◌, map, length, get_or, take, drop}
use Rattle.wire.specs.Buffers.{shown}
use Rattle.text.specs.Characters.{bytes_of}
use Rattle.text.specs.Decimal.{decimal}
use Rattle.text.specs.Pieces.{lines_of, words_of}
use Rattle.device.specs.Record.{State}
use Rattle.drive.specs.Runs.{run_from}
use Rattle.recording.specs.Verdicts.{verdict_number}
use Rattle.recording.specs.declared.Entry.{Entry}
use Rattle.recording.specs.declared.Verdict.TheVariants.{Done, NotSalvageable}
use Rattle.recording.specs.Entries.{entries, sound, calls}
use Rattle.recording.specs.Files.{header, right_header, event_bytes, page_bytes, sound_file, file_verdict, calls_of, file_of}
use Rattle.session.specs.Answers.{answer_bytes}
use Rattle.session.specs.Sessions.{record_after, buffer_after}
use Rattle.salvage.specs.declared.Salvaged.{Salvaged}
use Rattle.salvage.specs.Reports.{report_text}
use Rattle.salvage.specs.Salvage.{kept_count, kept_events, salvaged, dropped_count, no_header, reported, written}

-- a file that can be salvaged: at most 65,535 bytes, a stored page offset of 8 plus a multiple of 8, and within the file. `events` is how many
-- whole events stand before it.
pub record Salvageable (file : List ℕ) : Type 0 where
  pub small : length file ≤ 65535
  pub events : ℕ
  pub counted : (header file).pages_from ≡ 8 + 8 * events
  pub within : (header file).pages_from ≤ length file

-- each verdict is due where the request says. No case is left out: a file of which no line but the last speaks can be salvaged.
pub record SalvageDue (file : List ℕ) : Type 0 where
  pub short : length file < 8 → verdict_number (reported file).verdict ≡ 21
  pub long : 65535 < length file → verdict_number (reported file).verdict ≡ 21
  pub between : ((k : ℕ) → (header file).pages_from ≡ 8 + 8 * k → ⊥) → verdict_number (reported file).verdict ≡ 21
  pub past : length file < (header file).pages_from → verdict_number (reported file).verdict ≡ 21
  pub done : Salvageable file → verdict_number (reported file).verdict ≡ 0

-- the new file of one that can be salvaged
pub record Saved (file : List ℕ) (w : Salvageable file) : Type 0 where
  -- replay takes it
  pub taken : sound_file (salvaged file) ≡ true
  -- its events are the first ones of the file, which start at byte 8; its page bytes those from the stored page offset to the file's end
  pub kept : event_bytes (salvaged file) ≡ take (8 * kept_count file) (drop 8 file)
  pub paged : page_bytes (salvaged file) ≡ drop (header file).pages_from file
  -- they end by the stored page offset, and no longer run of events, with these page bytes, is a file that replay takes
  pub ends : kept_count file ≤ w.events
  pub longest : (n : ℕ) → n ≤ w.events → sound_file (file_of (take (8 * n) (drop 8 file)) (drop (header file).pages_from file)) ≡ true → n ≤ kept_count file
  -- its header is right, and each number of it fits 16 bits; it is no longer than the file
  pub right : header (salvaged file) ≡ right_header (kept_count file) (length file - (header file).pages_from)
  pub fits : (header (salvaged file)).total < 65536
  pub sized : (header (salvaged file)).total ≡ length (salvaged file)
  pub shrinks : length (salvaged file) ≤ length file
  -- the others are counted as dropped, and the first of them is wrong
  pub others : kept_count file + dropped_count file ≡ w.events
  pub wrong : (none : Entry) → 0 < dropped_count file → sound (length (page_bytes file)) (get_or (entries (event_bytes file)) (kept_count file) none) ≡ false
  -- both headers and that count are reported, and the new file is written, as much of it as a buffer holds
  pub reports : reported file ≡ record { verdict = Done; old = header file; new = header (salvaged file); dropped = dropped_count file }
  pub writes : (buffer : List ℕ) → written file buffer ≡ shown (salvaged file) buffer

-- one that can't be salvaged: 21, nothing is reported, and no byte of any buffer is written
pub record NotSaved (file : List ℕ) : Type 0 where
  pub reports : reported file ≡ record { verdict = NotSalvageable; old = no_header; new = no_header; dropped = 0 }
  pub writes : (buffer : List ℕ) → written file buffer ≡ buffer

-- the lines of a report, cut at their ends and their spaces: each header number's name, its old and its new value; then how many were dropped;
-- and nothing after the last end
pub record ReportReads (s : Salvaged) : Type 0 where
  pub words : map words_of (lines_of (report_text s))
      ≡ (bytes_of "events" ∷ decimal s.old.event_count ∷ bytes_of "->" ∷ decimal s.new.event_count ∷ [])
      ∷ (bytes_of "first" ∷ bytes_of "event" ∷ decimal s.old.first_event ∷ bytes_of "->" ∷ decimal s.new.first_event ∷ [])
      ∷ (bytes_of "page" ∷ bytes_of "bytes" ∷ decimal s.old.pages_from ∷ bytes_of "->" ∷ decimal s.new.pages_from ∷ [])
      ∷ (bytes_of "total" ∷ decimal s.old.total ∷ bytes_of "->" ∷ decimal s.new.total ∷ [])
      ∷ (bytes_of "dropped" ∷ decimal s.dropped ∷ [])
      ∷ ([] ∷ []) ∷ []

-- a file that comes out the same, with nothing reported changed
pub record Unchanged (file : List ℕ) : Type 0 where
  pub same : salvaged file ≡ file
  pub reports : reported file ≡ record { verdict = Done; old = header file; new = header file; dropped = 0 }

-- the new file replayed: it is taken, its answers are those that the kept events give, and so is the record at the end
pub record KeptReplayed (s : State) (file buffer : List ℕ) : Type 0 where
  pub taken : file_verdict (salvaged file) ≡ Done
  pub told : buffer_after (file_verdict (salvaged file)) s (calls_of (salvaged file)) buffer ≡ shown (answer_bytes s (calls (kept_events file) (page_bytes file))) buffer
  pub left : record_after (file_verdict (salvaged file)) s (calls_of (salvaged file)) ≡ run_from s (calls (kept_events file) (page_bytes file))
