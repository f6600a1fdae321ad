-- Document 02, request 12: "Salvage of a damaged recording. Power loss leaves recordings with wrong headers or cut tails."
use Rattle.std.specs.Prelude.{ℕ, ◌*◌, ◌-◌, ◌/◌, ◌%◌, ◌≡◌, Bool, ◌&&◌, List, leb, eqb, length, take}
use Rattle.arrays.specs.Base.{when◌then◌else◌}
use Rattle.wire.specs.Buffers.{shown}
use Rattle.recording.specs.Entries.{entry_size, entries, sound_run}
use Rattle.recording.specs.Files.{header_size, header, event_bytes, page_bytes, file_of}
use Rattle.recording.specs.declared.Header.{Header}
use Rattle.recording.specs.declared.Verdict.TheVariants.{Done, NotSalvageable}
use Rattle.salvage.specs.declared.Salvaged.{Salvaged}

-- "Events start at byte 8. Keep the longest run of them, from the first and ending by the stored page offset, that replay would take": how
-- many these are
unfoldable pub kept_count : (file : List ℕ) → ℕ
kept_count file = sound_run (length (page_bytes file)) (entries (event_bytes file))

abbrev pub kept_events : (file : List ℕ) → List ℕ
kept_events file = take (entry_size * kept_count file) (event_bytes file)

-- "and write a new file with counts and offsets put right. The page bytes are those from the stored page offset to the file's end."
abbrev pub salvaged : (file : List ℕ) → List ℕ
salvaged file = file_of (kept_events file) (page_bytes file)

-- "how many whole events before the stored page offset were dropped"
abbrev pub dropped_count : (file : List ℕ) → ℕ
dropped_count file = length (event_bytes file) / entry_size - kept_count file

-- the longest file
abbrev pub file_most : ℕ
file_most = 65535

-- not "shorter than 8 bytes or longer than 65,535", nor is it so that "the stored page offset isn't 8 plus a multiple of 8, or lies past the
-- file"
unfoldable pub is_salvageable : (file : List ℕ) → Bool
is_salvageable file =
    let from = (header file).pages_from in
    leb header_size (length file) && leb (length file) file_most && leb header_size from && eqb ((from - header_size) % entry_size) 0
    && leb from (length file)

-- where there is nothing to report
abbrev pub no_header : Header
no_header = record { event_count = 0; first_event = 0; pages_from = 0; total = 0 }

-- "Report the old and new values of each header number and how many whole events .. were dropped"; else "say 21"
abbrev pub reported : (file : List ℕ) → Salvaged
reported file =
    when is_salvageable file
    then record { verdict = Done; old = header file; new = header (salvaged file); dropped = dropped_count file }
    else record { verdict = NotSalvageable; old = no_header; new = no_header; dropped = 0 }

-- the lent buffer gets the new file's first bytes, as many as it holds; of 21 "write nothing"
abbrev pub written : (file buffer : List ℕ) → List ℕ
written file buffer = when is_salvageable file then shown (salvaged file) buffer else buffer

-- what a salvage gives: the report, and each byte of the lent buffer
pub record Saves (file buffer : List ℕ) (r : Salvaged) (after : List ℕ) : Type 0 where
  pub reports : r ≡ reported file
  pub writes : after ≡ written file buffer
