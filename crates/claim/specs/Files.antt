-- Document 02, request 11: the claim of a recorded session, where there are that many nexuses and places.
use Rattle.std.specs.Prelude.{ℕ, ◌≡◌, Bool, List, [], eqb, leb, length, Result, Ok, Err}
use Rattle.arrays.specs.Base.{when◌then◌else◌}
use Rattle.arrays.specs.Arrays.{count}
use Rattle.wire.specs.Buffers.{shown}
use Rattle.device.specs.Record.{power_on}
use Rattle.recording.specs.Verdicts.{is_taken}
use Rattle.calls.specs.Kinds.{write_kind}
use Rattle.recording.specs.Entries.{entries}
use Rattle.recording.specs.Files.{sound_file, event_bytes, calls_of}
use Rattle.recording.specs.declared.Entry.{Entry}
use Rattle.recording.specs.declared.Verdict.{Verdict}
use Rattle.recording.specs.declared.Verdict.TheVariants.{Done, RecordingWrong, RateAbove}
use Rattle.claim.specs.declared.Row.{Row}
use Rattle.claim.specs.Writes.{Wrote, writes_from}
use Rattle.claim.specs.Rows.{rows_of}
use Rattle.claim.specs.Lines.{claim_lines}

-- "a rate from 0 to 1,000,000 pence"
abbrev pub rate_most : ℕ
rate_most = 1000000

-- "A higher rate is refused with 23, after 22"
unfoldable pub claim_verdict : (rate : ℕ) (file : List ℕ) → Verdict
claim_verdict rate file = when sound_file file then when leb rate rate_most then Done else RateAbove else RecordingWrong

-- "the number of write events, taken from the file"
abbrev pub is_write_event : Entry → Bool
is_write_event e = eqb e.kind write_kind

abbrev pub write_events : (file : List ℕ) → ℕ
write_events file = count (λ i. is_write_event) (entries (event_bytes file))

module _ (nexuses places : ℕ) where
  -- the writes of a session, from power-on
  abbrev pub file_writes : (file : List ℕ) → List Wrote
  file_writes file = writes_from (power_on nexuses places) (calls_of file)

  abbrev pub file_rows : (file : List ℕ) → List Row
  file_rows file = rows_of nexuses (file_writes file)

  unfoldable pub claim_text : (rate : ℕ) (file : List ℕ) → List ℕ
  claim_text rate file = claim_lines rate (file_rows file)

  -- ".. and nothing is printed"
  unfoldable pub claim_printed : (rate : ℕ) (file : List ℕ) → List ℕ
  claim_printed rate file = when is_taken (claim_verdict rate file) then claim_text rate file else []

  -- the text's length, or else the verdict that refuses the claim
  abbrev pub claim_length : (rate : ℕ) (file : List ℕ) → Result ℕ Verdict
  claim_length rate file = when is_taken (claim_verdict rate file) then Ok (length (claim_printed rate file)) else Err (claim_verdict rate file)

  -- what a claim gives: the text's length or a refusal, and each byte of the lent buffer, which gets the text's first bytes, as many as it
  -- holds
  pub record Claims (rate : ℕ) (file buffer : List ℕ) (r : Result ℕ Verdict) (after : List ℕ) : Type 0 where
    pub claimed : r ≡ claim_length rate file
    pub told : after ≡ shown (claim_printed rate file) buffer
