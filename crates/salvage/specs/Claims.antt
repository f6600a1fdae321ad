-- What the table of salvaged files claims (proofs/Worked), and when a claim holds.
use Rattle.std.specs.Prelude.{ℕ, ◌+◌, Bool, true, ◌&&◌, List, [], ◌∷◌, ◌++◌, eqb, length, take, replicate}
use Prim.Native.String.{String}
use Rattle.arrays.specs.Base.{when◌then◌else◌}
use Rattle.text.specs.Characters.{bytes_of}
use Rattle.drive.specs.Claims.{same_list}
use Rattle.recording.specs.Verdicts.{verdict_number, is_taken}
use Rattle.salvage.specs.Salvage.{reported, written}
use Rattle.salvage.specs.Reports.{report_text}

-- a file and a lent buffer of so many bytes, A5h before; the verdict's number, the buffer after, and the report's lines
pub record Salvaging : Type 0 where
  pub file : List ℕ
  pub lent : ℕ
  pub number : ℕ
  pub buffer : List ℕ
  pub report : String

abbrev lent_bytes : ℕ → List ℕ
lent_bytes lent = replicate lent 0xA5

-- salvaged: the new file, two bytes beyond it as they were, and the report
abbrev pub salvages : (file new : List ℕ) → String → Salvaging
salvages file new report = record { file = file; lent = length new + 2; number = 0; buffer = new ++ lent_bytes 2; report = report }

-- the same with a buffer too short for the new file
abbrev pub shows : (lent : ℕ) (file new : List ℕ) → String → Salvaging
shows lent file new report = record { file = file; lent = lent; number = 0; buffer = take lent new; report = report }

-- refused: 21, and nothing is written or reported
abbrev pub refuses : (file : List ℕ) → Salvaging
refuses file = record { file = file; lent = 9; number = 21; buffer = lent_bytes 9; report = "" }

abbrev holds : Salvaging → Bool
holds t =
    let r = reported t.file in
    eqb (verdict_number r.verdict) t.number && same_list (written t.file (lent_bytes t.lent)) t.buffer
    && same_list (when is_taken r.verdict then report_text r else []) (bytes_of t.report)

unfoldable pub tried_so : List Salvaging → Bool
tried_so [] = true
tried_so (t ∷ more) = holds t && tried_so more
