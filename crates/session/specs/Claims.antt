-- What the table of replayed files claims (proofs/Worked), and when a claim holds, on a drive of 16 nexuses and 5 places.
use Rattle.std.specs.Prelude.{ℕ, Bool, true, ◌&&◌, List, [], ◌∷◌, eqb, replicate}
use Rattle.device.specs.Record.{State, power_on}
use Rattle.drive.specs.Calls.{Call}
use Rattle.drive.specs.Runs.{run}
use Rattle.drive.specs.Claims.{same_list, same_record}
use Rattle.recording.specs.Verdicts.{verdict_number}
use Rattle.recording.specs.Files.{file_verdict, calls_of}
use Rattle.session.specs.Sessions.{record_after, buffer_after}

-- a file and a lent buffer of so many bytes, A5h before; the verdict's number, the buffer after, and the calls that the record at the end
-- comes from
pub record Replay : Type 0 where
  pub file : List ℕ
  pub lent : ℕ
  pub number : ℕ
  pub told : List ℕ
  pub made : List Call

abbrev pub replays : List ℕ → ℕ → List ℕ → List Call → Replay
replays file lent told made = record { file = file; lent = lent; number = 0; told = told; made = made }

-- refused: 22, nothing is written, and the record is power-on's
abbrev pub refuses : List ℕ → Replay
refuses file = record { file = file; lent = 5; number = 22; told = replicate 5 0xA5; made = [] }

abbrev start : State
start = power_on 16 5

abbrev holds : Replay → Bool
holds r =
    let verdict = file_verdict r.file in
    eqb (verdict_number verdict) r.number && same_list (buffer_after verdict start (calls_of r.file) (replicate r.lent 0xA5)) r.told
    && same_record (record_after verdict start (calls_of r.file)) (run 16 5 r.made)

unfoldable pub replayed : List Replay → Bool
replayed [] = true
replayed (r ∷ more) = holds r && replayed more
