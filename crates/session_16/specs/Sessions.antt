-- What a session gives on this model.
use Rattle.std.specs.Prelude.{ℕ, ◌≡◌, List}
use Rattle.device.specs.Record.{State, power_on}
use Rattle.drive.specs.Calls.{Call}
use Rattle.sizes_16.specs.Sizes.{nexus_count, place_count}
use Rattle.device.specs.Words.{with_words}
use Rattle.device_16.specs.Model.{record_of}
use Rattle.recording.specs.declared.Verdict.{Verdict}
use Rattle.session.specs.Sessions.{record_after, buffer_after}
use Rattle.session_16.specs.declared.Ran.{Ran}

-- "Replay starts from power-on"
abbrev pub start : State
start = power_on nexus_count place_count

-- the record at the end and the verdict, and each byte of the lent buffer
pub record Gives (verdict : Verdict) (s : State) (calls : List Call) (buffer : List ℕ) (r : Ran) (after : List ℕ) : Type 0 where
  pub ran : r ≡ record { after = record_of (with_words (record_after verdict s calls)); verdict = verdict }
  pub told : after ≡ buffer_after verdict s calls buffer
