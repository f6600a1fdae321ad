-- Document 02, requests 3 and 5: what a session gives, by its verdict: the record at the end, and each byte of the lent buffer.
use Rattle.std.specs.Prelude.{ℕ, List}
use Rattle.arrays.specs.Base.{when◌then◌else◌}
use Rattle.wire.specs.Buffers.{shown}
use Rattle.device.specs.Record.{State}
use Rattle.drive.specs.Calls.{Call}
use Rattle.drive.specs.Runs.{run_from}
use Rattle.recording.specs.Verdicts.{is_taken}
use Rattle.recording.specs.declared.Verdict.{Verdict}
use Rattle.session.specs.Answers.{answer_bytes}

-- "the record at the end is the one the events give in order"; of a refused session, the one that it starts from
abbrev pub record_after : Verdict → State → List Call → State
record_after verdict s calls = when is_taken verdict then run_from s calls else s

-- the answers in order, as many of their bytes as the buffer holds; bytes beyond stay. Of a refused session "nothing is written".
abbrev pub buffer_after : Verdict → State → List Call → (buffer : List ℕ) → List ℕ
buffer_after verdict s calls buffer = when is_taken verdict then shown (answer_bytes s calls) buffer else buffer
