-- A session from any record with words, whether it is well formed or not: its calls one after another.
use Rattle.std.specs.Prelude.{ℕ, List, [], ◌∷◌}
use Rattle.arrays.specs.Base.{when◌then◌else◌}
use Rattle.wire.specs.Parts.{joined}
use Rattle.wire.specs.Buffers.{shown}
use Rattle.answer.specs.declared.Answer.{Answer}
use Rattle.device.specs.Words.{Worded}
use Rattle.drive.specs.Calls.{Call}
use Rattle.drive.specs.Records.{answer_of, after_of, after_all}
use Rattle.recording.specs.Verdicts.{is_taken}
use Rattle.recording.specs.declared.Verdict.{Verdict}
use Rattle.session.specs.Answers.{four_of}

-- the answers to calls
unfoldable pub answers_of : Worded → List Call → List Answer
answers_of r [] = []
answers_of r (call ∷ later) = answer_of r call ∷ answers_of (after_of r call) later

-- their bytes
abbrev pub answer_bytes_of : Worded → List Call → List ℕ
answer_bytes_of r calls = joined four_of (answers_of r calls)

-- what a session gives, by its verdict: the record at the end, and each byte of the lent buffer
abbrev pub record_after_of : Verdict → Worded → List Call → Worded
record_after_of verdict r calls = when is_taken verdict then after_all r calls else r

abbrev pub buffer_after_of : Verdict → Worded → List Call → (buffer : List ℕ) → List ℕ
buffer_after_of verdict r calls buffer = when is_taken verdict then shown (answer_bytes_of r calls) buffer else buffer
