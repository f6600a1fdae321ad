-- Document 02, request 3: "writes four bytes an event: answer number and sense triple, zeros where there is none".
use Rattle.std.specs.Prelude.{ℕ, List, [], ◌∷◌}
use Rattle.wire.specs.Parts.{joined}
use Rattle.answer.specs.Answers.{number_of, sense_of}
use Rattle.answer.specs.declared.Answer.{Answer}
use Rattle.device.specs.Record.{State}
use Rattle.drive.specs.Calls.{Call}
use Rattle.drive.specs.Checks.{answer}
use Rattle.drive.specs.After.{after}

abbrev pub answer_size : ℕ
answer_size = 4

abbrev pub four_of : Answer → List ℕ
four_of a = number_of a ∷ (sense_of a).key ∷ (sense_of a).asc ∷ (sense_of a).ascq ∷ []

-- the answers to calls, one after another
unfoldable pub answers_from : State → List Call → List Answer
answers_from s [] = []
answers_from s (call ∷ later) = answer s call ∷ answers_from (after s call) later

-- their bytes
abbrev pub answer_bytes : State → List Call → List ℕ
answer_bytes s calls = joined four_of (answers_from s calls)
