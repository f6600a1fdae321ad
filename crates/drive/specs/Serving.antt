-- Document 02, request 7: "Operators ask which hosts a set serves." The word of a place tells it; the question changes nothing.
use Rattle.std.specs.Prelude.{ℕ, not, [], ◌∷◌, length, get_or}
use Rattle.arrays.specs.Base.{when◌then◌else◌}
use Rattle.answer.specs.Answers.{is_done}
use Rattle.answer.specs.declared.Answer.{Answer}
use Rattle.answer.specs.declared.Answer.TheVariants.{NotWellFormed}
use Rattle.device.specs.Words.{Worded, formed}
use Rattle.drive.specs.Checks.{answer_if, first_of, check13}

-- checks 1 and 13
unfoldable pub served_answer : Worded → (place : ℕ) → Answer
served_answer r place = first_of (answer_if (not (formed r)) NotWellFormed ∷ check13 (length r.state.sets) place ∷ [])

-- "bit n says that nexus n selects this place"; a refused answer carries no word
abbrev pub served_word : Worded → (place : ℕ) → Answer → ℕ
served_word r place a = when is_done a then get_or r.words place 0 else 0
