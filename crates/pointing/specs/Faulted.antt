-- Document 02, request 6, of rules tried in turn: "a rule of 01 first breaks".
use Rattle.std.specs.Prelude.{List, [], ◌∷◌, Result, Ok, Err}
use Rattle.arrays.specs.Base.{when◌then◌else◌}
use Rattle.wire.specs.Rules.{Rule}
use Rattle.answer.specs.declared.Answer.{Answer}
use Rattle.answer.specs.declared.Answer.TheVariants.{FieldWrong}

-- answer 8, with the byte of the first rule that breaks
abbrev pub faulted : List Rule → Result Unit Answer
faulted [] = Ok tt
faulted (r ∷ rs) = when r.holds then faulted rs else Err (FieldWrong r.at)
