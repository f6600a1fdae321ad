-- How the tables of faults are written down: single faults of a page, and every two of them.
use Rattle.std.specs.Prelude.{ℕ, min, List, [], ◌∷◌, ◌++◌, set}
use Rattle.answer.specs.declared.Answer.{Answer}
use Rattle.answer.specs.declared.Answer.TheVariants.{FieldWrong}

-- a byte, a value that is wrong there, and the byte that the fault points to
pub record Fault : Type 0 where
  pub byte : ℕ
  pub value : ℕ
  pub points : ℕ

abbrev pub fault : ℕ → ℕ → ℕ → Fault
fault byte value points = record { byte = byte; value = value; points = points }

-- one that points to its own byte
abbrev pub own : ℕ → ℕ → Fault
own byte value = fault byte value byte

abbrev pub wrong_in : List ℕ → Fault → List ℕ
wrong_in p f = set p f.byte f.value

-- a page, and the answer
abbrev pub Row : Type 0
Row = List ℕ × Answer

-- a page with one fault, and with each of the others: the lower byte
abbrev pub with_others : List ℕ → Fault → List Fault → List Row
with_others p f [] = []
with_others p f (g ∷ more) = (wrong_in (wrong_in p f) g, FieldWrong (min f.points g.points)) ∷ with_others p f more

-- each fault by itself, and every two
abbrev pub every_two : List ℕ → List Fault → List Row
every_two p [] = []
every_two p (f ∷ more) = (wrong_in p f, FieldWrong f.points) ∷ with_others p f more ++ every_two p more
