-- A text cut at a character: its lines, the words of a line.
use Rattle.std.specs.Prelude.{ℕ, Bool, not, List, [], ◌∷◌, map, eqb}
use Rattle.arrays.specs.Base.{when◌then◌else◌}
use Rattle.arrays.specs.Arrays.{all}
use Rattle.text.specs.Decimal.{read_decimal}

-- a character more at the start of the first piece
abbrev pub extended : ℕ → List (List ℕ) → List (List ℕ)
extended c [] = (c ∷ []) ∷ []
extended c (piece ∷ more) = (c ∷ piece) ∷ more

-- what stands before, between and after the cuts
unfoldable pub pieces : (cut : ℕ) → List ℕ → List (List ℕ)
pieces cut [] = [] ∷ []
pieces cut (c ∷ text) = when eqb c cut then [] ∷ pieces cut text else extended c (pieces cut text)

-- a text without a cut
abbrev pub is_whole : (cut : ℕ) → List ℕ → Bool
is_whole cut = all (λ c. not (eqb c cut))

abbrev pub lines_of : List ℕ → List (List ℕ)
lines_of = pieces 10

abbrev pub words_of : List ℕ → List (List ℕ)
words_of = pieces 32

-- the numbers of a line
abbrev pub numbers_of : List ℕ → List ℕ
numbers_of line = map read_decimal (words_of line)
