-- How many bytes a few lines have: no rule, but how the code makes a text.
use Rattle.std.specs.Prelude.{ℕ, ◌+◌, List, [], ◌∷◌, length}

-- the most bytes of lines made by value
abbrev pub lines_most : ℕ
lines_most = 256

-- how many bytes texts have in all
abbrev pub size_of : List (List ℕ) → ℕ
size_of [] = 0
size_of (text ∷ more) = length text + size_of more
