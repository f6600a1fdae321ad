-- Document 02, request 11: the text to the character.
use Rattle.std.specs.Prelude.{ℕ, suc, ◌*◌, List, [], ◌∷◌, ◌++◌}
use Rattle.wire.specs.Parts.{joined}
use Rattle.text.specs.Characters.{bytes_of}
use Rattle.text.specs.Decimal.{decimal}
use Rattle.claim.specs.declared.Row.{Row}
use Rattle.claim.specs.Rows.{totals}

-- a number after a space
abbrev pub spaced : ℕ → List ℕ
spaced n = bytes_of " " ++ decimal n

-- "the writes encrypted, external, clear and refused"
abbrev pub columns : Row → List ℕ
columns row = joined spaced (row.encrypted ∷ row.external ∷ row.clear ∷ row.refused ∷ [])

-- "each line begins with its row number"
unfoldable pub row_line : ℕ → Row → List ℕ
row_line k row = decimal k ++ columns row ++ bytes_of "\n"

-- the lines of rows, from row k on
unfoldable pub row_lines : ℕ → List Row → List ℕ
row_lines k [] = []
row_lines k (row ∷ more) = row_line k row ++ row_lines (suc k) more

-- "then a line of totals, then the amount"
unfoldable pub total_line : Row → (amount : ℕ) → List ℕ
total_line total amount = bytes_of "total" ++ columns total ++ bytes_of " amount" ++ spaced amount ++ bytes_of "\n"

-- "encrypted total times a rate"
abbrev pub amount_of : (rate : ℕ) → Row → ℕ
amount_of rate total = total.encrypted * rate

-- the claim of rows
unfoldable pub claim_lines : (rate : ℕ) → List Row → List ℕ
claim_lines rate rows = row_lines 0 rows ++ total_line (totals rows) (amount_of rate (totals rows))
