-- What is claimed of the text as it is read (proofs/Reading).
use Rattle.std.specs.Prelude.{ℕ, ◌+◌, ◌*◌, ◌<◌, ◌≡◌, List, [], ◌∷◌, length, get_or}
use Rattle.text.specs.Characters.{bytes_of}
use Rattle.text.specs.Decimal.{decimal}
use Rattle.text.specs.Pieces.{lines_of, words_of, numbers_of}
use Rattle.claim.specs.declared.Row.{Row}
use Rattle.claim.specs.Rows.{no_writes, totals}

-- line k of a text
abbrev pub line_at : ℕ → List ℕ → List ℕ
line_at k text = get_or (lines_of text) k []

-- a text of rows: a line for each, which reads as its number and its four counts; then one of totals, the column sums, and the amount,
-- encrypted total times rate; and nothing after its end
pub record ReadsAs (rate : ℕ) (rows : List Row) (text : List ℕ) : Type 0 where
  pub many : length (lines_of text) ≡ length rows + 2
  pub ends : line_at (length rows + 1) text ≡ []
  pub row : (k : ℕ) → k < length rows → let r = get_or rows k no_writes in numbers_of (line_at k text) ≡ k ∷ r.encrypted ∷ r.external ∷ r.clear ∷ r.refused ∷ []
  pub total : let t = totals rows in
      words_of (line_at (length rows) text)
      ≡ bytes_of "total" ∷ decimal t.encrypted ∷ decimal t.external ∷ decimal t.clear ∷ decimal t.refused ∷ bytes_of "amount" ∷ decimal (t.encrypted * rate) ∷ []
