-- The text, read line by line and word by word, gives the numbers back.
-- Assumes nothing.
use Prim.Native.Nat.{ℕ, zero, suc, ◌+◌, ◌<◌}
use mathlib.Core.Path.{◌≡◌, refl, sym, ap, ap₂, ◌∙◌, subst}
use mathlib.Core.Bool.{true}
use mathlib.Core.List.{List, [], ◌∷◌, ◌++◌, map, append_assoc, append-nil}
use native.Mathlib.Nat.{not-suc-le-zero, le_of_suc-le-suc, zero-add}
use native.Mathlib.Omega.{arith}
use lib.Dec.{lit<}
use lib.ListN.{length, get_or, length-append}
use Rattle.wire.specs.Parts.{joined}
use Rattle.text.specs.Characters.{bytes_of}
use Rattle.text.specs.Decimal.{decimal, read_decimal}
use Rattle.text.specs.Pieces.{pieces, is_whole, lines_of, words_of, numbers_of}
use Rattle.text.proofs.Decimal.{decimal-spells}
use Rattle.text.proofs.Pieces.{whole_append, decimal-whole, cut-after, cut-never}
use Rattle.recording.specs.declared.Verdict.TheVariants.{Done}
use Rattle.claim.proofs.Claiming.{all-printed}
use Rattle.claim.specs.Files.{claim_verdict, file_rows, claim_text, claim_printed}
use Rattle.claim.specs.declared.Row.{Row}
use Rattle.claim.specs.Rows.{no_writes, totals}
use Rattle.claim.specs.Lines.{spaced, columns, row_line, row_lines, total_line, amount_of, claim_lines}
use Rattle.claim.specs.Reading.{ReadsAs}

-- ---- the words of a line

-- numbers after a first word are words
words : (first : List ℕ) (ns : List ℕ) → is_whole 32 first ≡ true → words_of (first ++ joined spaced ns) ≡ first ∷ map decimal ns
unfolding joined bytes_of
words first [] w = ap words_of (append-nil first) ∙ cut-never 32 first w
words first (n ∷ ns) w = cut-after 32 first (decimal n ++ joined spaced ns) w ∙ ap (λ l. first ∷ l) (words (decimal n) ns (decimal-whole 32 (lit< tt) n))

-- and so are those that follow
words-then : (first : List ℕ) (ns rest : List ℕ) → is_whole 32 first ≡ true → words_of (first ++ joined spaced ns ++ 32 ∷ rest) ≡ first ∷ (map decimal ns ++ words_of rest)
unfolding joined bytes_of
words-then first [] rest w = ap (λ l. words_of (l ++ 32 ∷ rest)) (append-nil first) ∙ cut-after 32 first rest w
words-then first (n ∷ ns) rest w =
    ap words_of (append_assoc first (32 ∷ (decimal n ++ joined spaced ns)) (32 ∷ rest))
    ∙ cut-after 32 first (decimal n ++ joined spaced ns ++ 32 ∷ rest) w
    ∙ ap (λ l. first ∷ l) (words-then (decimal n) ns rest (decimal-whole 32 (lit< tt) n))

-- read back, a number's digits are the number
numbers : (ns : List ℕ) → map read_decimal (map decimal ns) ≡ ns
numbers [] = refl
numbers (n ∷ ns) = ap₂ (λ x l. x ∷ l) (decimal-spells n).reads (numbers ns)

-- a row's line without its end
abbrev row_text : ℕ → Row → List ℕ
row_text k row = decimal k ++ columns row

row_reads : (k : ℕ) (row : Row) → numbers_of (row_text k row) ≡ k ∷ row.encrypted ∷ row.external ∷ row.clear ∷ row.refused ∷ []
row_reads k row =
    let ns = row.encrypted ∷ row.external ∷ row.clear ∷ row.refused ∷ [] in
    ap (map read_decimal) (words (decimal k) ns (decimal-whole 32 (lit< tt) k)) ∙ numbers (k ∷ ns)

-- and that of the totals
abbrev total_text : Row → ℕ → List ℕ
total_text total amount = bytes_of "total" ++ columns total ++ bytes_of " amount" ++ spaced amount

total-reads : (total : Row) (amount : ℕ) → words_of (total_text total amount)
    ≡ bytes_of "total" ∷ decimal total.encrypted ∷ decimal total.external ∷ decimal total.clear ∷ decimal total.refused ∷ bytes_of "amount" ∷ decimal amount ∷ []
unfolding bytes_of
total-reads total amount =
    let ns = total.encrypted ∷ total.external ∷ total.clear ∷ total.refused ∷ [] in
    ap words_of (append_assoc (bytes_of "total" ++ columns total) (bytes_of " amount") (spaced amount))
    ∙ words-then (bytes_of "total") ns (bytes_of "amount" ++ spaced amount) refl
    ∙ ap (λ l. bytes_of "total" ∷ (map decimal ns ++ l))
    (cut-after 32 (bytes_of "amount") (decimal amount) refl ∙ ap (λ l. bytes_of "amount" ∷ l) (cut-never 32 (decimal amount) (decimal-whole 32 (lit< tt) amount)))

-- ---- the lines of a text

columns-whole : (ns : List ℕ) → is_whole 10 (joined spaced ns) ≡ true
unfolding joined bytes_of
columns-whole [] = refl
columns-whole (n ∷ ns) =
    whole_append 10 (32 ∷ decimal n) (joined spaced ns) (whole_append 10 (bytes_of " ") (decimal n) refl (decimal-whole 10 (lit< tt) n)) (columns-whole ns)

-- rows without their ends
abbrev texts : ℕ → List Row → List (List ℕ)
texts k [] = []
texts k (row ∷ rows) = row_text k row ∷ texts (suc k) rows

rows-lines : (k : ℕ) (rows : List Row) (rest : List ℕ) → lines_of (row_lines k rows ++ rest) ≡ texts k rows ++ lines_of rest
unfolding row_lines row_line bytes_of
rows-lines k [] rest = refl
rows-lines k (row ∷ rows) rest =
    let line = row_text k row in
    ap lines_of (append_assoc (line ++ 10 ∷ []) (row_lines (suc k) rows) rest ∙ append_assoc line (10 ∷ []) (row_lines (suc k) rows ++ rest))
    ∙ cut-after 10 line (row_lines (suc k) rows ++ rest) (whole_append 10 (decimal k) (columns row) (decimal-whole 10 (lit< tt) k) (columns-whole (row.encrypted ∷ row.external ∷ row.clear ∷ row.refused ∷ [])))
    ∙ ap (λ l. line ∷ l) (rows-lines (suc k) rows rest)

total-line : (total : Row) (amount : ℕ) → lines_of (total_line total amount) ≡ total_text total amount ∷ [] ∷ []
unfolding total_line bytes_of pieces
total-line total amount =
    let a = bytes_of "total" ++ columns total in
    let b = a ++ bytes_of " amount" in
    cut-after 10 (total_text total amount) []
    (whole_append 10 b (spaced amount) (whole_append 10 a (bytes_of " amount") (whole_append 10 (bytes_of "total") (columns total) refl (columns-whole (total.encrypted ∷ total.external ∷ total.clear ∷ total.refused ∷ []))) refl)
    (whole_append 10 (bytes_of " ") (decimal amount) refl (decimal-whole 10 (lit< tt) amount)))

-- where each of them stands
text_at : (j : ℕ) (rows : List Row) (tail : List (List ℕ)) (k : ℕ) → k < length rows → get_or (texts j rows ++ tail) k [] ≡ row_text (j + k) (get_or rows k no_writes)
text_at j [] tail k h = absurd (not-suc-le-zero h)
text_at j (row ∷ rows) tail zero h = let e : j ≡ j + 0 = omega arith in ap (λ i. row_text i row) e
text_at j (row ∷ rows) tail (suc k) h =
    let e : suc j + k ≡ j + suc k = omega arith in text_at (suc j) rows tail k (le_of_suc-le-suc h) ∙ ap (λ i. row_text i (get_or rows k no_writes)) e

text-past : (j : ℕ) (rows : List Row) (tail : List (List ℕ)) (i : ℕ) → get_or (texts j rows ++ tail) (length rows + i) [] ≡ get_or tail i []
text-past j [] tail i = ap (λ k. get_or tail k []) (zero-add i)
text-past j (row ∷ rows) tail i =
    let e : suc (length rows) + i ≡ suc (length rows + i) = omega arith in ap (λ k. get_or (texts j (row ∷ rows) ++ tail) k []) e ∙ text-past (suc j) rows tail i

length-texts : (j : ℕ) (rows : List Row) → length (texts j rows) ≡ length rows
length-texts j [] = refl
length-texts j (row ∷ rows) = ap suc (length-texts (suc j) rows)

-- The text of rows has a line for each, which reads as its number and its four counts, and then one of the totals, which are the column
-- sums, and the amount.
pub text-reads : (rate : ℕ) (rows : List Row) → ReadsAs rate rows (claim_lines rate rows)
unfolding claim_lines
text-reads rate rows =
    let total = totals rows in
    let last = total_text total (amount_of rate total) in
    let tail = last ∷ [] ∷ [] in
    let all : lines_of (row_lines 0 rows ++ total_line total (amount_of rate total)) ≡ texts 0 rows ++ tail =
    rows-lines 0 rows (total_line total (amount_of rate total)) ∙ ap (λ l. texts 0 rows ++ l) (total-line total (amount_of rate total)) in
    let zeroth : length rows + 0 ≡ length rows = omega arith in
    record {
      many = ap length all ∙ length-append (texts 0 rows) tail ∙ ap (λ n. n + 2) (length-texts 0 rows);
      ends = ap (λ l. get_or l (length rows + 1) []) all ∙ text-past 0 rows tail 1;
      row = λ k h. ap (λ l. numbers_of (get_or l k [])) all ∙ ap numbers_of (text_at 0 rows tail k h ∙ ap (λ i. row_text i (get_or rows k no_writes)) (zero-add k)) ∙ row_reads k (get_or rows k no_writes);
      total = ap (λ l. words_of (get_or l (length rows) [])) all ∙ ap words_of (ap (λ k. get_or (texts 0 rows ++ tail) k []) (sym zeroth) ∙ text-past 0 rows tail 0) ∙ total-reads total (amount_of rate total);
    }

-- And so does what is printed of every file and rate that is taken.
pub claim-reads : (nexuses places rate : ℕ) (file : List ℕ) → claim_verdict rate file ≡ Done → ReadsAs rate (file_rows nexuses places file) (claim_printed nexuses places rate file)
unfolding claim_text
claim-reads nexuses places rate file e =
    subst (ReadsAs rate (file_rows nexuses places file)) (sym (all-printed nexuses places rate file e)) (text-reads rate (file_rows nexuses places file))
