-- How long a claim's text can be.
-- Assumes nothing.
use Prim.Native.Nat.{ℕ, suc, ◌+◌, ◌*◌, ◌^◌, ◌≤◌, ◌<◌}
use mathlib.Core.Path.{ap}
use mathlib.Core.List.{List, [], ◌∷◌, ◌++◌}
use native.Mathlib.Omega.{arith}
use native.Mathlib.Nat.{mul-le-mul}
use lib.ListN.{length, length-append}
use Rattle.wire.specs.Parts.{joined}
use Rattle.text.specs.Characters.{bytes_of}
use Rattle.text.specs.Decimal.{decimal}
use Rattle.text.proofs.Decimal.{decimal-few}
use Rattle.device.specs.Record.{power_on}
use Rattle.recording.specs.Files.{event_bytes, page_bytes, calls_of}
use Rattle.recording.proofs.Entries.{length-calls}
use Rattle.claim.specs.declared.Row.{Row}
use Rattle.claim.specs.Rows.{totals, writes_in}
use Rattle.claim.specs.Lines.{spaced, columns, row_line, row_lines, total_line, amount_of, claim_lines}
use Rattle.claim.specs.Making.{line_most}
use Rattle.claim.specs.Files.{rate_most, file_writes, file_rows, claim_text}
use Rattle.claim.proofs.Counting.{length-rows}
use Rattle.claim.proofs.Sums.{totals-cons, rows-sum}
use Rattle.claim.proofs.Sessions.{writes-few}

-- a number of at most k digits, after a space
spaced-few : (k n : ℕ) → 0 < k → n < 10 ^ k → length (spaced n) ≤ k + 1
unfolding bytes_of
spaced-few k n some h = omega (arith, decimal-few k n some h)

-- the columns of a row of fewer than 10,000 writes
columns-few : (row : Row) → writes_in row < 10000 → length (columns row) ≤ 20
unfolding joined
columns-few row h =
    let e = spaced row.encrypted in
    let x = spaced row.external in
    let c = spaced row.clear in
    let r = spaced row.refused in
    omega (
      arith,
      length-append e (x ++ (c ++ (r ++ []))),
      length-append x (c ++ (r ++ [])),
      length-append c (r ++ []),
      length-append r [],
      spaced-few 4 row.encrypted (omega arith) (omega (arith, h)),
      spaced-few 4 row.external (omega arith) (omega (arith, h)),
      spaced-few 4 row.clear (omega arith) (omega (arith, h)),
      spaced-few 4 row.refused (omega arith) (omega (arith, h)),
    )

line-few : (k : ℕ) (row : Row) → k < 100 → writes_in row < 10000 → length (row_line k row) ≤ 23
unfolding bytes_of row_line
line-few k row h w =
    omega
    (arith, length-append (decimal k ++ columns row) (bytes_of "\n"), length-append (decimal k) (columns row), decimal-few 2 k (omega arith) (omega (arith, h)), columns-few row w)

lines-few : (k : ℕ) (rows : List Row) → k + length rows ≤ 100 → writes_in (totals rows) < 10000 → length (row_lines k rows) ≤ 23 * length rows
unfolding row_lines
lines-few k [] h w = omega arith
lines-few k (row ∷ rows) h w =
    let t = ap writes_in (totals-cons row rows) in
    omega
    (arith, length-append (row_line k row) (row_lines (suc k) rows), line-few k row (omega (arith, h)) (omega (arith, t, w)), lines-few (suc k) rows (omega (arith, h)) (omega (arith, t, w)))

total-few : (total : Row) (amount : ℕ) → writes_in total < 10000 → amount < 10 ^ 10 → length (total_line total amount) ≤ 44
unfolding bytes_of total_line
total-few total amount w h =
    let a = bytes_of "total" in
    let b = a ++ columns total in
    let c = b ++ bytes_of " amount" in
    let d = c ++ spaced amount in
    omega (
      arith,
      length-append a (columns total),
      length-append b (bytes_of " amount"),
      length-append c (spaced amount),
      length-append d (bytes_of "\n"),
      columns-few total w,
      spaced-few 10 amount (omega arith) h,
    )

-- ---- of any rows

-- a row whose counts have 64 bits
module _ (row : Row) (encrypted : row.encrypted < 2 ^ 64) (external : row.external < 2 ^ 64) (clear : row.clear < 2 ^ 64) (refused : row.refused < 2 ^ 64) where
  columns-most : length (columns row) ≤ 84
  unfolding joined
  columns-most =
      let e = spaced row.encrypted in
      let x = spaced row.external in
      let c = spaced row.clear in
      let r = spaced row.refused in
      omega (
        arith,
        length-append e (x ++ (c ++ (r ++ []))),
        length-append x (c ++ (r ++ [])),
        length-append c (r ++ []),
        length-append r [],
        spaced-few 20 row.encrypted (omega arith) (omega (arith, encrypted)),
        spaced-few 20 row.external (omega arith) (omega (arith, external)),
        spaced-few 20 row.clear (omega arith) (omega (arith, clear)),
        spaced-few 20 row.refused (omega arith) (omega (arith, refused)),
      )

  pub row_line-most : (k : ℕ) → k < 2 ^ 64 → length (row_line k row) ≤ line_most
  unfolding bytes_of row_line
  row_line-most k h =
      omega (arith, length-append (decimal k ++ columns row) (bytes_of "\n"), length-append (decimal k) (columns row), decimal-few 20 k (omega arith) (omega (arith, h)), columns-most)

  pub total_line-most : (amount : ℕ) → amount < 2 ^ 64 → length (total_line row amount) ≤ line_most
  unfolding bytes_of total_line
  total_line-most amount h =
      let a = bytes_of "total" in
      let b = a ++ columns row in
      let c = b ++ bytes_of " amount" in
      let d = c ++ spaced amount in
      omega (
        arith,
        length-append a (columns row),
        length-append b (bytes_of " amount"),
        length-append c (spaced amount),
        length-append d (bytes_of "\n"),
        columns-most,
        spaced-few 20 amount (omega arith) (omega (arith, h)),
      )

-- The text of a file whose events have fewer than 65,536 bytes has at most 23 bytes a row and 44 for the totals, where there are fewer than
-- 100 rows.
pub text-few : (nexuses places rate : ℕ) (file : List ℕ) → nexuses < 100 → length (event_bytes file) < 65536 → rate ≤ rate_most
    → length (claim_text nexuses places rate file) ≤ 23 * suc nexuses + 44
unfolding claim_text claim_lines
text-few nexuses places rate file few h r =
    let rows = file_rows nexuses places file in
    let total = totals rows in
    let sum = rows-sum nexuses (file_writes nexuses places file) in
    let size = length-rows nexuses (file_writes nexuses places file) in
    let low : writes_in total ≤ 8191 = omega (arith, sum, writes-few (power_on nexuses places) (calls_of file), length-calls (page_bytes file) (event_bytes file), h) in
    let encrypted : total.encrypted ≤ 8191 = omega (arith, low) in
    let most : amount_of rate total ≤ 8191 * 1000000 = mul-le-mul encrypted r in
    omega (
      arith,
      length-append (row_lines 0 rows) (total_line total (amount_of rate total)),
      lines-few 0 rows (omega (arith, size, few)) (omega (arith, low)),
      total-few total (amount_of rate total) (omega (arith, low)) (omega (arith, most)),
      size,
    )
