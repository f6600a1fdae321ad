-- Document 02, request 11: "for each nexus the writes encrypted, external, clear and refused, then a line of totals".
use Rattle.std.specs.Prelude.{ℕ, zero, suc, ◌+◌, Bool, ◌&&◌, List, [], ◌∷◌, eqb, ltb}
use Rattle.arrays.specs.Base.{when◌then◌else◌}
use Rattle.arrays.specs.Arrays.{fold_from, count}
use Rattle.drive.specs.Outcomes.{value_of}
use Rattle.drive.specs.declared.Decision.{Decision}
use Rattle.drive.specs.declared.Decision.TheVariants.{Refused, Clear, External, Encrypted}
use Rattle.claim.specs.declared.Row.{Row}
use Rattle.claim.specs.Writes.{Wrote}

-- a write counts "in its own nexus's row; those with a nexus above 15 have a seventeenth row": where there are that many nexuses, the row
-- after theirs
abbrev pub row_of_nexus : (nexuses n : ℕ) → ℕ
row_of_nexus nexuses n = when ltb n nexuses then n else nexuses

-- it counts in row k, as encrypted, external, clear or refused
abbrev pub counts_as : (nexuses k : ℕ) → Decision → Wrote → Bool
counts_as nexuses k decision w = eqb (row_of_nexus nexuses w.nexus) k && eqb (value_of w.decision) (value_of decision)

-- how many do
abbrev pub counted : (nexuses k : ℕ) → Decision → List Wrote → ℕ
counted nexuses k decision = count (λ i. counts_as nexuses k decision)

-- row k
unfoldable pub row_for : (nexuses k : ℕ) → List Wrote → Row
row_for nexuses k writes = record {
  encrypted = counted nexuses k Encrypted writes;
  external = counted nexuses k External writes;
  clear = counted nexuses k Clear writes;
  refused = counted nexuses k Refused writes;
}

-- so many rows, from row k on
unfoldable pub rows_from : (nexuses k rows : ℕ) → List Wrote → List Row
rows_from nexuses k zero writes = []
rows_from nexuses k (suc rows) writes = row_for nexuses k writes ∷ rows_from nexuses (suc k) rows writes

-- a row for each nexus, and the one after theirs
abbrev pub rows_of : (nexuses : ℕ) → List Wrote → List Row
rows_of nexuses writes = rows_from nexuses 0 (suc nexuses) writes

-- ---- totals

abbrev pub no_writes : Row
no_writes = record { encrypted = 0; external = 0; clear = 0; refused = 0 }

-- two rows, column by column
abbrev pub plus : Row → Row → Row
plus a b = record {
  encrypted = a.encrypted + b.encrypted;
  external = a.external + b.external;
  clear = a.clear + b.clear;
  refused = a.refused + b.refused;
}

-- a write by itself, as a row
abbrev pub one : Decision → Row
one Encrypted = record { encrypted = 1; external = 0; clear = 0; refused = 0 }
one External = record { encrypted = 0; external = 1; clear = 0; refused = 0 }
one Clear = record { encrypted = 0; external = 0; clear = 1; refused = 0 }
one Refused = record { encrypted = 0; external = 0; clear = 0; refused = 1 }

-- the sums of the columns
abbrev pub totals : List Row → Row
totals = fold_from (λ k. plus) no_writes 0

-- the writes of a row, whatever became of them
abbrev pub writes_in : Row → ℕ
writes_in row = row.encrypted + row.external + row.clear + row.refused

-- the writes of all nexuses together
unfoldable pub together : List Wrote → Row
together [] = no_writes
together (w ∷ more) = plus (one w.decision) (together more)

-- rows of two sessions, line by line
unfoldable pub plus_rows : List Row → List Row → List Row
plus_rows [] b = []
plus_rows (x ∷ a) [] = []
plus_rows (x ∷ a) (y ∷ b) = plus x y ∷ plus_rows a b
