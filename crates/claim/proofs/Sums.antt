-- The sums of rows: every write is counted once.
-- Assumes nothing.
use Prim.Native.Nat.{ℕ, zero, suc, ◌+◌, ◌≤◌, ◌<◌}
use mathlib.Core.Path.{◌≡◌, refl, sym, ap, ap₂, ◌∙◌}
use mathlib.Core.List.{List, [], ◌∷◌}
use native.Mathlib.Nat.{not-suc-le-zero, le_of_suc-le-suc, zero-add}
use native.Mathlib.Omega.{arith}
use borrow.Author.Tests.{ne_eqb}
use lib.ListN.{length, get_or}
use Rattle.arrays.proofs.Loops.{Seen, read_more, read-ends}
use Rattle.arrays.proofs.Appending.{fold-shift}
use Rattle.drive.specs.declared.Decision.{Decision}
use Rattle.drive.specs.declared.Decision.TheVariants.{Refused, Clear, External, Encrypted}
use Rattle.claim.specs.declared.Row.{Row}
use Rattle.claim.specs.Writes.{Wrote}
use Rattle.claim.specs.Rows.{row_of_nexus, row_for, rows_from, rows_of, no_writes, plus, one, plus_rows, totals, writes_in, together}
use Rattle.claim.proofs.Counting.{row_same, none-plus, plus_none, plus_assoc, row_within, row-own, row_other, rows_append, row-none, length-rows}

-- the first row, and the others
pub totals-cons : (row : Row) (rows : List Row) → totals (row ∷ rows) ≡ plus row (totals rows)
totals-cons row rows = ap (plus row) (fold-shift plus no_writes 1 0 rows)

swap : (a b c d : Row) → plus (plus a b) (plus c d) ≡ plus (plus a c) (plus b d)
swap a b c d = row_same (omega arith) (omega arith) (omega arith) (omega arith)

-- totals of rows added line by line, as many of the one as of the other
pub totals-plus : (a b : List Row) → length a ≡ length b → totals (plus_rows a b) ≡ plus (totals a) (totals b)
unfolding plus_rows
totals-plus [] [] e = refl
totals-plus [] (y ∷ b) e = absurd (omega (arith, e))
totals-plus (x ∷ a) [] e = absurd (omega (arith, e))
totals-plus (x ∷ a) (y ∷ b) e =
    totals-cons (plus x y) (plus_rows a b)
    ∙ ap (plus (plus x y)) (totals-plus a b (omega (arith, e)))
    ∙ swap x y (totals a) (totals b)
    ∙ ap₂ plus (sym (totals-cons x a)) (sym (totals-cons y b))

module _ (nexuses : ℕ) where
  -- no write, no count
  totals-none : (k rows : ℕ) → totals (rows_from nexuses k rows []) ≡ no_writes
  unfolding rows_from
  totals-none k zero = refl
  totals-none k (suc rows) = totals-cons (row_for nexuses k []) (rows_from nexuses (suc k) rows []) ∙ ap₂ plus (row-none nexuses k) (totals-none (suc k) rows)

  -- a write isn't in the rows above its own
  totals-above : (k rows : ℕ) (w : Wrote) → row_of_nexus nexuses w.nexus < k → totals (rows_from nexuses k rows (w ∷ [])) ≡ no_writes
  unfolding rows_from
  totals-above k zero w h = refl
  totals-above k (suc rows) w h =
      totals-cons (row_for nexuses k (w ∷ [])) (rows_from nexuses (suc k) rows (w ∷ []))
      ∙ ap₂ plus (row_other nexuses k w (ne_eqb (row_of_nexus nexuses w.nexus) k (λ e. absurd (omega (arith, h, e))))) (totals-above (suc k) rows w (omega (arith, h)))

  -- and is in its own once
  totals-single : (k j rows : ℕ) (w : Wrote) → row_of_nexus nexuses w.nexus ≡ k + j → j < rows → totals (rows_from nexuses k rows (w ∷ [])) ≡ one w.decision
  unfolding rows_from
  totals-single k j zero w e h = absurd (not-suc-le-zero h)
  totals-single k zero (suc rows) w e h =
      totals-cons (row_for nexuses k (w ∷ [])) (rows_from nexuses (suc k) rows (w ∷ []))
      ∙ ap₂ plus (row-own nexuses k w (omega (arith, e))) (totals-above (suc k) rows w (omega (arith, e)))
      ∙ plus_none (one w.decision)
  totals-single k (suc j) (suc rows) w e h =
      totals-cons (row_for nexuses k (w ∷ [])) (rows_from nexuses (suc k) rows (w ∷ []))
      ∙ ap₂ plus (row_other nexuses k w (ne_eqb (row_of_nexus nexuses w.nexus) k (λ f. absurd (omega (arith, e, f))))) (totals-single (suc k) j rows w (omega (arith, e)) (le_of_suc-le-suc h))
      ∙ none-plus (one w.decision)

  totals-one : (w : Wrote) → totals (rows_of nexuses (w ∷ [])) ≡ one w.decision
  totals-one w = totals-single 0 (row_of_nexus nexuses w.nexus) (suc nexuses) w (sym (zero-add _)) (row_within nexuses w.nexus)

  -- The totals count every write once, whatever row it stands in.
  pub totals-are : (writes : List Wrote) → totals (rows_of nexuses writes) ≡ together writes
  unfolding together
  totals-are [] = totals-none 0 (suc nexuses)
  totals-are (w ∷ more) =
      ap totals (rows_append nexuses 0 (suc nexuses) (w ∷ []) more)
      ∙ totals-plus (rows_of nexuses (w ∷ [])) (rows_of nexuses more) (length-rows nexuses (w ∷ []) ∙ sym (length-rows nexuses more))
      ∙ ap₂ plus (totals-one w) (totals-are more)

-- a write is one
writes_one : (d : Decision) (row : Row) → writes_in (plus (one d) row) ≡ suc (writes_in row)
writes_one Refused row = omega arith
writes_one Clear row = omega arith
writes_one External row = omega arith
writes_one Encrypted row = omega arith

pub writes-together : (writes : List Wrote) → writes_in (together writes) ≡ length writes
unfolding together
writes-together [] = refl
writes-together (w ∷ more) = writes_one w.decision (together more) ∙ ap suc (writes-together more)

-- The rows' sum is the number of writes.
pub rows-sum : (nexuses : ℕ) (writes : List Wrote) → writes_in (totals (rows_of nexuses writes)) ≡ length writes
rows-sum nexuses writes = ap writes_in (totals-are nexuses writes) ∙ writes-together writes

-- ---- as the code adds them

-- no row has more writes than all
pub row-few : (rows : List Row) (k : ℕ) → writes_in (get_or rows k no_writes) ≤ writes_in (totals rows)
row-few [] k = omega arith
row-few (row ∷ rows) zero = let e = ap writes_in (totals-cons row rows) in omega (arith, e)
row-few (row ∷ rows) (suc k) = let e = ap writes_in (totals-cons row rows) in omega (arith, e, row-few rows k)

-- the invariant: the rows below k come to a row, and the others are still to be added
pub record Summed (rows : List Row) (k : ℕ) (total : Row) : Type 0 where
  pub seen : Seen (λ i. plus) no_writes (length rows) rows k (plus total)

pub sum-starts : (rows : List Row) → Summed rows 0 no_writes
sum-starts rows = record { seen = record { within = omega arith; sized = refl; rest = sym (none-plus (totals rows)) } }

module _ {rows : List Row} {k : ℕ} {total : Row} (l : Summed rows k total) where
  -- one row more
  pub sum_more : k < length rows → {next : Row} → next ≡ plus total (get_or rows k no_writes) → Summed rows (k + 1) next
  sum_more h {next} e = record { seen = read_more l.seen h no_writes (λ r. sym (plus_assoc total (get_or rows k no_writes) r) ∙ ap (λ x. plus x r) (sym e)) }

  -- and all of them
  pub sum-ends : length rows ≤ k → total ≡ totals rows
  sum-ends h = sym (read-ends l.seen h ∙ plus_none total)

  -- what is added is never more than all
  pub sum-few : k < length rows → writes_in (plus total (get_or rows k no_writes)) ≤ writes_in (totals rows)
  sum-few h =
      let more = sum_more h refl in
      let e = ap writes_in more.seen.rest in
      omega (arith, e)
