-- Rows of writes, and of writes after writes.
-- Assumes nothing.
use Prim.Native.Nat.{ℕ, zero, suc, ◌+◌, ◌<◌}
use mathlib.Core.Path.{◌≡◌, refl, sym, ap, ap₂, ◌∙◌}
use mathlib.Core.Bool.{true, false}
use mathlib.Core.List.{List, [], ◌∷◌, ◌++◌}
use native.Mathlib.Nat.{not-suc-le-zero, le_of_suc-le-suc, zero-add}
use native.Mathlib.Omega.{arith}
use borrow.Author.Tests.{eq-eqb, ne_eqb, ltb-true}
use lib.Dec.{eqb, ltb}
use lib.ListN.{length, get_or, set}
use Rattle.arrays.proofs.Base.{cases}
use Rattle.arrays.proofs.Appending.{count-append}
use Rattle.drive.specs.declared.Decision.{Decision}
use Rattle.drive.specs.declared.Decision.TheVariants.{Refused, Clear, External, Encrypted}
use Rattle.claim.specs.declared.Row.{Row}
use Rattle.claim.specs.Writes.{Wrote}
use Rattle.claim.specs.Rows.{row_of_nexus, counts_as, counted, row_for, rows_from, rows_of, no_writes, plus, one, plus_rows}
use Rattle.claim.specs.Making.{noted}

-- ---- rows added

-- rows are equal, column by column
pub row_same : {a b : Row} → a.encrypted ≡ b.encrypted → a.external ≡ b.external → a.clear ≡ b.clear → a.refused ≡ b.refused → a ≡ b
row_same e x c r = λ i. record { encrypted = e i; external = x i; clear = c i; refused = r i }

pub plus_none : (a : Row) → plus a no_writes ≡ a
plus_none a = row_same (omega arith) (omega arith) (omega arith) (omega arith)

pub none-plus : (a : Row) → plus no_writes a ≡ a
none-plus a = row_same (omega arith) (omega arith) (omega arith) (omega arith)

pub plus_assoc : (a b c : Row) → plus (plus a b) c ≡ plus a (plus b c)
plus_assoc a b c = row_same (omega arith) (omega arith) (omega arith) (omega arith)

-- ---- every write has one row

pub row_within : (nexuses n : ℕ) → row_of_nexus nexuses n < suc nexuses
row_within nexuses n = cases (ltb n nexuses) (λ t. rw t (omega (arith, ltb-true n nexuses t))) (λ f. rw f (omega arith))

-- ---- writes after writes

module _ (nexuses : ℕ) where
  -- a row of writes after writes has both
  pub row-append : (k : ℕ) (a b : List Wrote) → row_for nexuses k (a ++ b) ≡ plus (row_for nexuses k a) (row_for nexuses k b)
  unfolding row_for
  row-append k a b =
      let each : (d : Decision) → counted nexuses k d (a ++ b) ≡ counted nexuses k d a + counted nexuses k d b = λ d. count-append (counts_as nexuses k d) a b in
      row_same (each Encrypted) (each External) (each Clear) (each Refused)

  pub rows_append : (k rows : ℕ) (a b : List Wrote) → rows_from nexuses k rows (a ++ b) ≡ plus_rows (rows_from nexuses k rows a) (rows_from nexuses k rows b)
  unfolding rows_from plus_rows
  rows_append k zero a b = refl
  rows_append k (suc rows) a b = ap₂ (λ (x : Row) (l : List Row). x ∷ l) (row-append k a b) (rows_append (suc k) rows a b)

  -- no writes make rows of none
  pub row-none : (k : ℕ) → row_for nexuses k [] ≡ no_writes
  unfolding row_for
  row-none k = refl

  -- a single write counts in its own row, and in no other
  pub row-own : (k : ℕ) (w : Wrote) → row_of_nexus nexuses w.nexus ≡ k → row_for nexuses k (w ∷ []) ≡ one w.decision
  unfolding row_for
  row-own k w e = own w.decision (eq-eqb _ _ e)
    where
      own : (d : Decision) → eqb (row_of_nexus nexuses w.nexus) k ≡ true → row_for nexuses k (record { nexus = w.nexus; decision = d } ∷ []) ≡ one d
      own Refused t = rw t refl
      own Clear t = rw t refl
      own External t = rw t refl
      own Encrypted t = rw t refl

  pub row_other : (k : ℕ) (w : Wrote) → eqb (row_of_nexus nexuses w.nexus) k ≡ false → row_for nexuses k (w ∷ []) ≡ no_writes
  unfolding row_for
  row_other k w f = rw f refl

  row-length : (k rows : ℕ) (writes : List Wrote) → length (rows_from nexuses k rows writes) ≡ rows
  unfolding rows_from
  row-length k zero writes = refl
  row-length k (suc rows) writes = ap suc (row-length (suc k) rows writes)

  pub length-rows : (writes : List Wrote) → length (rows_of nexuses writes) ≡ suc nexuses
  length-rows = row-length 0 (suc nexuses)

  -- a row of a write more
  row_more : (k : ℕ) (writes : List Wrote) (w : Wrote) → row_of_nexus nexuses w.nexus ≡ k → plus (row_for nexuses k writes) (one w.decision) ≡ row_for nexuses k (writes ++ w ∷ [])
  row_more k writes w e = sym (row-append k writes (w ∷ []) ∙ ap (plus (row_for nexuses k writes)) (row-own k w e))

  row_kept : (k : ℕ) (writes : List Wrote) (w : Wrote) → eqb (row_of_nexus nexuses w.nexus) k ≡ false → row_for nexuses k writes ≡ row_for nexuses k (writes ++ w ∷ [])
  row_kept k writes w f = sym (row-append k writes (w ∷ []) ∙ ap (plus (row_for nexuses k writes)) (row_other k w f) ∙ plus_none (row_for nexuses k writes))

  -- rows above a write's own stay
  rows-kept : (k rows : ℕ) (writes : List Wrote) (w : Wrote) → row_of_nexus nexuses w.nexus < k → rows_from nexuses k rows writes ≡ rows_from nexuses k rows (writes ++ w ∷ [])
  unfolding rows_from
  rows-kept k zero writes w h = refl
  rows-kept k (suc rows) writes w h =
      ap₂ (λ (x : Row) (l : List Row). x ∷ l) (row_kept k writes w (ne_eqb (row_of_nexus nexuses w.nexus) k (λ e. absurd (omega (arith, h, e))))) (rows-kept (suc k) rows writes w (omega (arith, h)))

  rows_more : (k j rows : ℕ) (writes : List Wrote) (w : Wrote) → row_of_nexus nexuses w.nexus ≡ k + j → j < rows
      → set (rows_from nexuses k rows writes) j (plus (get_or (rows_from nexuses k rows writes) j no_writes) (one w.decision)) ≡ rows_from nexuses k rows (writes ++ w ∷ [])
  unfolding rows_from
  rows_more k j zero writes w e h = absurd (not-suc-le-zero h)
  rows_more k zero (suc rows) writes w e h =
      ap₂ (λ (x : Row) (l : List Row). x ∷ l) (row_more k writes w (omega (arith, e))) (rows-kept (suc k) rows writes w (omega (arith, e)))
  rows_more k (suc j) (suc rows) writes w e h =
      ap₂ (λ (x : Row) (l : List Row). x ∷ l) (row_kept k writes w (ne_eqb (row_of_nexus nexuses w.nexus) k (λ f. absurd (omega (arith, e, f))))) (rows_more (suc k) j rows writes w (omega (arith, e)) (le_of_suc-le-suc h))

  -- A write is added to its own row, and to no other.
  pub noted-rows : (writes : List Wrote) (w : Wrote) → noted nexuses w (rows_of nexuses writes) ≡ rows_of nexuses (writes ++ w ∷ [])
  noted-rows writes w = rows_more 0 (row_of_nexus nexuses w.nexus) (suc nexuses) writes w (sym (zero-add _)) (row_within nexuses w.nexus)
