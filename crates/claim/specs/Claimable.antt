-- What is claimed of a claim (proofs/Once, Exactly, Parts): the words that an auditor's theorems use.
use Rattle.std.specs.Prelude.{ℕ, ◌+◌, ◌≤◌, ◌<◌, ◌≡◌, Bool, true, false, List}
use Rattle.parameters.specs.Codes.{encrypt}
use Rattle.device.specs.Record.{nexus_at}
use Rattle.drive.specs.Calls.{Call}
use Rattle.drive.specs.Runs.{run}
use Rattle.due.specs.Due.{mode_of}
use Rattle.history.specs.History.{Latest, place_left, reading, touched}
use Rattle.claim.specs.declared.Row.{Row}
use Rattle.claim.specs.Rows.{plus, plus_rows, totals}
use Rattle.claim.specs.Lines.{amount_of}

-- ---- one write

-- a write of nexus n may be claimed after these calls since power-on: the nexus is one of the drive's, no flag of it is pending, the set in
-- use has mode ENCRYPT, the volume supports the algorithm, and, for a locked nexus, no call since its latest page established, replaced or
-- released the set that the page left it using (demand 3, which looks at no number)
pub record Claimable (nexuses places : ℕ) (before : List Call) (n : ℕ) (supported : Bool) : Type 0 where
  pub within : n < nexuses
  pub another : (nexus_at (run nexuses places before) n).marks.another ≡ false
  pub vendor : (nexus_at (run nexuses places before) n).marks.vendor ≡ false
  pub mode : mode_of (run nexuses places before) n ≡ encrypt
  pub volume : supported ≡ true
  pub untouched : (nexus_at (run nexuses places before) n).lock ≡ true → (x : Latest n (reading nexuses places before)) → touched (place_left x) x.later ≡ false

-- ---- rows

-- nothing but refused writes
pub record RefusedAlone (row : Row) : Type 0 where
  pub encrypted : row.encrypted ≡ 0
  pub external : row.external ≡ 0
  pub clear : row.clear ≡ 0

-- no count of the one is above the other's
pub record NoMore (a b : Row) : Type 0 where
  pub encrypted : a.encrypted ≤ b.encrypted
  pub external : a.external ≤ b.external
  pub clear : a.clear ≤ b.clear
  pub refused : a.refused ≤ b.refused

-- the claims of two sessions make up a third: row by row, in the totals and in the amount
pub record AddsUp (rate : ℕ) (first second all : List Row) : Type 0 where
  pub rows : all ≡ plus_rows first second
  pub total : totals all ≡ plus (totals first) (totals second)
  pub amount : amount_of rate (totals all) ≡ amount_of rate (totals first) + amount_of rate (totals second)
