-- A recording cut, and a session of two parts.
-- Assumes nothing.
use Prim.Native.Nat.{ℕ, suc, ◌≤◌}
use mathlib.Core.Path.{◌≡◌, sym, ap, subst, ◌∙◌}
use mathlib.Core.Bool.{true}
use mathlib.Core.List.{List, [], ◌∷◌, ◌++◌}
use native.Mathlib.Omega.{arith}
use native.Mathlib.Nat.{mul-le-mul_right, add-mul}
use lib.ListN.{take, drop, take-append-drop}
use Rattle.wire.proofs.Bytes.{Below}
use Rattle.device.specs.Record.{State, power_on}
use Rattle.drive.specs.Calls.{Call, power_up}
use Rattle.drive.specs.Effects.{effect}
use Rattle.drive.specs.After.{by_number, after}
use Rattle.drive.specs.Runs.{run_from}
use Rattle.drive.proofs.Effects.{restarts-power}
use Rattle.history.proofs.Runs.{run-size}
use Rattle.history.proofs.Cut.{restarted}
use Rattle.recording.specs.Files.{header, sound_file, calls_of, cut_after}
use Rattle.recording.proofs.Made.{cut-calls}
use Rattle.claim.specs.declared.Row.{Row}
use Rattle.claim.specs.Writes.{writes_from}
use Rattle.claim.specs.Rows.{row_for, rows_of, plus, plus_rows, totals}
use Rattle.claim.specs.Lines.{amount_of}
use Rattle.claim.specs.Files.{file_writes}
use Rattle.claim.specs.Claimable.{NoMore, AddsUp}
use Rattle.claim.proofs.Counting.{row-append, rows_append, length-rows}
use Rattle.claim.proofs.Sums.{totals-plus}
use Rattle.claim.proofs.Sessions.{writes-append}

-- ---- a recording cut

-- a row added to is no less
more-plus : (a b : Row) {c : Row} → c ≡ plus a b → NoMore a c
more-plus a b e =
    subst (NoMore a) (sym e) (record { encrypted = omega arith; external = omega arith; clear = omega arith; refused = omega arith })

-- The first calls of a session count no more than all of them, in any row and column; and so do the totals and the amount.
module _ (nexuses : ℕ) (s : State) (k : ℕ) (calls : List Call) where
  parts : writes_from s calls ≡ writes_from s (take k calls) ++ writes_from (run_from s (take k calls)) (drop k calls)
  parts = ap (writes_from s) (sym (take-append-drop k calls)) ∙ writes-append s (take k calls) (drop k calls)

  pub cut-row : (row : ℕ) → NoMore (row_for nexuses row (writes_from s (take k calls))) (row_for nexuses row (writes_from s calls))
  cut-row row = more-plus _ _ (ap (row_for nexuses row) parts ∙ row-append nexuses row (writes_from s (take k calls)) (writes_from (run_from s (take k calls)) (drop k calls)))

  pub cut-totals : NoMore (totals (rows_of nexuses (writes_from s (take k calls)))) (totals (rows_of nexuses (writes_from s calls)))
  cut-totals =
      let first = writes_from s (take k calls) in
      let later = writes_from (run_from s (take k calls)) (drop k calls) in
      more-plus _ _ (ap (λ w. totals (rows_of nexuses w)) parts ∙ ap totals (rows_append nexuses 0 (suc nexuses) first later) ∙ totals-plus (rows_of nexuses first) (rows_of nexuses later) (length-rows nexuses first ∙ sym (length-rows nexuses later)))

  pub cut-amount : (rate : ℕ) → amount_of rate (totals (rows_of nexuses (writes_from s (take k calls)))) ≤ amount_of rate (totals (rows_of nexuses (writes_from s calls)))
  cut-amount rate = mul-le-mul_right rate cut-totals.encrypted

-- So a recording cut after k events, its header put right, claims no more than the whole.
pub cut-claims : (nexuses places : ℕ) (file : List ℕ) → Below file → sound_file file ≡ true → (k : ℕ) → k ≤ (header file).event_count → (row : ℕ)
    → NoMore (row_for nexuses row (file_writes nexuses places (cut_after k file))) (row_for nexuses row (file_writes nexuses places file))
cut-claims nexuses places file bytes sound k h row =
    subst (λ c. NoMore (row_for nexuses row (writes_from (power_on nexuses places) c)) (row_for nexuses row (file_writes nexuses places file)))
    (sym (cut-calls file bytes sound k h)) (cut-row nexuses (power_on nexuses places) k (calls_of file) row)

-- ---- two parts

-- power-on gives the record of power-on, whatever was before
anew : (nexuses places : ℕ) (first : List Call) → after (run_from (power_on nexuses places) first) power_up ≡ power_on nexuses places
anew nexuses places first =
    let s = run_from (power_on nexuses places) first in
    restarted nexuses places by_number s (effect s power_up) (run-size first (power_on nexuses places)) (restarts-power s power_up)

-- A session whose second part starts with power-on claims what its parts claim, each by itself.
pub parts-add-up : (nexuses places rate : ℕ) (first later : List Call) → let start = power_on nexuses places in
    AddsUp rate (rows_of nexuses (writes_from start first)) (rows_of nexuses (writes_from start (power_up ∷ later))) (rows_of nexuses (writes_from start (first ++ power_up ∷ later)))
unfolding writes_from run_from
parts-add-up nexuses places rate first later =
    let start = power_on nexuses places in
    let a = writes_from start first in
    let b = writes_from start (power_up ∷ later) in
    let again : writes_from (run_from start first) (power_up ∷ later) ≡ b =
    ap (λ t. writes_from t later) (anew nexuses places first ∙ sym (anew nexuses places [])) in
    let rows : rows_of nexuses (writes_from start (first ++ power_up ∷ later)) ≡ plus_rows (rows_of nexuses a) (rows_of nexuses b) =
    ap (rows_of nexuses) (writes-append start first (power_up ∷ later) ∙ ap (λ w. a ++ w) again) ∙ rows_append nexuses 0 (suc nexuses) a b in
    let total = ap totals rows ∙ totals-plus (rows_of nexuses a) (rows_of nexuses b) (length-rows nexuses a ∙ sym (length-rows nexuses b)) in
    record {
      rows = rows;
      total = total;
      amount = ap (amount_of rate) total ∙ add-mul (totals (rows_of nexuses a)).encrypted (totals (rows_of nexuses b)).encrypted rate;
    }
