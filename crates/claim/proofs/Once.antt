-- Every write is counted once, in its own nexus's row.
-- Assumes nothing.
use Prim.Native.Nat.{ℕ, ◌≤◌, ◌<◌, zero, suc, ◌+◌}
use mathlib.Core.Path.{◌≡◌, refl, sym, ap, ◌∙◌}
use mathlib.Core.Logic.{◌⊎◌, inl, inr, ⊎_elim}
use mathlib.Core.Bool.{Bool, true, false, ◌&&◌, and-false}
use mathlib.Core.List.{List, [], ◌∷◌}
use native.Mathlib.Omega.{arith}
use borrow.Author.Tests.{eqb-false, ne_eqb, ltb-true, ltb-false, lt-ltb, le-ltb}
use lib.Dec.{eqb, ltb}
use lib.ListN.{length, get_or}
use Rattle.arrays.specs.Base.{bit, Exactly}
use Rattle.arrays.proofs.Base.{cases, if-true, if-false}
use Rattle.arrays.proofs.Appending.{count-append}
use Rattle.device.specs.Record.{State, power_on}
use Rattle.device.specs.WellFormed.{well_formed}
use Rattle.places.proofs.Lengths.{power-nexuses}
use Rattle.drive.specs.Calls.{Call, power_up, security_in, security_out, write, read, unit_reset, happens}
use Rattle.drive.specs.After.{after}
use Rattle.drive.specs.Outcomes.{value_of, decision}
use Rattle.due.specs.Due.{becomes}
use Rattle.drive.specs.declared.Decision.{Decision}
use Rattle.drive.specs.declared.Decision.TheVariants.{Refused, Clear, External, Encrypted}
use Rattle.due.proofs.Due.{sent-due}
use Rattle.recording.specs.Entries.{entries}
use Rattle.recording.specs.Files.{event_bytes, page_bytes}
use Rattle.kept.proofs.Runs.{call-size}
use native.Mathlib.Nat.{not-suc-le-zero, le_of_suc-le-suc, zero-add}
use Rattle.claim.specs.Writes.{wrote, writes_from, Wrote}
use Rattle.claim.specs.Rows.{row_of_nexus, counts_as, counted, row_for, totals, writes_in, rows_from, rows_of, no_writes}
use Rattle.claim.specs.Files.{file_rows, write_events, file_writes}
use Rattle.claim.specs.Claimable.{RefusedAlone}
use Rattle.claim.proofs.Sums.{rows-sum}
use Rattle.claim.proofs.Sessions.{length-writes}

-- The sum of all rows is the number of write events, taken from the file's bytes: those whose kind is 3.
pub sum-is-events : (nexuses places : ℕ) (file : List ℕ) → writes_in (totals (file_rows nexuses places file)) ≡ write_events file
sum-is-events nexuses places file =
    rows-sum nexuses (file_writes nexuses places file) ∙ length-writes (power_on nexuses places) (page_bytes file) (entries (event_bytes file))

-- A write's row is its nexus's own, or the last one where its nexus is above the drive's.
pub own_row : (nexuses n k : ℕ) → Exactly (row_of_nexus nexuses n ≡ k) (((n < nexuses) × (n ≡ k)) ⊎ ((nexuses ≤ n) × (nexuses ≡ k)))
own_row nexuses n k = (
  λ e.
      cases (ltb n nexuses)
      (λ t. inl (ltb-true n nexuses t, sym (if-true (ltb n nexuses) n nexuses t) ∙ e))
      (λ f. inr (ltb-false n nexuses f, sym (if-false (ltb n nexuses) n nexuses f) ∙ e)),
  λ h.
      ⊎_elim
      (λ own. if-true (ltb n nexuses) n nexuses (lt-ltb n nexuses own.0) ∙ own.1)
      (λ above. if-false (ltb n nexuses) n nexuses (le-ltb n nexuses above.0) ∙ above.1)
      h,
)

-- Line k of the rows is row k: the counts of the writes whose row it is.
rows_at : (nexuses j rows k : ℕ) (writes : List Wrote) → k < rows → get_or (rows_from nexuses j rows writes) k no_writes ≡ row_for nexuses (j + k) writes
unfolding rows_from
rows_at nexuses j zero k writes h = absurd (not-suc-le-zero h)
rows_at nexuses j (suc rows) zero writes h = let e : j ≡ j + 0 = omega arith in ap (λ i. row_for nexuses i writes) e
rows_at nexuses j (suc rows) (suc k) writes h =
    let e : suc j + k ≡ j + suc k = omega arith in rows_at nexuses (suc j) rows k writes (le_of_suc-le-suc h) ∙ ap (λ i. row_for nexuses i writes) e

pub row_at : (nexuses k : ℕ) (writes : List Wrote) → k < suc nexuses → get_or (rows_of nexuses writes) k no_writes ≡ row_for nexuses k writes
row_at nexuses k writes h = rows_at nexuses 0 (suc nexuses) k writes h ∙ ap (λ i. row_for nexuses i writes) (zero-add k)

-- ---- the last row

-- a write of a nexus above the drive's is refused
above-refused : (s : State) (n : ℕ) (supported : Bool) → length s.nexuses ≤ n → becomes s n supported ≡ Refused
above-refused s n supported h =
    let due = sent-due s (write n supported) n (same n) in
    cases (well_formed s)
    (λ t. ap (decision s n) (due.above t h))
    (λ f. ap (decision s n) (due.unformed f))
  where
    same : (n : ℕ) → eqb n n ≡ true
    same n = cases (eqb n n) (λ t. t) (λ f. absurd (eqb-false n n f refl))

module _ (nexuses : ℕ) (d : Decision) (some : eqb (value_of Refused) (value_of d) ≡ false) where
  -- so it counts in no other column
  above-none : (s : State) → length s.nexuses ≡ nexuses → (n : ℕ) (supported : Bool) → counts_as nexuses nexuses d (record { nexus = n; decision = becomes s n supported }) ≡ false
  above-none s size n supported =
      cases (ltb n nexuses)
      (λ t.
      let own : row_of_nexus nexuses n ≡ n = if-true (ltb n nexuses) n nexuses t in
      let other : eqb (row_of_nexus nexuses n) nexuses ≡ false = ne_eqb (row_of_nexus nexuses n) nexuses (λ e. absurd (omega (arith, own, e, ltb-true n nexuses t))) in
      ap (λ b. b && eqb (value_of (becomes s n supported)) (value_of d)) other)
      (λ f.
      let refused = above-refused s n supported (omega (arith, size, ltb-false n nexuses f)) in
      ap (λ x. eqb (row_of_nexus nexuses n) nexuses && eqb (value_of x) (value_of d)) refused ∙ ap (λ b. eqb (row_of_nexus nexuses n) nexuses && b) some ∙ and-false (eqb (row_of_nexus nexuses n) nexuses))

  call_none : (s : State) → length s.nexuses ≡ nexuses → (call : Call) → counted nexuses nexuses d (wrote s call) ≡ 0
  call_none s size power_up = refl
  call_none s size (security_in command) = refl
  call_none s size (security_out command page) = refl
  call_none s size (write n supported) = let e = ap bit (above-none s size n supported) in omega (arith, e)
  call_none s size (read n block) = refl
  call_none s size unit_reset = refl
  call_none s size (happens event) = refl

  last_none : (s : State) → length s.nexuses ≡ nexuses → (calls : List Call) → counted nexuses nexuses d (writes_from s calls) ≡ 0
  unfolding writes_from
  last_none s size [] = refl
  last_none s size (call ∷ later) =
      omega (arith, count-append (counts_as nexuses nexuses d) (wrote s call) (writes_from (after s call) later), call_none s size call, last_none (after s call) ((call-size s call).nexuses ∙ size) later)

-- The last row, of the nexuses above the drive's, has refused writes alone.
pub last_row : (nexuses : ℕ) (s : State) → length s.nexuses ≡ nexuses → (calls : List Call) → RefusedAlone (row_for nexuses nexuses (writes_from s calls))
unfolding row_for
last_row nexuses s size calls = record {
  encrypted = last_none nexuses Encrypted refl s size calls;
  external = last_none nexuses External refl s size calls;
  clear = last_none nexuses Clear refl s size calls;
}

-- and so in every file
pub last-row-of : (nexuses places : ℕ) (file : List ℕ) → RefusedAlone (row_for nexuses nexuses (file_writes nexuses places file))
last-row-of nexuses places file = last_row nexuses (power_on nexuses places) (power-nexuses nexuses places) _
