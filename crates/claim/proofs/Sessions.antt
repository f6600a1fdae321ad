-- The writes of a session.
-- Assumes nothing.
use Prim.Native.Nat.{ℕ, suc, ◌≤◌}
use mathlib.Core.Path.{◌≡◌, refl, sym, ap, ◌∙◌}
use mathlib.Core.Bool.{true}
use mathlib.Core.List.{List, [], ◌∷◌, ◌++◌, map, append_assoc, append-nil}
use native.Mathlib.Omega.{arith}
use borrow.Author.Tests.{eqb-true}
use lib.Dec.{eqb}
use lib.ListN.{length, length-append}
use Rattle.arrays.specs.Base.{bit}
use Rattle.arrays.specs.Arrays.{count}
use Rattle.arrays.proofs.Base.{if-elim}
use Rattle.arrays.proofs.Appending.{count-cons}
use Rattle.device.specs.Record.{State}
use Rattle.drive.specs.Calls.{Call, power_up, security_in, security_out, write, read, unit_reset, happens}
use Rattle.drive.specs.After.{after}
use Rattle.drive.specs.Runs.{run_from}
use Rattle.calls.specs.Kinds.{in_kind, out_kind, write_kind, unit_reset_kind, read_kind, is_event}
use Rattle.calls.specs.Asking.{call_of, asked_of}
use Rattle.calls.specs.declared.Asked.{Asked}
use Rattle.recording.specs.Entries.{event_page, call}
use Rattle.recording.specs.declared.Entry.{Entry}
use Rattle.session.specs.Folds.{fold_calls}
use Rattle.claim.specs.declared.Row.{Row}
use Rattle.claim.specs.Writes.{Wrote, wrote, writes_from}
use Rattle.claim.specs.Rows.{rows_of}
use Rattle.claim.specs.Making.{noted_each}
use Rattle.claim.specs.Files.{is_write_event}
use Rattle.claim.proofs.Counting.{noted-rows}

-- ---- one after another

-- calls after calls
pub writes-append : (s : State) (first later : List Call) → writes_from s (first ++ later) ≡ writes_from s first ++ writes_from (run_from s first) later
unfolding writes_from run_from
writes-append s [] later = refl
writes-append s (call ∷ first) later =
    ap (λ l. wrote s call ++ l) (writes-append (after s call) first later)
    ∙ sym (append_assoc (wrote s call) (writes_from (after s call) first) (writes_from (run_from (after s call) first) later))

-- a call is one write at most
one-few : (s : State) (call : Call) → length (wrote s call) ≤ 1
one-few s power_up = omega arith
one-few s (security_in command) = omega arith
one-few s (security_out command page) = omega arith
one-few s (write n supported) = omega arith
one-few s (read n block) = omega arith
one-few s unit_reset = omega arith
one-few s (happens event) = omega arith

-- what a loop over calls adds to its rows
abbrev pub notes : (nexuses i : ℕ) → State → Call → List Row → List Row
notes nexuses i s call = noted_each nexuses (wrote s call)

pub noted-each : (nexuses : ℕ) (writes more : List Wrote) → noted_each nexuses more (rows_of nexuses writes) ≡ rows_of nexuses (writes ++ more)
unfolding noted_each
noted-each nexuses writes [] = ap (rows_of nexuses) (sym (append-nil writes))
noted-each nexuses writes (w ∷ more) =
    ap (noted_each nexuses more) (noted-rows nexuses writes w)
    ∙ noted-each nexuses (writes ++ w ∷ []) more
    ∙ ap (rows_of nexuses) (append_assoc writes (w ∷ []) more)

-- all of them are the rows of the session's writes
notes-from : (nexuses i : ℕ) (s : State) (calls : List Call) (writes : List Wrote) → fold_calls (notes nexuses) i s calls (rows_of nexuses writes) ≡ rows_of nexuses (writes ++ writes_from s calls)
unfolding fold_calls writes_from
notes-from nexuses i s [] writes = ap (rows_of nexuses) (sym (append-nil writes))
notes-from nexuses i s (call ∷ later) writes =
    ap (fold_calls (notes nexuses) (suc i) (after s call) later) (noted-each nexuses writes (wrote s call))
    ∙ notes-from nexuses (suc i) (after s call) later (writes ++ wrote s call)
    ∙ ap (rows_of nexuses) (append_assoc writes (wrote s call) (writes_from (after s call) later))

pub notes-rows : (nexuses : ℕ) (s : State) (calls : List Call) → fold_calls (notes nexuses) 0 s calls (rows_of nexuses []) ≡ rows_of nexuses (writes_from s calls)
notes-rows nexuses s calls = notes-from nexuses 0 s calls []

-- no more writes than calls
pub writes-few : (s : State) (calls : List Call) → length (writes_from s calls) ≤ length calls
unfolding writes_from
writes-few s [] = omega arith
writes-few s (call ∷ later) = omega (arith, length-append (wrote s call) (writes_from (after s call) later), one-few s call, writes-few (after s call) later)

-- ---- the write events of a file

-- an event of kind 3 is one write, and any other is none
one-write : (s : State) (pages : List ℕ) (e : Entry) → length (wrote s (call pages e)) ≡ bit (is_write_event e)
unfolding call asked_of
one-write s pages e =
    let kind = e.kind in
    let Counts : Asked → Type 0 = λ asked. length (wrote s (call_of asked (event_page pages e))) ≡ bit (is_write_event e) in
    let told : (k : ℕ) → eqb kind k ≡ true → bit (eqb kind write_kind) ≡ bit (eqb k write_kind) = λ k t. ap (λ x. bit (eqb x write_kind)) (eqb-true kind k t) in
    if-elim Counts (eqb kind in_kind) (λ t. sym (told in_kind t))
    (λ a.
    if-elim Counts (eqb kind out_kind) (λ t. sym (told out_kind t))
    (λ b.
    if-elim Counts (eqb kind write_kind) (λ t. sym (told write_kind t))
    (λ c.
    let none : bit (eqb kind write_kind) ≡ 0 = ap bit c in
    if-elim Counts (eqb kind unit_reset_kind) (λ t. sym none)
    (λ d.
    if-elim Counts (is_event kind) (λ t. sym none)
    (λ f. if-elim Counts (eqb kind read_kind) (λ t. sym none) (λ g. sym none))))))

pub length-writes : (s : State) (pages : List ℕ) (events : List Entry) → length (writes_from s (map (call pages) events)) ≡ count (λ i. is_write_event) events
unfolding writes_from
length-writes s pages [] = refl
length-writes s pages (e ∷ more) =
    let here = wrote s (call pages e) in
    let later = writes_from (after s (call pages e)) (map (call pages) more) in
    omega (arith, length-append here later, one-write s pages e, length-writes (after s (call pages e)) pages more, count-cons is_write_event e more)
