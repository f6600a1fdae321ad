-- A write is counted as encrypted exactly if the drive, at that point of the session, answered it 0 with decision encrypted.
-- Assumes nothing.
use Prim.Native.Nat.{ℕ, ◌+◌, ◌*◌, ◌≤◌, ◌<◌, ◌^◌}
use mathlib.Core.Path.{◌≡◌, refl, sym, ap, ◌∙◌}
use mathlib.Core.Bool.{Bool, true, false, and-false}
use mathlib.Core.List.{List, ◌∷◌, ◌++◌}
use native.Mathlib.Nat.{mul-lt-mul_of_pos_left}
use native.Mathlib.Omega.{arith}
use borrow.Author.Tests.{eqb-true, eqb-false, eq-eqb, lt-leb}
use lib.Dec.{eqb}
use lib.ListN.{length, length-append}
use Rattle.arrays.specs.Base.{bit, Exactly}
use Rattle.arrays.proofs.Base.{cases, clash, both, and_both, if-false}
use Rattle.arrays.proofs.Appending.{count-append, count-cons}
use Rattle.answer.specs.Answers.{number_of, is_done}
use Rattle.answer.specs.declared.Answer.TheVariants.{Done}
use Rattle.parameters.specs.Codes.{encrypt}
use Rattle.device.specs.Record.{State, nexus_at, power_on}
use Rattle.device.specs.Selecting.{selected_set}
use Rattle.device.specs.WellFormed.{well_formed}
use Rattle.places.proofs.Lengths.{power-nexuses}
use Rattle.drive.specs.Calls.{Call, write}
use Rattle.drive.specs.Checks.{answer}
use Rattle.drive.specs.After.{after}
use Rattle.drive.specs.Runs.{run_from, run}
use Rattle.drive.specs.Outcomes.{value_of}
use Rattle.due.specs.Due.{Heard, mode_of, Passes, becomes}
use Rattle.drive.specs.declared.Decision.{Decision}
use Rattle.drive.specs.declared.Decision.TheVariants.{Refused, Clear, External, Encrypted}
use Rattle.due.proofs.Due.{write-due, write-becomes}
use Rattle.kept.proofs.Runs.{since-power-on}
use Rattle.history.specs.History.{is_heard, is_stopped, drew}
use Rattle.history.proofs.Demand.{demand3, demand3-shown}
use Rattle.history.proofs.Runs.{run-size}
use Rattle.history.proofs.Draws.{draws-few}
use Rattle.wire.proofs.Bytes.{Below}
use Rattle.recording.specs.Files.{sound_file, event_bytes, page_bytes, calls_of}
use Rattle.recording.proofs.Entries.{length-calls}
use Rattle.recording.proofs.Files.{sound-header, length-events}
use Rattle.claim.specs.Files.{file_writes}
use Rattle.claim.specs.Writes.{Wrote, writes_from}
use Rattle.claim.specs.Rows.{row_of_nexus, counts_as, counted, row_for}
use Rattle.claim.specs.Claimable.{Claimable}
use Rattle.claim.proofs.Sessions.{writes-append}

-- ---- a write among the calls of a session

-- what is counted of it: what becomes of the block in the record that the calls before it left
abbrev pub written : State → (before : List Call) → ℕ → Bool → Wrote
written s before n supported = record { nexus = n; decision = becomes (run_from s before) n supported }

-- Each count is that of the writes before, of this one, and of those after it.
pub counted-at : (nexuses k : ℕ) (d : Decision) (s : State) (before : List Call) (n : ℕ) (supported : Bool) (later : List Call) → let t = run_from s before in
    counted nexuses k d (writes_from s (before ++ write n supported ∷ later))
    ≡ counted nexuses k d (writes_from s before) + (bit (counts_as nexuses k d (written s before n supported)) + counted nexuses k d (writes_from (after t (write n supported)) later))
unfolding writes_from
counted-at nexuses k d s before n supported later =
    let t = run_from s before in
    let p = counts_as nexuses k d in
    let w = written s before n supported in
    let rest = writes_from (after t (write n supported)) later in
    ap (counted nexuses k d) (writes-append s before (write n supported ∷ later)) ∙ omega (arith, count-append p (writes_from s before) (w ∷ rest), count-cons p w rest)

-- So of every file: row by row and column by column.
pub counted-in-file : (nexuses places : ℕ) (file : List ℕ) (before : List Call) (n : ℕ) (supported : Bool) (later : List Call) → calls_of file ≡ before ++ write n supported ∷ later
    → (k : ℕ) (d : Decision) → let start = power_on nexuses places in
    counted nexuses k d (file_writes nexuses places file)
    ≡ counted nexuses k d (writes_from start before) + (bit (counts_as nexuses k d (written start before n supported)) + counted nexuses k d (writes_from (after (run_from start before) (write n supported)) later))
counted-in-file nexuses places file before n supported later parts k d =
    ap (λ calls. counted nexuses k d (writes_from (power_on nexuses places) calls)) parts ∙ counted-at nexuses k d (power_on nexuses places) before n supported later

-- ---- when it is counted as encrypted

-- checks 1 to 4 pass
heard-is : (s : State) (n : ℕ) → Heard s n → is_heard s n ≡ true
heard-is s n h = simp (h.known.formed, lt-leb _ _ h.known.within, h.another, h.vendor)

-- 0 isn't 11
not_stopped : (s : State) (n : ℕ) (supported : Bool) → answer s (write n supported) ≡ Done → is_stopped s n supported ≡ false
not_stopped s n supported e = ap (λ a. eqb (number_of a) 11) e

module _ (nexuses places : ℕ) (some : 0 < places) (any : 0 < nexuses) (before : List Call) (fits : drew nexuses places before < 2 ^ 32) (n : ℕ) (supported : Bool) where
  abbrev here : State
  here = run nexuses places before

  formed : well_formed here ≡ true
  formed = since-power-on nexuses places any some before

  sized : length here.nexuses ≡ nexuses
  sized = (run-size before (power_on nexuses places)).nexuses ∙ power-nexuses nexuses places

  claimable : Passes here n supported encrypt → Claimable nexuses places before n supported
  claimable p =
      let h = p.heard in
      let within : n < nexuses = omega (arith, h.known.within, sized) in
      let done = (write-due here n supported).done h p.held (λ m. p.usable refl) in
      record {
        within = within;
        another = h.another;
        vendor = h.vendor;
        mode = p.under;
        volume = p.usable refl;
        untouched = λ locked x. sym (demand3-shown nexuses places some before fits n within supported (heard-is here n h) locked x) ∙ not_stopped here n supported done;
      }

  passes : Claimable nexuses places before n supported → Passes here n supported encrypt
  passes c =
      let h : Heard here n = record { known = record { formed = formed; within = omega (arith, c.within, sized) }; another = c.another; vendor = c.vendor } in
      record {
        heard = h;
        held = λ locked.
            cases (eqb (nexus_at here n).saved (selected_set here n).number)
            (eqb-true _ _)
            (λ f.
            let stopped : is_stopped here n supported ≡ true = ap (λ a. eqb (number_of a) 11) ((write-due here n supported).changed h locked (eqb-false _ _ f)) in
            let r = demand3 nexuses places some before fits n c.within supported (heard-is here n h) locked in
            clash stopped (r.1 ∙ c.untouched locked r.0));
        under = c.mode;
        usable = λ e. c.volume;
      }

  -- After any calls since power-on: what becomes of a write is Encrypted, the one decision that counts in that column, exactly if it may be
  -- claimed.
  pub encrypted-exactly : Exactly (becomes here n supported ≡ Encrypted) (Claimable nexuses places before n supported)
  encrypted-exactly =
      let e = (write-becomes here n supported).as_encrypted in
      (λ t. claimable (e.0 t), λ c. e.1 (passes c))

-- the value of Encrypted is its own
is-encrypted : (d : Decision) → eqb (value_of d) (value_of Encrypted) ≡ true → d ≡ Encrypted
is-encrypted Refused t = clash t refl
is-encrypted Clear t = clash t refl
is-encrypted External t = clash t refl
is-encrypted Encrypted t = refl

-- no more than 65,535 events stand in a file of bytes
calls-most : (file : List ℕ) → Below file → sound_file file ≡ true → length (calls_of file) < 65536
calls-most file bytes sound =
    let many = length-calls (page_bytes file) (event_bytes file) in
    omega (arith, many, length-events file (sound-header file sound), bytes 0, bytes 1)

-- Of every sound file, on a drive of any size: a write event counts in row k as encrypted exactly if that is its nexus's row and it may be
-- claimed at that point of the session.
pub claimed-exactly : (nexuses places : ℕ) → 0 < places → 0 < nexuses → (places + 2) * 65536 ≤ 2 ^ 32 → (file : List ℕ) → Below file → sound_file file ≡ true
    → (before later : List Call) (n : ℕ) (supported : Bool) → calls_of file ≡ before ++ write n supported ∷ later
    → (k : ℕ) → Exactly (counts_as nexuses k Encrypted (written (power_on nexuses places) before n supported) ≡ true) ((row_of_nexus nexuses n ≡ k) × Claimable nexuses places before n supported)
claimed-exactly nexuses places some any wide file bytes sound before later n supported parts k =
    let long : length before < 65536 = omega (arith, ap length parts ∙ length-append before (write n supported ∷ later), calls-most file bytes sound) in
    let few : (places + 2) * length before < (places + 2) * 65536 = mul-lt-mul_of_pos_left long (omega arith) in
    let fits : drew nexuses places before < 2 ^ 32 = omega (arith, draws-few nexuses places before, few, wide) in
    let e = encrypted-exactly nexuses places some any before fits n supported in (
      λ t.
          let h = and_both (eqb (row_of_nexus nexuses n) k) _ t in
          (eqb-true (row_of_nexus nexuses n) k h.0, e.0 (is-encrypted _ h.1)),
      λ c. both (eqb (row_of_nexus nexuses n) k) _ (eq-eqb _ _ c.0) (ap (λ d. eqb (value_of d) (value_of Encrypted)) (e.1 c.1)),
    )

-- ---- the fault that was repaid

-- a decision other than Encrypted counts in no row of that column
other-column : (nexuses k n : ℕ) (d : Decision) → (d ≡ Encrypted → ⊥) → counts_as nexuses k Encrypted (record { nexus = n; decision = d }) ≡ false
other-column nexuses k n Refused f = and-false (eqb (row_of_nexus nexuses n) k)
other-column nexuses k n Clear f = and-false (eqb (row_of_nexus nexuses n) k)
other-column nexuses k n External f = and-false (eqb (row_of_nexus nexuses n) k)
other-column nexuses k n Encrypted f = absurd (f refl)

-- A write under a set whose mode isn't ENCRYPT counts in no row as encrypted, from whatever record, and whatever its answer: EXTERNAL and
-- clear are never claimed.
pub never-claimed : (nexuses k : ℕ) (s : State) (before : List Call) (n : ℕ) (supported : Bool) (later : List Call) → (mode_of (run_from s before) n ≡ encrypt → ⊥)
    → (row_for nexuses k (writes_from s (before ++ write n supported ∷ later))).encrypted
    ≡ (row_for nexuses k (writes_from s before)).encrypted + (row_for nexuses k (writes_from (after (run_from s before) (write n supported)) later)).encrypted
unfolding row_for
never-claimed nexuses k s before n supported later other =
    let t = run_from s before in
    let none = ap bit (other-column nexuses k n (becomes t n supported) (λ e. other ((write-becomes t n supported).as_encrypted.0 e).under)) in
    counted-at nexuses k Encrypted s before n supported later ∙ omega (arith, none)

-- Nor is a write that is answered with another number than 0, whatever the mode of its set.
pub refused-never-claimed : (nexuses k : ℕ) (s : State) (before : List Call) (n : ℕ) (supported : Bool) (later : List Call)
    → is_done (answer (run_from s before) (write n supported)) ≡ false
    → (row_for nexuses k (writes_from s (before ++ write n supported ∷ later))).encrypted
    ≡ (row_for nexuses k (writes_from s before)).encrypted + (row_for nexuses k (writes_from (after (run_from s before) (write n supported)) later)).encrypted
unfolding row_for
refused-never-claimed nexuses k s before n supported later f =
    let t = run_from s before in
    let refused : becomes t n supported ≡ Refused = if-false (is_done (answer t (write n supported))) _ _ f in
    let none = ap (λ d. bit (counts_as nexuses k Encrypted (record { nexus = n; decision = d }))) refused ∙ ap bit (and-false (eqb (row_of_nexus nexuses n) k)) in
    counted-at nexuses k Encrypted s before n supported later ∙ omega (arith, none)
