-- Every call and every answer: what a refusal leaves of the record, and what an answer carries.
-- Assumes nothing.
use Rattle.std.specs.Prelude.{ℕ, Option, Some, None}
use Prim.Native.Nat.{ℕ, ◌≤◌}
use mathlib.Core.Path.{◌≡◌, refl, sym, ap, subst, ◌∙◌}
use mathlib.Core.Bool.{false}
use mathlib.Core.List.{List}
use native.Mathlib.Omega.{arith}
use borrow.Author.Tests.{eqb-true, eq-eqb}
use lib.ListN.{length, get_or, set, length-set}
use lib.Seq.{set_out, get_or-set_same}
use Rattle.arrays.proofs.Laws.{get_d-set-by}
use Rattle.arrays.proofs.Base.{if-false, clash}
use Rattle.answer.specs.Answers.{row_of, number_of, faulty_byte_of, is_done, change_of}
use Rattle.answer.specs.declared.Answer.{Answer}
use Rattle.answer.specs.declared.Answer.TheVariants.{Done, NotWellFormed, NexusAbove, ChangedByAnotherNexus, ChangedByVendorEvent, ProtocolNotSupported, PageNotSupported, PageLengthWrong, FieldWrong, FifthSupplementalKey, NoPlaceForLocal, KeyInstanceChanged, ParametersNotUsable, PlaceAbove, BlockNotKnown, UnableToDecrypt, NotEncrypted, KeyIncorrect}
use Rattle.answer.specs.declared.Change.{Change}
use Rattle.device.specs.Record.{State, nexus_at, new_nexus}
use Rattle.device.specs.Updates.{with_nexuses}
use Rattle.device.specs.declared.Nexus.{Nexus}
use Rattle.marks.specs.Marks.{remarked, changed, changes, is_actor}
use Rattle.drive.specs.Calls.{Call, security_in, write, read, sender_of}
use Rattle.drive.specs.Checks.{answer}
use Rattle.drive.specs.Effects.{Effect, doing, refusal, effect_by}
use Rattle.drive.specs.After.{Telling, by_number, carried_out, changed_by, after}
use Rattle.drive.specs.declared.Decision.TheVariants.{Refused}
use Rattle.drive.specs.declared.ReadDecision.TheVariants.{Withheld}
use Rattle.drive.specs.Refusals.{changes_by, Remarked, OnlyMarks, row_at, Carries}
use Rattle.drive.proofs.Effects.{refusal-changes}

-- ---- the record

-- a refusal does what its row says, to its sender
refused-does : (rule : Telling) (s : State) (sender : Option ℕ) (change : Change) → carried_out rule s (refusal sender change) ≡ changes_by sender change s
unfolding carried_out changed_by
refused-does rule s None change = refl
refused-does rule s (Some n) change = refusal-changes rule s n change

-- A refused call makes of the record what the fourth column of its answer's row says of its sender's marks; without a sender, nothing.
pub refusals-change : (s : State) (call : Call) → is_done (answer s call) ≡ false → after s call ≡ changes_by (sender_of call) (change_of (answer s call)) s
unfolding effect_by
refusals-change s call f =
    ap (λ (e : Effect). carried_out by_number s e) (if-false (is_done (answer s call)) (doing s call) _ f)
    ∙ refused-does by_number s (sender_of call) (change_of (answer s call))

-- what that leaves, part by part
pub changes-marks : (sender : Option ℕ) (change : Change) (s : State) → OnlyMarks sender change s (changes_by sender change s)
unfolding changes
changes-marks None change s = record {
  counter = refl;
  sets = refl;
  count = refl;
  others = λ n o. refl;
  own = λ n t. clash t refl;
  nobody = λ e. refl;
  above = λ n t. clash t refl;
}
changes-marks (Some m) change s = record {
  counter = refl;
  sets = refl;
  count = length-set s.nexuses m _;
  others = λ n o.
      get_d-set-by (λ (x : Nexus). x ≡ nexus_at s n) s.nexuses m n _ new_nexus
      (λ q. clash (eq-eqb m n (sym q)) o) (λ q. clash (eq-eqb m n (sym q)) o) (λ q. refl);
  own = λ n t h. let q : m ≡ n = eqb-true m n t in
      subst (Remarked change (nexus_at s n))
      (sym
      (ap (λ (k : ℕ). get_or (set s.nexuses k (remarked (changed change) (nexus_at s k))) n new_nexus) q
      ∙ get_or-set_same s.nexuses n (remarked (changed change) (nexus_at s n)) new_nexus h))
      (record { scope = refl; lock = refl; saved = refl; last_local = refl; marks = refl });
  nobody = λ e. clash (eq-eqb m m refl) (ap (λ (a : Option ℕ). is_actor a m) e);
  above = λ n t h.
      ap (λ (l : List Nexus). with_nexuses l s)
      (set_out s.nexuses m _ (subst (λ (k : ℕ). length s.nexuses ≤ k) (sym (eqb-true m n t)) h));
}

-- A refused call leaves the counter, the sets, every nexus but its sender, and its sender's scope, lock and numbers as they were; its
-- sender's marks are changed as its answer's row says. Where the call has no sender, or no such nexus, the whole record is as it was.
pub refusals-keep : (s : State) (call : Call) → is_done (answer s call) ≡ false → OnlyMarks (sender_of call) (change_of (answer s call)) s (after s call)
refusals-keep s call f =
    subst (OnlyMarks (sender_of call) (change_of (answer s call)) s) (sym (refusals-change s call f))
    (changes-marks (sender_of call) (change_of (answer s call)) s)

-- ---- the answer

-- each stands in the table
in_table : (a : Answer) → (number_of a ≤ 17) × (row_of a ≡ row_at (faulty_byte_of a) (number_of a))
in_table Done = (omega arith, refl)
in_table NotWellFormed = (omega arith, refl)
in_table NexusAbove = (omega arith, refl)
in_table ChangedByAnotherNexus = (omega arith, refl)
in_table ChangedByVendorEvent = (omega arith, refl)
in_table ProtocolNotSupported = (omega arith, refl)
in_table PageNotSupported = (omega arith, refl)
in_table PageLengthWrong = (omega arith, refl)
in_table (FieldWrong byte) = (omega arith, refl)
in_table FifthSupplementalKey = (omega arith, refl)
in_table NoPlaceForLocal = (omega arith, refl)
in_table KeyInstanceChanged = (omega arith, refl)
in_table ParametersNotUsable = (omega arith, refl)
in_table PlaceAbove = (omega arith, refl)
in_table BlockNotKnown = (omega arith, refl)
in_table UnableToDecrypt = (omega arith, refl)
in_table NotEncrypted = (omega arith, refl)
in_table KeyIncorrect = (omega arith, refl)

-- Every call is answered with a number of the table, at most 17, with the sense and the change of that row. A refused IN tells length 0
-- and writes no byte; a refused write carries no decision, place 0 and index 0, a refused read no decision and place 0.
pub every-call-answers : (s : State) → Carries s
every-call-answers s = record {
  number = λ call. (in_table (answer s call)).0;
  row = λ call. (in_table (answer s call)).1;
  inward = λ command buffer f. let b = is_done (answer s (security_in command)) in (if-false b _ 0 f, if-false b _ buffer f);
  writing = λ n supported f. let b = is_done (answer s (write n supported)) in (if-false b _ Refused f, (if-false b _ 0 f, if-false b _ 0 f));
  reading = λ n block f. let b = is_done (answer s (read n block)) in (if-false b _ Withheld f, if-false b _ 0 f);
}
