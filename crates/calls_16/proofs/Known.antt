-- Any call, where check 1 was made before.
-- Assumes nothing.
use Rattle.std.specs.Prelude.{Some}
use mathlib.Core.Path.{◌≡◌, refl, sym, ap, ap₂, ◌∙◌}
use mathlib.Core.Bool.{Bool, true, false, ◌||◌}
use mathlib.Core.List.{List}
use Prim.Native.Nat.{ℕ}
use lib.ListN.{length}
use Rattle.arrays.proofs.Base.{if-true, if-false}
use Rattle.answer.specs.declared.Answer.{Answer}
use Rattle.answer.specs.declared.Answer.TheVariants.{NotWellFormed}
use Rattle.device.specs.Record.{State, power_on}
use Rattle.device.specs.Words.{Worded, with_words, keeping}
use Rattle.marks.specs.Marks.{changes}
use Rattle.sizes_16.specs.Sizes.{nexus_count, place_count}
use Rattle.drive.specs.declared.Command.{Command}
use Rattle.drive.specs.declared.Block.{Block}
use Rattle.drive.specs.Calls.{Call, power_up, sender_of, is_power_up}
use Rattle.drive.specs.Checks.{checks, known_answer, answer_where}
use Rattle.drive.specs.Effects.{doing, effect_by}
use Rattle.drive.specs.After.{by_number, changed_by, carried_out}
use Rattle.drive.specs.Records.{held_after}
use Rattle.drive.proofs.Records.{held-marks}
use Rattle.drive_16.specs.declared.Outcome.{Outcome}
use Rattle.drive_16.specs.Outcomes.{outcome_with, powered_on, outcome_by, known_outcome, unchanged}
use Rattle.calls.specs.Asking.{call_of, is_power_on}
use Rattle.calls_16.specs.Sights.{sighted, marked_by}
use Rattle.calls_16.specs.declared.Sight.{Sight}
use Rattle.calls.specs.Quiet.{sender_number, quietly}
use Rattle.calls.proofs.Quietly.{is-power, quiet_of, Remarks, in-found, write-found, read_found}
use Rattle.calls.specs.declared.Asked.{Asked}
use Rattle.calls.specs.declared.Quiet.{Quiet}
use Rattle.calls.specs.declared.Asked.TheVariants.{PowerOn, In, Out, Write, Read, UnitReset, Happen}

-- power-on, of a record of this model's sizes
pub power-known : (r : Worded) → length r.state.nexuses ≡ nexus_count → length r.state.sets ≡ place_count → powered_on ≡ known_outcome r power_up
unfolding outcome_by known_answer checks effect_by changed_by held_after
power-known r nexuses places =
    let same : power_on nexus_count place_count ≡ power_on (length r.state.nexuses) (length r.state.sets) = rw (nexuses, places) refl in
    ap (λ (x : State). outcome_with (with_words x) powered_on.answer) same

-- what the code finds of a call, by its sender and the set that it uses
pub quiet-found : (formed : Bool) (s : State) (asked : Asked) → length s.nexuses ≡ nexus_count → {n : ℕ} {sight : Sight} {q : Quiet} → n ≡ sender_number asked → sight ≡ sighted s n
    → q ≡ quietly formed nexus_count sight.nexus sight.set asked → q ≡ quiet_of formed s asked
quiet-found formed s asked size {sight = sight} e f h =
    let seen : sight ≡ sighted s (sender_number asked) = f ∙ ap (sighted s) e in
    h ∙ ap (λ (x : Sight). quietly formed nexus_count x.nexus x.set asked) seen
    ∙ ap (λ (k : ℕ). quietly formed k (sighted s (sender_number asked)).nexus (sighted s (sender_number asked)).set asked) (sym size)

-- IN, a write and a read
module _ (r : Worded) where
  remarked : {n : ℕ} {call : Call} {q : Quiet} → sender_of call ≡ Some n → keeping r.words (carried_out by_number r.state (doing r.state call)) ≡ held_after r (doing r.state call)
      → Remarks by_number r.state n call q → outcome_with (keeping r.words (changes r.state n q.change)) q.answer ≡ known_outcome r call
  unfolding outcome_by
  remarked {n} {call} e d m =
      ap₂ (λ (x : State) (a : Answer). outcome_with (keeping r.words x) a) m.changed m.answered
      ∙ ap (λ (t : Worded). outcome_with t (known_answer r.state call)) (held-marks r call n e d (known_answer r.state call))

  pub in-known : (command : Command) (page : List ℕ) → marked_by r (In command) ≡ known_outcome r (call_of (In command) page)
  unfolding held_after carried_out
  in-known command page = remarked refl refl (in-found by_number true r.state command)

  pub write_known : (n : ℕ) (supported : Bool) (page : List ℕ) → marked_by r (Write n supported) ≡ known_outcome r (call_of (Write n supported) page)
  unfolding held_after carried_out changed_by
  write_known n supported page = remarked refl refl (write-found by_number true r.state n supported)

  pub read_known : (n : ℕ) (block : Block) (page : List ℕ) → marked_by r (Read n block) ≡ known_outcome r (call_of (Read n block) page)
  unfolding held_after carried_out changed_by
  read_known n block page = remarked refl refl (read_found by_number true r.state n block)

module _ (formed : Bool) (r : Worded) (asked : Asked) (page : List ℕ) where
  pub where-known : (formed || is_power_on asked) ≡ true → known_answer r.state (call_of asked page) ≡ answer_where formed r.state (call_of asked page)
  unfolding answer_where
  where-known t = sym (if-true (formed || is_power_up (call_of asked page)) _ _ (ap (λ (b : Bool). formed || b) (is-power asked page) ∙ t))

  where-unformed : (formed || is_power_on asked) ≡ false → NotWellFormed ≡ answer_where formed r.state (call_of asked page)
  unfolding answer_where
  where-unformed f = sym (if-false (formed || is_power_up (call_of asked page)) _ _ (ap (λ (b : Bool). formed || b) (is-power asked page) ∙ f))

  -- answer 1 leaves the record
  unformed-kept : (x : Asked) → unchanged r NotWellFormed ≡ outcome_by r (call_of x page) NotWellFormed
  unfolding outcome_by effect_by held_after
  unformed-kept PowerOn = refl
  unformed-kept (In command) = refl
  unformed-kept (Out command) = refl
  unformed-kept (Write n supported) = refl
  unformed-kept (Read n block) = refl
  unformed-kept UnitReset = refl
  unformed-kept (Happen event) = refl

  pub perform-unformed : (formed || is_power_on asked) ≡ false → unchanged r NotWellFormed ≡ outcome_by r (call_of asked page) (answer_where formed r.state (call_of asked page))
  perform-unformed f = unformed-kept asked ∙ ap (outcome_by r (call_of asked page)) (where-unformed f)

  -- one that check 1 lets pass, whichever it is
  pub performed : {known : Asked} {o : Outcome} → (formed || is_power_on asked) ≡ true → asked ≡ known → o ≡ known_outcome r (call_of known page)
      → o ≡ outcome_by r (call_of asked page) (answer_where formed r.state (call_of asked page))
  performed t e h = h ∙ ap (λ (x : Asked). known_outcome r (call_of x page)) (sym e) ∙ ap (outcome_by r (call_of asked page)) (where-known t)

  -- an IN, a write or a read
  pub marked_performed : {known : Asked} {o : Outcome} → (formed || is_power_on asked) ≡ true → asked ≡ known → marked_by r known ≡ known_outcome r (call_of known page) → o ≡ marked_by r asked
      → o ≡ outcome_by r (call_of asked page) (answer_where formed r.state (call_of asked page))
  marked_performed t e m h = performed t e (h ∙ ap (marked_by r) e ∙ m)
