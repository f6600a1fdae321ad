-- A quiet call is answered as the drive answers it, and leaves the record as it is.
-- Assumes nothing.
use Rattle.std.specs.Prelude.{Some}
use Prim.Native.Nat.{ℕ}
use mathlib.Core.Path.{◌≡◌, refl, sym, ap, ◌∙◌}
use mathlib.Core.Bool.{Bool, true, false, ◌||◌}
use mathlib.Core.List.{List}
use lib.ListN.{length}
use Rattle.arrays.specs.Base.{when◌then◌else◌}
use Rattle.arrays.proofs.Base.{cases, clash}
use Rattle.answer.specs.Answers.{change_of, is_done}
use Rattle.answer.specs.declared.Answer.{Answer}
use Rattle.answer.specs.declared.Change.{Change}
use Rattle.answer.specs.declared.Change.TheVariants.{Unchanged, Registered}
use Rattle.device.specs.Record.{State, nexus_at}
use Rattle.device.specs.Selecting.{selected_set}
use Rattle.marks.specs.Marks.{keeps_marks, changes}
use Rattle.marks.proofs.Changes.{unchanged, changes-left}
use Rattle.drive.specs.declared.Command.{Command}
use Rattle.drive.specs.declared.Block.{Block}
use Rattle.drive.specs.Calls.{Call, security_in, write, read, sender_of, is_power_up}
use Rattle.drive.specs.Checks.{checks, known_answer, answer_where}
use Rattle.drive.specs.Effects.{nothing, marks, doing, refusal, effect_by}
use Rattle.drive.specs.After.{Telling, changed_by, carried_out}
use Rattle.drive.proofs.Effects.{refusal-changes}
use Rattle.calls.specs.declared.Asked.{Asked}
use Rattle.calls.specs.declared.Asked.TheVariants.{PowerOn, In, Out, Write, Read, UnitReset, Happen}
use Rattle.calls.specs.declared.Quiet.{Quiet}
use Rattle.calls.specs.Asking.{call_of, is_power_on}
use Rattle.calls.specs.Quiet.{sender_number, change_by, quietly}

-- power-on is the call that takes no record
pub is-power : (asked : Asked) (page : List ℕ) → is_power_up (call_of asked page) ≡ is_power_on asked
is-power PowerOn page = refl
is-power (In command) page = refl
is-power (Out command) page = refl
is-power (Write n supported) page = refl
is-power (Read n block) page = refl
is-power UnitReset page = refl
is-power (Happen event) page = refl

-- what is found of a call by its sender and the set that it uses
abbrev pub quiet_of : (formed : Bool) → State → Asked → Quiet
quiet_of formed s asked = quietly formed (length s.nexuses) (nexus_at s (sender_number asked)) (selected_set s (sender_number asked)) asked

-- what a call that changes its sender's marks alone is answered and makes of the record
pub record Remarks (rule : Telling) (s : State) (n : ℕ) (call : Call) (q : Quiet) : Type 0 where
  pub answered : q.answer ≡ known_answer s call
  pub changed : changes s n q.change ≡ carried_out rule s (effect_by s call (known_answer s call))

-- it is so: the call's answer is this one, the record stays, and the call isn't power-on
pub record Still (rule : Telling) (formed : Bool) (s : State) (call : Call) (a : Answer) : Type 0 where
  pub answered : answer_where formed s call ≡ a
  pub stays : carried_out rule s (effect_by s call (answer_where formed s call)) ≡ s
  pub running : is_power_up call ≡ false

-- neither is power-on
or-none : {A : Type 0} (b : Bool) (x y : A) → when b || false then x else y ≡ when b then x else y
or-none true x y = refl
or-none false x y = refl

-- a call that changes at most the marks of its sender, where that is what it does when it is carried out
pub record Marking (rule : Telling) (s : State) (call : Call) (n : ℕ) (change : Change) : Type 0 where
  pub sender : sender_of call ≡ Some n
  pub done : carried_out rule s (doing s call) ≡ changes s n change
  pub running : is_power_up call ≡ false

module _ (rule : Telling) (formed : Bool) (s : State) where
  marked : (call : Call) (n : ℕ) (change : Change) → Marking rule s call n change → (a : Answer) → carried_out rule s (effect_by s call a) ≡ changes s n (change_by change a)
  unfolding effect_by
  marked call n change m a =
      cases (is_done a)
      (λ t. rw t m.done)
      (λ f. rw f (ap (λ x. carried_out rule s (refusal x (change_of a))) m.sender ∙ refusal-changes rule s n (change_of a)))

  still-by : (call : Call) (n : ℕ) (change : Change) → Marking rule s call n change → (a : Answer) → answer_where formed s call ≡ a → keeps_marks (nexus_at s n).marks (change_by change a) ≡ true → Still rule formed s call a
  still-by call n change m a w e = record {
    answered = w;
    stays = ap (λ (x : Answer). carried_out rule s (effect_by s call x)) w ∙ marked call n change m a ∙ changes-left s n (change_by change a) e;
    running = m.running;
  }

  in-marks : (call : Call) (n : ℕ) → sender_of call ≡ Some n → doing s call ≡ marks n Registered → is_power_up call ≡ false → Marking rule s call n Registered
  unfolding carried_out changed_by
  in-marks call n e d u = record { sender = e; done = ap (carried_out rule s) d; running = u }

  block-marks : (call : Call) (n : ℕ) → sender_of call ≡ Some n → doing s call ≡ nothing → is_power_up call ≡ false → Marking rule s call n Unchanged
  unfolding carried_out changed_by
  block-marks call n e d u = record { sender = e; done = ap (carried_out rule s) d ∙ sym (unchanged s n); running = u }

  pub quiet-still : (asked : Asked) (page : List ℕ) → (quiet_of formed s asked).quiet ≡ true → Still rule formed s (call_of asked page) (quiet_of formed s asked).answer
  unfolding quietly answer_where known_answer checks
  quiet-still PowerOn page e = clash e refl
  quiet-still (In command) page e =
      still-by (security_in command) command.nexus Registered (in-marks (security_in command) command.nexus refl refl refl) _ (or-none formed _ _) e
  quiet-still (Out command) page e = clash e refl
  quiet-still (Write n supported) page e = still-by (write n supported) n Unchanged (block-marks (write n supported) n refl refl refl) _ (or-none formed _ _) e
  quiet-still (Read n block) page e = still-by (read n block) n Unchanged (block-marks (read n block) n refl refl refl) _ (or-none formed _ _) e
  quiet-still UnitReset page e = clash e refl
  quiet-still (Happen event) page e = clash e refl

  -- IN, a write or a read of a well-formed record: its answer and change are those found
  marks-by : (call : Call) (n : ℕ) (change : Change) → Marking rule s call n change → (q : Quiet) → q.answer ≡ known_answer s call → q.change ≡ change_by change q.answer → Remarks rule s n call q
  marks-by call n change m q a c = record {
    answered = a;
    changed = ap (changes s n) c ∙ ap (λ (x : Answer). changes s n (change_by change x)) a ∙ sym (marked call n change m (known_answer s call));
  }

  pub in-found : (command : Command) → Remarks rule s command.nexus (security_in command) (quiet_of true s (In command))
  unfolding quietly known_answer checks
  in-found command = marks-by (security_in command) command.nexus Registered (in-marks (security_in command) command.nexus refl refl refl) (quiet_of true s (In command)) refl refl

  pub write-found : (n : ℕ) (supported : Bool) → Remarks rule s n (write n supported) (quiet_of true s (Write n supported))
  unfolding quietly known_answer checks
  write-found n supported = marks-by (write n supported) n Unchanged (block-marks (write n supported) n refl refl refl) (quiet_of true s (Write n supported)) refl refl

  pub read_found : (n : ℕ) (block : Block) → Remarks rule s n (read n block) (quiet_of true s (Read n block))
  unfolding quietly known_answer checks
  read_found n block = marks-by (read n block) n Unchanged (block-marks (read n block) n refl refl refl) (quiet_of true s (Read n block)) refl refl
