-- Laws of a session read for one nexus, call by call.
-- Assumes nothing.
use Rattle.std.specs.Prelude.{ℕ, Option, Some, None}
use Prim.Native.Nat.{ℕ}
use mathlib.Core.Path.{◌≡◌, refl, ap, ap₂, ◌∙◌}
use mathlib.Core.Bool.{Bool, true, false, not, ◌&&◌}
use mathlib.Core.List.{List}
use lib.Dec.{eqb}
use borrow.Author.Tests.{eq-eqb}
use Rattle.arrays.proofs.Base.{clash, if-elim, if-true}
use Rattle.answer.specs.Answers.{change_of, is_done}
use Rattle.answer.specs.declared.Answer.{Answer}
use Rattle.answer.specs.declared.Change.{Change}
use Rattle.answer.specs.declared.Change.TheVariants.{Unchanged, AnotherCleared, VendorCleared, Registered}
use Rattle.device.specs.Record.{State, set_at, nexus_at}
use Rattle.device.specs.declared.Marks.{Marks}
use Rattle.drive.specs.Calls.{Call, security_out, sender_of, is_power_up}
use Rattle.drive.specs.Checks.{page_checked}
use Rattle.drive.specs.Effects.{doing, refusal, effect_by, effect}
use Rattle.drive.specs.After.{after}
use Rattle.drive.specs.declared.Command.{Command}
use Rattle.calls.specs.Asking.{call_of}
use Rattle.calls.specs.Quiet.{quietly}
use Rattle.calls.specs.declared.Asked.{Asked}
use Rattle.calls.specs.declared.Asked.TheVariants.{PowerOn, In, Out, Write, Read, UnitReset, Happen}
use Rattle.calls.proofs.Quietly.{quiet_of}
use Rattle.history.specs.History.{accepts}
use Rattle.why.specs.declared.Watch.{Watch}
use Rattle.why.specs.Causes.{is_raised}
use Rattle.why.specs.Watching.{watched_by, watched}

-- ---- the nexus's own page

-- a refused call takes no page
refused_none : (n : ℕ) (sender : Option ℕ) (change : Change) → accepts n (refusal sender change) ≡ false
refused_none n None change = refl
refused_none n (Some m) Unchanged = refl
refused_none n (Some m) AnotherCleared = refl
refused_none n (Some m) VendorCleared = refl
refused_none n (Some m) Registered = refl

module _ (n : ℕ) (s : State) where
  -- nor does a call that isn't OUT
  pub other_none : (call : Call) (a : Answer) → accepts n (doing s call) ≡ false → accepts n (effect_by s call a) ≡ false
  unfolding effect_by
  other_none call a e = if-elim (λ x. accepts n x ≡ false) (is_done a) (λ t. e) (λ f. refused_none n (sender_of call) (change_of a))

  -- a refused OUT
  pub refused-page : (call : Call) (a : Answer) → is_done a ≡ false → accepts n (effect_by s call a) ≡ false
  unfolding effect_by
  refused-page call a e = rw e (refused_none n (sender_of call) (change_of a))

  -- one that is done
  pub taken-page : (command : Command) (page : List ℕ) (a : Answer) → is_done a ≡ true
      → accepts n (effect_by s (security_out command page) a) ≡ (eqb command.nexus n && not (page_checked s command.nexus page).page.supplemental)
  unfolding effect_by
  taken-page command page a e = ap (accepts n) (if-true _ _ _ e)

  -- IN, a write and a read take none
  quiet_none : (formed : Bool) (asked : Asked) (page : List ℕ) (a : Answer) → (quiet_of formed s asked).quiet ≡ true → accepts n (effect_by s (call_of asked page) a) ≡ false
  unfolding quietly
  quiet_none formed PowerOn page a e = clash e refl
  quiet_none formed (In command) page a e = other_none (call_of (In command) page) a refl
  quiet_none formed (Out command) page a e = clash e refl
  quiet_none formed (Write m supported) page a e = other_none (call_of (Write m supported) page) a refl
  quiet_none formed (Read m block) page a e = other_none (call_of (Read m block) page) a refl
  quiet_none formed UnitReset page a e = clash e refl
  quiet_none formed (Happen event) page a e = clash e refl

-- ---- a call that leaves the record as it is

-- no flag is raised
none-raised : (flag : Marks → Bool) (n : ℕ) (s : State) → is_raised flag n s s ≡ false
none-raised flag n s = never (flag (nexus_at s n).marks)
  where
    never : (b : Bool) → (b && not b) ≡ false
    never true = refl
    never false = refl

-- nothing is noted
still_noted : (n i : ℕ) (s : State) (w : Watch) → watched_by false false n i s s w ≡ w
still_noted n i s w = simp (none-raised (λ m. m.another) n s, none-raised (λ m. m.vendor) n s, eq-eqb (set_at s w.left).number (set_at s w.left).number refl)

pub quiet-watched : (n i : ℕ) (formed : Bool) (s : State) (asked : Asked) (page : List ℕ) (w : Watch) → (quiet_of formed s asked).quiet ≡ true → is_power_up (call_of asked page) ≡ false → after s (call_of asked page) ≡ s
    → watched n i s (call_of asked page) w ≡ w
unfolding watched
quiet-watched n i formed s asked page w quiet running stays =
    let none : accepts n (effect s (call_of asked page)) ≡ false = quiet_none n s formed asked page _ quiet in
    ap₂ (λ own power. watched_by own power n i s (after s (call_of asked page)) w) none running ∙ ap (λ t. watched_by false false n i s t w) stays ∙ still_noted n i s w
