use Prim.Native.Nat.{ℕ}
use mathlib.Core.Bool.{false}
use mathlib.Core.List.{List}
use mathlib.Core.Path.{◌≡◌, refl, sym, ap, ◌∙◌}
use Rattle.answer.specs.declared.Answer.{Answer}
use Rattle.device.specs.Record.{State}
use Rattle.device_16.specs.Model.{state}
use Rattle.drive.specs.Effects.{effect_by}
use Rattle.drive.specs.declared.Command.{Command}
use Rattle.history.specs.History.{accepts}
use Rattle.calls.specs.Asking.{call_of}
use Rattle.calls.specs.declared.Asked.{Asked}
use Rattle.calls.specs.declared.Asked.TheVariants.{PowerOn, In, Out, Write, Read, UnitReset, Happen}
use Rattle.why.proofs.Watching.{other_none}
use Rattle.why_16.proofs.is_lock.Goals as goal

-- one that isn't OUT is no lock
no-page : (n : ℕ) (s : State) (asked : Asked) (page : List ℕ) (a : Answer) → ((command : Command) → asked ≡ Out command → ⊥) → accepts n (effect_by s (call_of asked page) a) ≡ false
no-page n s PowerOn page a other = other_none n s (call_of PowerOn page) a refl
no-page n s (In command) page a other = other_none n s (call_of (In command) page) a refl
no-page n s (Out command) page a other = absurd (other command refl)
no-page n s (Write m supported) page a other = other_none n s (call_of (Write m supported) page) a refl
no-page n s (Read m block) page a other = other_none n s (call_of (Read m block) page) a refl
no-page n s UnitReset page a other = other_none n s (call_of UnitReset page) a refl
no-page n s (Happen event) page a other = other_none n s (call_of (Happen event) page) a refl

pub returns-in-Out : goal.returns-in-Out
returns-in-Out c =
    let a = c.args in
    c.is_own_page.ensures ∙ ap (λ (x : Asked). accepts a.n (effect_by (state a.d) (call_of x a.page.now) a.answer)) (sym c.in-Out.is)

pub returns-in_default : goal.returns-in_default
returns-in_default c = let a = c.args in sym (no-page a.n (state a.d) a.asked a.page.now a.answer c.in_default.not-Out)
