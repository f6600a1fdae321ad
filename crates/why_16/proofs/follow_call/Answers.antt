use mathlib.Core.Path.{sym, ap, ap₂, ◌∙◌}
use mathlib.Core.Bool.{Bool}
use Rattle.device_16.specs.Model.{state}
use Rattle.calls.proofs.Quietly.{is-power}
use Rattle.why.specs.Watching.{locked_by, flagged_by}
use Rattle.why_16.proofs.follow_call.Goals as goal

pub returns : goal.returns
returns c =
    let a = c.args in
    let s = state a.d in
    let t = state a.outcome.after.device in
    let power = c.is_power_on.ensures ∙ sym (is-power a.asked a.page.now) in
    c.follow_flags.ensures
    ∙ ap (flagged_by a.n a.i s t) (c.follow_lock-locked.ensures ∙ ap₂ (λ (lock p : Bool). locked_by lock p a.n a.i s t a.w) c.is_lock-lock.ensures power)
