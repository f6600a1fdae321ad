use mathlib.Core.Path.{sym, ap, ◌∙◌}
use Rattle.arrays.proofs.Base.{if-true, if-false}
use Rattle.device_16.specs.Model.{state, device}
use Rattle.places.specs.Actions.{release, act}
use Rattle.places_16.proofs.release_step.Goals as goal

pub returns-then-is_due : goal.returns-then-is_due
returns-then-is_due c =
    let tested = c in
    let a = tested.args in
    c.release.ensures ∙ ap device (sym (if-true _ (act (state a.d) (release a.place)) (state a.d) (rw tested.is_due.ensures at c.if-is_due.true)))

pub returns : goal.returns
returns c =
    let tested = c in
    let a = tested.args in
    ap device (sym (if-false _ (act (state a.d) (release a.place)) (state a.d) (rw tested.is_due.ensures at c.if-is_due.false)))
