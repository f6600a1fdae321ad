use mathlib.Core.Path.{sym, ap, ◌∙◌}
use Rattle.device.specs.Record.{State}
use Rattle.device.specs.Words.{keeping}
use Rattle.device.specs.declared.Nexus.{Nexus}
use Rattle.marks.specs.Marks.{keeps_marks}
use Rattle.marks.proofs.Changes.{changes-left}
use Rattle.device_16.specs.Model.{state, record_of}
use Rattle.marks_16.proofs.change_marks_in.Goals as goal

pub returns-then-keeps_marks : goal.returns-then-keeps_marks
returns-then-keeps_marks c =
    let a = c.args in
    ap (λ (s : State). record_of (keeping a.r.words s))
    (sym (changes-left (state a.r.device) a.n a.change
    (sym (c.keeps_marks.ensures ∙ ap (λ (x : Nexus). keeps_marks x.marks a.change) c.nexus_at-nexus.ensures) ∙ c.if-keeps_marks.true)))

pub returns : goal.returns
returns c = simp c.change_marks.ensures
