use mathlib.Core.List.{List}
use mathlib.Core.Path.{◌≡◌, sym, ap, ◌∙◌}
use native.Mathlib.Omega.{arith}
use Prim.Native.Nat.{◌≤◌}
use lib.ListN.{length, set}
use lib.Seq.{set_out}
use Rattle.device.specs.Record.{nexus_at}
use Rattle.device.specs.Updates.{with_nexuses}
use Rattle.device.specs.declared.Nexus.{Nexus}
use Rattle.marks.specs.Marks.{remarked, changed, changes}
use Rattle.device_16.specs.Model.{state, device}
use Rattle.marks_16.proofs.change_marks.Goals as goal
use Rattle.marks_16.proofs.change_marks.Goals.{then-at-lt-NEXUSES, else-at-lt-NEXUSES}

pub returns : goal.returns
unfolding changes
returns c =
    let a = c.args in
    -- the nexuses that the branch leaves
    let left : c.if-at-lt-NEXUSES.nexuses ≡ set a.d.nexuses a.n (remarked (changed a.change) (nexus_at (state a.d) a.n)) =
    elim c.if-at-lt-NEXUSES.branch [
      | then-at-lt-NEXUSES w ↦ w.nexuses-is ∙ ap (set a.d.nexuses a.n) w.remark.ensures
      | else-at-lt-NEXUSES w ↦
          let h : length a.d.nexuses ≤ a.n = omega arith in
          w.nexuses-is ∙ sym (set_out a.d.nexuses a.n (remarked (changed a.change) (nexus_at (state a.d) a.n)) h)
    ] in
    ap (λ (l : List Nexus). device (with_nexuses l (state a.d))) left
