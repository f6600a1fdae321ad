use mathlib.Core.Path.{sym, ap, ◌∙◌}
use mathlib.Core.Bool.{not, ◌&&◌, and-true}
use lib.Dec.{eqb}
use Rattle.page.specs.declared.Page.{Page}
use Rattle.page.proofs.Ruled.{told-done, told-fault, blank}
use Rattle.device.specs.Record.{nexus_at}
use Rattle.device.specs.Selecting.{selected_set}
use Rattle.device_16.specs.Model.{state}
use Rattle.drive.specs.Calls.{security_out}
use Rattle.drive.specs.Checks.{page_checked}
use Rattle.drive.proofs.Checks.{fault-told, done-told}
use Rattle.why.proofs.Watching.{refused-page, taken-page}
use Rattle.why_16.proofs.is_own_page.Goals as goal

pub returns-then-not-is_done : goal.returns-then-not-is_done
returns-then-not-is_done c =
    let a = c.args in
    sym (refused-page a.n (state a.d) (security_out a.command a.page.now) a.answer (fault-told c.is_done.ensures (ap not c.if-not-is_done.true)))

pub returns-in-Ok : goal.returns-in-Ok
returns-in-Ok c =
    let a = c.args in
    let done = told-done (page_checked (state a.d) a.command.nexus a.page.now) _ (sym c.in-Ok.ensures) in
    ap (λ (x : Page). eqb a.command.nexus a.n && not x.supplemental) (sym done.1)
    ∙ sym (taken-page a.n (state a.d) a.command a.page.now a.answer (done-told c.is_done.ensures (ap not c.if-not-is_done.false)))

pub returns-in-Err : goal.returns-in-Err
returns-in-Err c =
    let a = c.args in
    let s = state a.d in
    let m = a.command.nexus in
    let fault = told-fault (page_checked s m a.page.now) _ (sym c.in-Err.ensures) in
    let none = (blank a.page.now (nexus_at s m).scope (selected_set s m).fields.decryption (selected_set s m).supplemental.count).unread fault.0 in
    sym (taken-page a.n s a.command a.page.now a.answer (done-told c.is_done.ensures (ap not c.if-not-is_done.false))
    ∙ ap (λ (x : Page). eqb m a.n && not x.supplemental) none ∙ and-true (eqb m a.n))
