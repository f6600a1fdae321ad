use mathlib.Core.Path.{ap, ◌∙◌}
use Rattle.std.specs.Prelude.{Err}
use Rattle.std.proofs.lemmas.Result.{err_from_is_err_and}
use Rattle.drive.specs.Checks.{heard}
use Rattle.drive.proofs.Passing.{read-refused}
use Rattle.calls_code.proofs.check_read.Goals as goal

pub returns-in_err-restore : goal.returns-in_err-restore
returns-in_err-restore c =
    let a = c.args in
    let p = err_from_is_err_and c.from_residual-in_err-restore.result c.from_residual-in_err-restore.ensures.1 in
    p.1 ∙ ap Err p.2 ∙ read-refused (heard a.nexuses a.n a.nexus.marks) a.set a.block _ c.in_ok-hear.ensures c.in_err-restore.ensures
