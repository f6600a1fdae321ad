use mathlib.Core.Path.{sym, ap, ◌∙◌}
use Rattle.std.specs.Prelude.{Err}
use Rattle.status.proofs.Reading.{told-right, told-wrong}
use Rattle.status_code.proofs.read_status.Goals as goal

pub returns-in-Ok : goal.returns-in-Ok
returns-in-Ok c = sym (told-right c.args.page.now _ (sym c.in-Ok.ensures))

pub returns-in-Err : goal.returns-in-Err
returns-in-Err c = ap Err c.refusal_of.ensures ∙ sym (told-wrong c.args.page.now _ (sym c.in-Err.ensures))
