use mathlib.Core.Bool.{not}
use mathlib.Core.Path.{sym, ◌∙◌, ap}
use Rattle.arrays.proofs.Base.{if-true, if-false}
use Rattle.drive.proofs.Checks.{fault-told, done-told}
use Rattle.claim_code.proofs.became.Goals as goal

pub returns-then-not-is_done : goal.returns-then-not-is_done
returns-then-not-is_done c = sym (if-false _ _ _ (fault-told c.is_done.ensures (ap not c.if-not-is_done.true)))

pub returns : goal.returns
returns c = c.decide.ensures ∙ sym (if-true _ _ _ (done-told c.is_done.ensures (ap not c.if-not-is_done.false)))
