use mathlib.Core.Bool.{or_assoc, or-false}
use Rattle.status_code.proofs.is_in_page.Goals as goal

pub returns : goal.returns
returns c = simp (or_assoc, or-false)
