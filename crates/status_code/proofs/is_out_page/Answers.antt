use mathlib.Core.Bool.{or-false}
use Rattle.status_code.proofs.is_out_page.Goals as goal

pub returns : goal.returns
returns c = simp or-false
