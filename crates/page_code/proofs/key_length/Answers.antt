use mathlib.Core.Path.{sym, ◌∙◌}
use Rattle.page_code.proofs.key_length.Goals as goal

pub returns-then-needs_key : goal.returns-then-needs_key
returns-then-needs_key c = simp (sym c.needs_key.ensures ∙ c.if-needs_key.true)

pub returns-else-needs_key : goal.returns-else-needs_key
returns-else-needs_key c = simp (sym c.needs_key.ensures ∙ c.if-needs_key.false)
