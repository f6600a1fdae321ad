use mathlib.Core.Path.{sym, ap, ◌∙◌}
use Rattle.why.specs.Reasons.{event_at}
use Rattle.why_code.proofs.event_at.Goals as goal

pub returns-in-Some : goal.returns-in-Some
returns-in-Some c = c.event_from.ensures ∙ ap (event_at c.args.events.now) (sym c.in-Some.is)

pub returns-in-None : goal.returns-in-None
returns-in-None c = c.entry_of.ensures ∙ ap (event_at c.args.events.now) (sym c.in-None.is)
