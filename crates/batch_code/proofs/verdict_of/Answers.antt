use mathlib.Core.Path.{sym, ◌∙◌}
use Rattle.batch_code.proofs.verdict_of.Goals as goal

pub returns-then-is_too_much : goal.returns-then-is_too_much
returns-then-is_too_much c = simp (sym c.is_too_much.ensures ∙ c.if-is_too_much.true)

pub returns-then-is_sound_batch : goal.returns-then-is_sound_batch
returns-then-is_sound_batch c = simp (sym c.is_too_much.ensures ∙ c.if-is_too_much.false, sym c.is_sound_batch.ensures ∙ c.if-is_sound_batch.true)

pub returns : goal.returns
returns c = simp (sym c.is_too_much.ensures ∙ c.if-is_too_much.false, sym c.is_sound_batch.ensures ∙ c.if-is_sound_batch.false)
