use Rattle.words_code.proofs.changed_at.Goals as goal

pub returns-then-renumbered : goal.returns-then-renumbered
returns-then-renumbered c = simp c.if-renumbered.true

pub returns-else-renumbered : goal.returns-else-renumbered
returns-else-renumbered c = simp c.if-renumbered.false
