use mathlib.Core.Path.{sym, ◌∙◌}
use Rattle.pointing.proofs.Faulted.{zero_passes}
use Rattle.pointing_code.proofs.check_zeros.Goals as goal

pub loop-i-preserved : goal.loop-i-preserved
loop-i-preserved c = c.loop-i.invariant ∙ zero_passes c.args.from c.loop-i.i c.part-bytes.result.now c.loop-i-test.true (sym c.check_rule.ensures ∙ c.in_ok-check_rule.was)
