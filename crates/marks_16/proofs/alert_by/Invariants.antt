use Rattle.sizes_16.specs.Sizes.{nexus_count}
use Rattle.marks.proofs.Telling.{Telling}
use Rattle.marks_16.proofs.alert_by.Given as goal

abbrev pub invariant-loop-n : goal.invariant-loop-n
invariant-loop-n l = Telling nexus_count l.actor l.word l.old l.initial.out l.n l.out l.rest
