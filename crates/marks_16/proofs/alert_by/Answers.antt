use borrow.Author.Rules.{rules}
use Rattle.sizes_16.specs.Sizes.{nexus_count}
use Rattle.marks.proofs.Telling.{tell-starts, tell-one, tell_none, tell-stops, tell-ends}
use Rattle.marks_16.proofs.alert_by.Goals as goal
use Rattle.marks_16.proofs.alert_by.Goals.{then-rest-is_asked, else-rest-is_asked}

pub loop-n-init : goal.loop-n-init
loop-n-init c = tell-starts nexus_count _ _ _ _ (search rules)

pub returns-then-rest-eq0 : goal.returns-then-rest-eq0
returns-then-rest-eq0 c = tell-stops nexus_count _ _ _ _ c.loop-n.invariant c.if-rest-eq0.true

pub loop-n-preserved : goal.loop-n-preserved
loop-n-preserved c =
    let l = c.loop-n in
    let a = c.args in
    elim c.if-rest-is_asked.branch [
      | then-rest-is_asked w ↦ tell-one nexus_count a.actor a.word a.old a.new l.invariant (search rules) c.is_asked.ensures w.if-rest-is_asked.true w.alert.ensures w.out-is
      | else-rest-is_asked w ↦ tell_none nexus_count a.actor a.word a.old a.new l.invariant (search rules) c.is_asked.ensures w.if-rest-is_asked.false w.out-is
    ]

pub returns : goal.returns
returns c = tell-ends nexus_count _ _ _ _ c.loop-n.invariant (search rules)
