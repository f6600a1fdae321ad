use borrow.Author.Rules.{rules}
use Rattle.arrays.proofs.Laws.{sized-field}
use Rattle.arrays.proofs.Loops.{rewrite-starts, rewrite-more, rewrite-kept, rewrite-ends}
use Rattle.device.specs.Record.{new_nexus}
use Rattle.device.specs.Selecting.{selected}
use Rattle.places_16.proofs.free_all.Goals as goal

pub loop-n-init : goal.loop-n-init
unfolding selected
loop-n-init c = rewrite-starts (search (rules, sized-field))

pub loop-n-preserved : goal.loop-n-preserved
unfolding selected
loop-n-preserved c =
    let inv = c.loop-n.invariant in
    rewrite-more inv (search rules) new_nexus (simp (c.free.ensures, c.place_of.ensures.0, rewrite-kept inv new_nexus))

pub returns : goal.returns
unfolding selected
returns c = rewrite-ends c.loop-n.invariant (search rules)
