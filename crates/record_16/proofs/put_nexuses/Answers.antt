use borrow.Author.Rules.{rules}
use Rattle.wire.proofs.Parts.{store-starts, store-more, store-ends, store-counts}
use Rattle.record_16.proofs.put_nexuses.Goals as goal

pub loop-n-init : goal.loop-n-init
loop-n-init c = store-starts (search rules)

pub loop-n-preserved : goal.loop-n-preserved
loop-n-preserved c =
    let made = c in
    store-more made.loop-n.invariant (search rules) _ made.nexus_bytes-bytes.ensures (search rules) c.put.ensures

pub shape_of-buffer : goal.shape_of-buffer
shape_of-buffer c = c.loop-n.invariant.kept

pub returns : goal.returns
returns c = (store-ends c.loop-n.invariant (search rules), store-counts c.loop-n.invariant (search rules))
