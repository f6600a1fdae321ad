use borrow.Author.Rules.{rules}
use Rattle.wire.proofs.Parts.{store-starts, store-more, store-ends, store-counts}
use Rattle.record_16.proofs.put_sets.Goals as goal

pub loop-place-init : goal.loop-place-init
loop-place-init c = store-starts (search rules)

pub loop-place-preserved : goal.loop-place-preserved
loop-place-preserved c =
    let made = c in
    store-more made.loop-place.invariant (search rules) _ made.set_bytes-bytes.ensures (search rules) c.put.ensures

pub shape_of-buffer : goal.shape_of-buffer
shape_of-buffer c = c.loop-place.invariant.kept

pub returns : goal.returns
returns c = (store-ends c.loop-place.invariant (search rules), store-counts c.loop-place.invariant (search rules))
