use borrow.Author.Rules.{rules}
use mathlib.Core.Path.{refl, sym, ◌∙◌}
use Rattle.arrays.proofs.Loops.{rewrite-starts, rewrite-more', rewrite-ends}
use Rattle.sizes_16.specs.Sizes.{place_count}
use Rattle.device.specs.Record.{empty_set}
use Rattle.record.specs.Bytes.{counter_size, set_size}
use Rattle.record.specs.Reading.{set_read}
use Rattle.wire.proofs.Parts.{parts-made}
use Rattle.record_16.proofs.sets_of.Goals as goal

pub loop-place-init : goal.loop-place-init
loop-place-init c = rewrite-starts refl

pub loop-place-preserved : goal.loop-place-preserved
loop-place-preserved c = rewrite-more' c.loop-place.invariant (search rules) (empty_set 0) c.set_at.ensures

pub returns : goal.returns
returns c = rewrite-ends c.loop-place.invariant (search rules) ∙ sym (parts-made set_read set_size (empty_set 0) c.args.bytes.now counter_size place_count)
