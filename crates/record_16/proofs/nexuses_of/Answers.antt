use borrow.Author.Rules.{rules}
use mathlib.Core.Path.{refl, sym, ◌∙◌}
use Rattle.arrays.proofs.Loops.{rewrite-starts, rewrite-more', rewrite-ends}
use Rattle.sizes_16.specs.Sizes.{place_count, nexus_count}
use Rattle.device.specs.Record.{new_nexus}
use Rattle.record.specs.Bytes.{nexuses_from, nexus_size}
use Rattle.record.specs.Reading.{nexus_read}
use Rattle.wire.proofs.Parts.{parts-made}
use Rattle.record_16.proofs.nexuses_of.Goals as goal

pub loop-n-init : goal.loop-n-init
loop-n-init c = rewrite-starts refl

pub loop-n-preserved : goal.loop-n-preserved
loop-n-preserved c = rewrite-more' c.loop-n.invariant (search rules) new_nexus c.nexus_at.ensures

pub returns : goal.returns
returns c = rewrite-ends c.loop-n.invariant (search rules) ∙ sym (parts-made nexus_read nexus_size new_nexus c.args.bytes.now (nexuses_from place_count) nexus_count)
