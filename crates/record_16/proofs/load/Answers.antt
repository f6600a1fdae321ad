use mathlib.Core.Path.{ap, ◌∙◌}
use Rattle.wire.specs.Buffers.{same_bytes}
use Rattle.wire.proofs.Searches.{same-pointwise}
use Rattle.record_16.proofs.Loading.{load-takes, load-refuses}
use Rattle.record_16.proofs.load.Goals as goal

pub returns-then-eq : goal.returns-then-eq
returns-then-eq c =
    let bytes = c.args.bytes.now in
    let compared = c.eq.ensures ∙ same-pointwise bytes c.as_slice.result.now ∙ ap (same_bytes bytes) c.as_slice.ensures in
    load-takes bytes c.record_of-record.ensures c.record_bytes.ensures compared c.if-eq.true

pub returns : goal.returns
returns c =
    let bytes = c.args.bytes.now in
    let compared = c.eq.ensures ∙ same-pointwise bytes c.as_slice.result.now ∙ ap (same_bytes bytes) c.as_slice.ensures in
    load-refuses bytes c.record_of-record.ensures c.record_bytes.ensures compared c.if-eq.false c.power_on-new.ensures
