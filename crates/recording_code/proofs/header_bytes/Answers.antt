use mathlib.Core.Path.{◌∙◌}
use Rattle.wire.proofs.Numbers.{two-lower}
use Rattle.recording_code.proofs.header_bytes.Goals as goal

pub returns : goal.returns
returns c =
    let from = c in
    let first = from in
    let count = first in
    let h = count.args.h in
    simp (c.two-total.ensures ∙ two-lower h.total, from.two-from.ensures ∙ two-lower h.pages_from, first.two-first.ensures ∙ two-lower h.first_event, count.two-count.ensures ∙ two-lower h.event_count)
