use Prim.Native.Nat.{◌*◌}
use mathlib.Core.Path.{sym, ap, ◌∙◌}
use native.Mathlib.Omega.{arith}
use lib.ListN.{drop, drop_of_length-le}
use Rattle.recording.specs.Entries.{entry_of}
use Rattle.recording.proofs.Entries.{entry-take}
use Rattle.why_code.proofs.event_from.Goals as goal

pub returns-then-events-i : goal.returns-then-events-i
returns-then-events-i c =
    let a = c.args in
    c.entry_of.ensures ∙ ap entry_of (sym (drop_of_length-le a.events.now {i = 8 * a.i} (omega (arith, c.if-events-i.true))))

pub overflow_mul-i : goal.overflow_mul-i
overflow_mul-i c = omega (arith, c.if-events-i.false, c.well_formed)

pub returns : goal.returns
returns c =
    let a = c.args in
    c.entry_of-2.ensures ∙ ap entry_of c.part.ensures ∙ entry-take 8 (drop (8 * a.i) a.events.now) (omega arith)
