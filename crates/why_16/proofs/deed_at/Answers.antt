use borrow.Author.Rules.{rules}
use mathlib.Core.Path.{◌≡◌, sym, ap₂}
use native.Mathlib.Omega.{arith}
use lib.ListN.{length, get_or-eq_default}
use Rattle.arrays.proofs.Laws.{sized-field}
use Rattle.sizes_16.specs.Sizes.{place_count}
use Rattle.device.specs.Record.{no_set}
use Rattle.why.specs.Touches.{deed_of}
use Rattle.why_16.proofs.deed_at.Goals as goal

pub returns : goal.returns
returns c =
    let a = c.args in
    let l : length a.before.sets ≡ place_count = search (rules, sized-field) in
    let m : length a.after.sets ≡ place_count = search (rules, sized-field) in
    ap₂ deed_of (sym (get_or-eq_default a.before.sets no_set (omega (arith, l, c.if-place-lt-PLACES.false)))) (sym (get_or-eq_default a.after.sets no_set (omega (arith, m, c.if-place-lt-PLACES.false))))
