use borrow.Author.Rules.{rules}
use mathlib.Core.Path.{◌≡◌, sym, ap}
use native.Mathlib.Omega.{arith}
use lib.ListN.{length, get_or-eq_default}
use Rattle.arrays.proofs.Laws.{sized-field}
use Rattle.sizes_16.specs.Sizes.{place_count}
use Rattle.device.specs.Record.{no_set}
use Rattle.device.specs.declared.Set.{Set}
use Rattle.why_16.proofs.number_at.Goals as goal

pub returns : goal.returns
returns c =
    let a = c.args in
    let l : length a.d.sets ≡ place_count = search (rules, sized-field) in
    ap (λ (x : Set). x.number) (sym (get_or-eq_default a.d.sets no_set (omega (arith, l, c.if-place-lt-PLACES.false))))
