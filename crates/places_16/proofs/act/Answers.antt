use borrow.Author.Rules.{rules}
use Prim.Native.Nat.{◌≤◌}
use mathlib.Core.Path.{◌≡◌}
use native.Mathlib.Omega.{arith}
use lib.ListN.{length}
use lib.Seq.{set_out}
use Rattle.arrays.proofs.Laws.{sized-field}
use Rattle.sizes_16.specs.Sizes.{place_count}
use Rattle.device.specs.Updates.{numbered}
use Rattle.places.specs.Actions.{drawn, act}
use Rattle.places_16.proofs.act.Goals as goal

pub returns-then-place-lt-PLACES : goal.returns-then-place-lt-PLACES
unfolding act
returns-then-place-lt-PLACES c = simp (c.draw-number.ensures, c.free_all.ensures)

pub returns-else-place-lt-PLACES : goal.returns-else-place-lt-PLACES
unfolding act
returns-else-place-lt-PLACES c =
    let a = c.args in
    let l : length a.d.sets ≡ place_count = search (rules, sized-field) in
    let h : length a.d.sets ≤ a.place = omega arith in
    simp (c.draw-number.ensures, c.free_all.ensures, set_out a.d.sets a.place (numbered (drawn a.d.counter) a.contents) h)
