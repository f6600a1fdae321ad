use borrow.Author.Rules.{rules}
use mathlib.Core.Path.{◌≡◌, sym, ap, ◌∙◌}
use native.Mathlib.Omega.{arith}
use lib.ListN.{length}
use Rattle.arrays.proofs.Laws.{sized-field}
use Rattle.sizes_16.specs.Sizes.{place_count}
use Rattle.device_16.specs.Model.{state}
use Rattle.places.specs.Words.{room_by}
use Rattle.places.proofs.Words.{room-by-words}
use Rattle.places_16.proofs.room_for.Goals as goal

pub returns-in-Some : goal.returns-in-Some
returns-in-Some c =
    let a = c.args in
    let l : length a.d.sets ≡ place_count = search (rules, sized-field) in
    rw (sym c.own_place.ensures ∙ c.in-Some.is) at (room-by-words (state a.d) a.n (omega arith))

pub returns-in-None : goal.returns-in-None
returns-in-None c =
    let a = c.args in
    let l : length a.d.sets ≡ place_count = search (rules, sized-field) in
    c.room_by.ensures ∙ ap room_by c.local_words.ensures
    ∙ (rw (sym c.own_place.ensures ∙ c.in-None.is) at (room-by-words (state a.d) a.n (omega arith)))
