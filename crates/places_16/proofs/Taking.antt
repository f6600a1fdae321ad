-- A page taken where the place of a LOCAL set is known.
-- Assumes nothing.
use Prim.Native.Nat.{ℕ}
use mathlib.Core.Path.{◌≡◌}
use mathlib.Core.Bool.{◌&&◌}
use lib.Dec.{eqb}
use Rattle.arrays.proofs.Base.{cases}
use Rattle.page.specs.declared.Page.{Page}
use Rattle.parameters.specs.Codes.{local_scope}
use Rattle.device.specs.Record.{State}
use Rattle.places.specs.Actions.{needs_place, is_no_room, no_place, page_actions, taken}
use Rattle.places_16.specs.Taking.{room_asked, taken_in}

-- where it was asked for, that is the page taken
pub taken_in_lem : (s : State) (n : ℕ) (page : Page) → taken_in s n page (room_asked s n page) ≡ taken s n page
unfolding taken page_actions
taken_in_lem s n page =
    cases page.supplemental
    (λ t. simp t)
    (λ f. cases (eqb page.scope local_scope)
    (λ l. simp (f, l))
    (λ l. simp (f, l)))

-- and the page has no place exactly where it needs one and none was found
pub no-place-asked : (s : State) (n : ℕ) (page : Page) → (needs_place page && is_no_room (room_asked s n page)) ≡ no_place s n page
no-place-asked s n page = cases (needs_place page) (λ t. simp t) (λ f. simp f)
