-- A page taken where the place of a LOCAL set is known: it is asked for once a page.
use Rattle.std.specs.Prelude.{ℕ, List, eqb}
use Rattle.arrays.specs.Base.{when◌then◌else◌}
use Rattle.page.specs.declared.Page.{Page}
use Rattle.parameters.specs.Codes.{local_scope}
use Rattle.device.specs.Record.{State}
use Rattle.places.specs.Actions.{Action, acts, room, needs_place, establish_in, shared_actions, sender_after, supplemented}
use Rattle.places.specs.declared.Room.{Room}
use Rattle.places.specs.declared.Room.TheVariants.{NoRoom}

-- the place of a LOCAL page; of any other, none
abbrev pub room_asked : State → ℕ → Page → Room
room_asked s n page = when needs_place page then room s n else NoRoom

-- what a page that isn't supplemental does to the places
abbrev pub actions_in : State → ℕ → Page → Room → List Action
actions_in s n page room = when eqb page.scope local_scope then establish_in room n page.fields else shared_actions s n page

-- and the record after it; where the room is `room s n` this is `taken` (proofs/Taking: taken_in_lem)
abbrev pub taken_in : State → ℕ → Page → Room → State
taken_in s n page room = when page.supplemental then supplemented s n page else sender_after (acts s (actions_in s n page room)) n page
