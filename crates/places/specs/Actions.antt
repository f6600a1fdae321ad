-- Document 01, "Establishing, releasing, selecting", in its order. Selecting stands in crate device.
-- No definition here looks at an instance number but to give one.
use Rattle.std.specs.Prelude.{ℕ, ◌+◌, ◌*◌, ◌%◌, ◌^◌, Bool, true, false, not, ◌&&◌, List, [], ◌∷◌, ◌++◌, leb, eqb, set, Option, Some, None}
use Rattle.std.proofs.lemmas.List.Edits.{sets}
use Rattle.arrays.specs.Base.{when◌then◌else◌}
use Rattle.arrays.specs.Arrays.{map_from, fold_from, find}
use Rattle.parameters.specs.Codes.{public_scope, local_scope, all_scope}
use Rattle.parameters.specs.Fields.{key_size, supplemental_most}
use Rattle.parameters.specs.declared.Fields.{Fields}
use Rattle.page.specs.declared.Page.{Page}
use Rattle.device.specs.Record.{State, set_at, nexus_at, empty, used, established, empty_set}
use Rattle.device.specs.Selecting.{owns, owned_place, selected, selected_set}
use Rattle.parameters.specs.declared.Supplemental.{Supplemental}
use Rattle.device.specs.declared.Set.{Set}
use Rattle.device.specs.declared.Nexus.{Nexus}
use Rattle.device.specs.Updates.{with_scope, with_lock, with_saved, with_last_local, numbered, with_supplemental, with_counter, with_sets, with_nexuses, at_place, at_nexus}
use Rattle.places.specs.declared.Event.{Event}
use Rattle.places.specs.declared.Event.TheVariants.{Demount, NexusLoss, DeviceLoss, Preempt, Microcode, VendorRelease}
use Rattle.places.specs.declared.Room.{Room}
use Rattle.places.specs.declared.Room.TheVariants.{Free, Evicting, NoRoom}

-- "the drive's one running counter, 32 bits, steps by one and wraps from 4,294,967,295 to 0"
abbrev pub drawn : ℕ → ℕ
drawn counter = (counter + 1) % 2 ^ 32

-- One action: a place takes new contents, the empty set where it is released, a page's set where one is established.
pub record Action : Type 0 where
  pub place : ℕ
  pub contents : Set

abbrev pub release : ℕ → Action
release place = record { place = place; contents = empty_set 0 }

abbrev pub establish : ℕ → ℕ → ℕ → Fields → Action
establish place owner scope fields = record { place = place; contents = established owner scope 0 fields }

-- "nexuses that were LOCAL there, or ALL for place 0, become PUBLIC; their lock and saved numbers stay":
-- those whose set the place held (a PUBLIC nexus is PUBLIC already)
abbrev pub freed : State → ℕ → ℕ → Nexus → Nexus
freed s place n nexus = when eqb (selected s n) place then with_scope public_scope nexus else nexus

-- it draws once, and "the place changed takes the new value"
unfoldable pub act : State → Action → State
act s a =
    let number = drawn s.counter in
    with_counter number
    (with_sets (set s.sets a.place (numbered number a.contents))
    (with_nexuses (map_from (freed s a.place) 0 s.nexuses) s))

unfoldable pub acts : State → List Action → State
acts s [] = s
acts s (a ∷ more) = acts (act s a) more

-- "Releasing an empty place does nothing and counts as no release": a place is due where it is used and a test picks it
abbrev pub due : (ℕ → Set → Bool) → ℕ → Set → Bool
due picked place set = used set && picked place set

abbrev pub spared : (ℕ → Set → Bool) → ℕ → Set → Bool
spared picked place set = not (due picked place set)

-- the releases of the places that are due, in rising order
unfoldable pub releases : (ℕ → Set → Bool) → List Set → List Action
releases picked = fold_from (λ place set rest. when due picked place set then release place ∷ rest else rest) [] 0

-- the nexus's own LOCAL place, if any
unfoldable pub own_place : State → ℕ → Option ℕ
own_place s n = when eqb (nexus_at s n).scope local_scope then owned_place s.sets n else None

abbrev pub release_found : Option ℕ → List Action
release_found (Some place) = release place ∷ []
release_found None = []

abbrev pub release_own : State → ℕ → List Action
release_own s n = release_found (own_place s n)

-- a place for a LOCAL set: one that is free to take, or one that is first released
abbrev pub empty_local : ℕ → Set → Bool
empty_local place set = not (eqb place 0) && empty set

abbrev pub unlocked_local : State → ℕ → Set → Bool
unlocked_local s place set = not (eqb place 0) && not (nexus_at s set.owner).lock

abbrev pub free_at : Option ℕ → Room → Room
free_at (Some place) other = Free place
free_at None other = other

abbrev pub evicting_at : Option ℕ → Room
evicting_at (Some place) = Evicting place
evicting_at None = NoRoom

-- "its present place, else the lowest empty one, else the lowest whose owner has lock 0, which is first released; else answer 10"
unfoldable pub room : State → ℕ → Room
room s n =
    free_at (own_place s n)
    (free_at (find Some None empty_local s.sets)
    (evicting_at (find Some None (unlocked_local s) s.sets)))

-- there is none
abbrev pub is_no_room : Room → Bool
is_no_room (Free place) = false
is_no_room (Evicting place) = false
is_no_room NoRoom = true

-- a page that needs a place for its LOCAL set
abbrev pub needs_place : Page → Bool
needs_place page = not page.supplemental && eqb page.scope local_scope

-- and has none
abbrev pub no_place : State → ℕ → Page → Bool
no_place s n page = needs_place page && is_no_room (room s n)

abbrev pub establish_in : Room → ℕ → Fields → List Action
establish_in (Free place) n fields = establish place n local_scope fields ∷ []
establish_in (Evicting place) n fields = release place ∷ establish place n local_scope fields ∷ []
establish_in NoRoom n fields = []

-- "PUBLIC: the nexus's own LOCAL place, if any, is released. ALL: its LOCAL place, if any, is released first; place 0 is established"
abbrev pub shared_actions : State → ℕ → Page → List Action
shared_actions s n page =
    when eqb page.scope all_scope then release_own s n ++ establish 0 n all_scope page.fields ∷ []
    else release_own s n

-- "An accepted page that is PUBLIC or has SDK 0"; a supplemental key is no action
unfoldable pub page_actions : State → ℕ → Page → List Action
page_actions s n page =
    when page.supplemental then []
    else when eqb page.scope local_scope then establish_in (room s n) n page.fields
    else shared_actions s n page

-- "The nexus's scope is SCOPE, lock is LOCK; with LOCK 1 it saves its selected set's number afterwards, with LOCK 0 the saved number
-- stays. LOCAL saves its last-LOCAL number."
abbrev pub nexus_after : Page → ℕ → Nexus → Nexus
nexus_after page number x =
    with_scope page.scope
    (with_lock page.lock
    (with_saved (when page.lock then number else x.saved)
    (with_last_local (when eqb page.scope local_scope then number else x.last_local) x)))

unfoldable pub sender_after : State → ℕ → Page → State
sender_after s n page =
    let number = (selected_set (at_nexus n (with_scope page.scope) s) n).number in
    at_nexus n (nexus_after page number) s

-- "answer 9 if the set has 4 already, else the key is appended. Instance numbers and locks stay."
abbrev pub appended : List ℕ → Supplemental → Supplemental
appended key keys =
    when leb supplemental_most keys.count then keys
    else record { count = keys.count + 1; keys = sets keys.keys (keys.count * key_size) key }

unfoldable pub supplemented : State → ℕ → Page → State
supplemented s n page = at_place (selected s n) (λ set. with_supplemental (appended page.fields.key set.supplemental) set) s

-- an accepted page taken: its actions, then what it leaves the sender or its set with
unfoldable pub taken : State → ℕ → Page → State
taken s n page = when page.supplemental then supplemented s n page else sender_after (acts s (page_actions s n page)) n page

-- "Events, places in rising order: demount releases CKOD sets; nexus reservation loss, LOCAL CKORL sets of that nexus;
-- device reservation loss, place 0 if CKORL; preempt by a nexus, CKORP sets; microcode, all; vendor release, the named place."
abbrev pub released_by : Event → ℕ → Set → Bool
released_by Demount place set = set.fields.ckod
released_by (NexusLoss n) place set = owns n set && set.fields.ckorl
released_by DeviceLoss place set = eqb place 0 && set.fields.ckorl
released_by (Preempt n) place set = set.fields.ckorp
released_by Microcode place set = true
released_by (VendorRelease named) place set = eqb place named

-- the same releases one place at a time, as a loop makes them
abbrev pub release_step : (ℕ → Set → Bool) → ℕ → State → State
release_step picked place s = when due picked place (set_at s place) then act s (release place) else s
