-- Worked examples of a logical unit reset and of who is told, in numbers: they pin the definitions, so that code and definition cannot go
-- wrong alike.
use Rattle.std.specs.Prelude.{Some, None}
use Prim.Native.Nat.{ℕ}
use mathlib.Core.Path.{◌≡◌, refl}
use mathlib.Core.List.{List, [], ◌∷◌, map}
use mathlib.Core.Bool.{Bool, true, false}
use Rattle.answer.specs.declared.Change.TheVariants.{Unchanged, AnotherCleared, VendorCleared, Registered}
use Rattle.device.specs.Record.{State, established, empty_set, new_nexus, power_on}
use Rattle.device.specs.Selecting.{owned_place, selected}
use Rattle.device.specs.declared.Set.{Set}
use Rattle.device.specs.declared.Nexus.{Nexus}
use Rattle.marks.specs.Marks.{changes, differs, flagged}
use Rattle.marks.specs.Reset.{unmarked}
use Rattle.device.specs.Updates.{with_marks, with_scope, with_lock, with_saved, with_last_local, with_counter, with_sets, with_nexuses}

-- a locked LOCAL nexus with an instance number saved at lock, that of its last LOCAL set, and its marks and flags all set or all clear
abbrev locked : ℕ → ℕ → Bool → Nexus
locked saved last_local flag =
    with_scope 1 (with_lock true (with_saved saved (with_last_local last_local (with_marks (record { registered = flag; another = flag; vendor = flag }) new_nexus))))

-- scope, lock and both numbers stay, and the mark and both flags are cleared
pub one-is-cleared : unmarked (locked 7 9 true) ≡ locked 7 9 false
one-is-cleared = refl

-- the first, the last and the one between
pub all-are-cleared : map unmarked (locked 7 9 true ∷ locked 3 4 true ∷ locked 5 5 true ∷ []) ≡ (locked 7 9 false ∷ locked 3 4 false ∷ locked 5 5 false ∷ [])
all-are-cleared = refl

-- ---- who is told, on a record of two places

-- a nexus with its scope, its mark and its two flags
abbrev nexus : ℕ → Bool → Bool → Bool → Nexus
nexus scope registered another vendor =
    with_scope scope (with_lock false (with_saved 0 (with_last_local 0 (with_marks (record { registered = registered; another = another; vendor = vendor }) new_nexus))))

-- nexus 1's LOCAL set and nexus 3's ALL set
abbrev own_set : Set
own_set = established 1 1 4 (empty_set 0).fields

abbrev shared_set : Set
shared_set = established 3 2 5 (empty_set 0).fields

-- place 0 is empty and nexus 1 owns the LOCAL set of place 1
abbrev before : List Nexus → State
before nexuses = with_counter 4 (with_sets (empty_set 0 ∷ own_set ∷ []) (with_nexuses nexuses (power_on 0 0)))

-- nexus 3 has established place 0
abbrev shared : List Nexus → State
shared nexuses = with_counter 5 (with_sets (shared_set ∷ own_set ∷ []) (with_nexuses nexuses (power_on 0 0)))

-- place 1 is released
abbrev released : List Nexus → State
released nexuses = with_counter 5 (with_sets (empty_set 0 ∷ empty_set 5 ∷ []) (with_nexuses nexuses (power_on 0 0)))

-- nexuses 0 and 4 are PUBLIC and registered, 4 with a flag pending; 1 is LOCAL and registered; 2 is PUBLIC and not registered
abbrev five : List Nexus
five = nexus 0 true false false ∷ nexus 1 true false false ∷ nexus 0 false false false ∷ nexus 0 true false false ∷ nexus 0 true false true ∷ []

-- by a page of nexus 3: the registered users of place 0 are told of another nexus; not its sender, not nexus 1, not nexus 2
pub told-of-page :
    flagged (differs (before five) (shared five)) (Some 3) (before five) (shared five)
    ≡ shared (nexus 0 true true false ∷ nexus 1 true false false ∷ nexus 0 false false false ∷ nexus 0 true false false ∷ nexus 0 true true true ∷ [])
unfolding flagged selected owned_place
told-of-page = refl

-- without an acting nexus: all of them, of a vendor event
pub told-of-event :
    flagged (differs (before five) (shared five)) None (before five) (shared five)
    ≡ shared (nexus 0 true false true ∷ nexus 1 true false false ∷ nexus 0 false false false ∷ nexus 0 true false true ∷ nexus 0 true false true ∷ [])
unfolding flagged selected owned_place
told-of-event = refl

-- the five once nexus 1's set is released: it is PUBLIC
abbrev freed : List Nexus
freed = nexus 0 true false false ∷ nexus 0 true false false ∷ nexus 0 false false false ∷ nexus 0 true false false ∷ nexus 0 true false true ∷ []

-- nexus 1 alone is told: it uses another place than before
pub told-of-release :
    flagged (differs (before five) (released freed)) None (before five) (released freed)
    ≡ released (nexus 0 true false false ∷ nexus 0 true false true ∷ nexus 0 false false false ∷ nexus 0 true false false ∷ nexus 0 true false true ∷ [])
unfolding flagged selected owned_place
told-of-release = refl

-- nor is it told where it preempts its own set
pub told-of-own :
    flagged (differs (before five) (released freed)) (Some 1) (before five) (released freed) ≡ released freed
unfolding flagged selected owned_place
told-of-own = refl

-- ---- what a row's last column makes of its sender's marks, and of no other nexus

abbrev two : Bool → Bool → Bool → List Nexus
two registered another vendor = nexus 0 false true true ∷ nexus 0 registered another vendor ∷ []

pub changes-unchanged : changes (before (two false true true)) 1 Unchanged ≡ before (two false true true)
unfolding changes
changes-unchanged = refl

pub changes-another : changes (before (two false true true)) 1 AnotherCleared ≡ before (two false false true)
unfolding changes
changes-another = refl

pub changes-vendor : changes (before (two false true true)) 1 VendorCleared ≡ before (two false true false)
unfolding changes
changes-vendor = refl

pub changes-registered : changes (before (two false true true)) 1 Registered ≡ before (two true true true)
unfolding changes
changes-registered = refl
