-- What a call did to the set in a place: read from what the place held before and holds after, never from a number.
use Rattle.std.specs.Prelude.{ℕ, Bool, not, ◌&&◌, eqb, Some, None}
use Rattle.arrays.specs.Base.{when◌then◌else◌}
use Rattle.parameters.specs.Codes.{local_scope}
use Rattle.device.specs.Record.{State, set_at, empty}
use Rattle.device.specs.declared.Set.{Set}
use Rattle.why.specs.declared.Deed.{Deed}
use Rattle.why.specs.declared.Deed.TheVariants.{Untouched, Established, Replaced, Evicted, Released}
use Rattle.why.specs.declared.Touch.{Touch}

-- a LOCAL set stands where another nexus's stood
abbrev pub takes_over : (old new : Set) → Bool
takes_over old new = eqb new.scope local_scope && not (eqb old.owner new.owner)

-- of a place that a call acted on: released, if it is empty afterwards; established, if it was empty; evicted, if another nexus's LOCAL set
-- stands there now; else replaced
abbrev pub deed_of : (old new : Set) → Deed
deed_of old new =
    when empty new then Released
    else when empty old then Established
    else when takes_over old new then Evicted
    else Replaced

abbrev pub untouched : Touch
untouched = record { at = None; place = 0; deed = Untouched }

-- the set in a place, which no call is said to have touched
abbrev pub standing : (place : ℕ) → Touch
standing place = record { at = None; place = place; deed = Untouched }

-- the call at position i, which made record t of record s, and what it did in a place
abbrev pub touch_by : (i : ℕ) → (s t : State) → (place : ℕ) → Touch
touch_by i s t place = record { at = Some i; place = place; deed = deed_of (set_at s place) (set_at t place) }
