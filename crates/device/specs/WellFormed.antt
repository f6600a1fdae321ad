-- Document 01: "A device record is well formed if .."
use Rattle.std.specs.Prelude.{ℕ, Bool, not, ◌&&◌, ◌||◌, List, eqb, leb, ltb, length, get_or}
use Rattle.arrays.specs.Arrays.{each, count}
use Rattle.wire.specs.Buffers.{all_zero}
use Rattle.kad.specs.Kad.{tails_good}
use Rattle.parameters.specs.Codes.{local_scope, all_scope, algorithm}
use Rattle.parameters.specs.Fields.{supplemental_most}
use Rattle.parameters.specs.Good.{field_codes, keys_past, fields_zero}
use Rattle.device.specs.Record.{State, empty, used, no_set, new_nexus}
use Rattle.device.specs.Selecting.{owns}
use Rattle.device.specs.declared.Set.{Set}
use Rattle.device.specs.declared.Nexus.{Nexus}

-- "codes, owners and lengths are in range (index 1 in a used place)": a set's, where there are that many nexuses
abbrev pub set_codes : ℕ → Set → Bool
set_codes nexuses set =
    ltb set.owner nexuses && leb set.scope all_scope && field_codes set.fields && leb set.supplemental.count supplemental_most
    && (empty set || eqb set.fields.index algorithm)

-- "bytes or keys past a length or count are zero"
abbrev pub set_tails : Set → Bool
set_tails set = tails_good set.fields.kads && keys_past set.supplemental

-- "a used place 0 has scope ALL and any other used place LOCAL"
abbrev pub scope_fits : ℕ → Set → Bool
scope_fits place set =
    empty set || (eqb place 0 && eqb set.scope all_scope) || (not (eqb place 0) && eqb set.scope local_scope)

-- "every empty place is zero but for its instance number"
abbrev pub set_zero : Set → Bool
set_zero set =
    eqb set.owner 0 && eqb set.scope 0 && fields_zero set.fields && eqb set.supplemental.count 0 && all_zero set.supplemental.keys

abbrev pub empty_is_zero : Set → Bool
empty_is_zero set = used set || set_zero set

-- what is asked of the set in a place by itself
abbrev pub set_fits : ℕ → ℕ → Set → Bool
set_fits nexuses place set = set_codes nexuses set && set_tails set && scope_fits place set

unfoldable pub set_good : ℕ → ℕ → Set → Bool
set_good nexuses place set = set_codes nexuses set && set_tails set && scope_fits place set && empty_is_zero set

-- a nexus's codes are in range
abbrev pub nexus_codes : Nexus → Bool
nexus_codes nexus = leb nexus.scope all_scope

-- "each LOCAL nexus owns exactly one used place of 1 to 4"
abbrev pub local_owns_one : List Set → ℕ → Nexus → Bool
local_owns_one sets n nexus = not (eqb nexus.scope local_scope) || eqb (count (λ place. owns n) sets) 1

-- a nexus with scope ALL: "place 0 is used and that nexus owns it"
abbrev pub all_owns_first : Set → ℕ → Nexus → Bool
all_owns_first first n nexus = not (eqb nexus.scope all_scope) || (used first && eqb first.owner n)

-- what is asked of a nexus
unfoldable pub nexus_good : List Set → ℕ → Nexus → Bool
nexus_good sets n nexus = nexus_codes nexus && local_owns_one sets n nexus && all_owns_first (get_or sets 0 no_set) n nexus

-- "each used place of 1 to 4 is owned by a LOCAL nexus"
unfoldable pub owner_is_local : List Nexus → ℕ → Set → Bool
owner_is_local nexuses place set = eqb place 0 || empty set || eqb (get_or nexuses set.owner new_nexus).scope local_scope

-- what is asked of a used place by itself, by one test (proofs/WellFormed: "sets-tested")
unfoldable pub used_fits : ℕ → ℕ → Set → Bool
used_fits nexuses place set = empty set || set_fits nexuses place set

abbrev pub has_all : Nexus → Bool
has_all nexus = eqb nexus.scope all_scope

-- the whole; "at most one nexus has scope ALL"
unfoldable pub well_formed : State → Bool
well_formed s =
    each (set_good (length s.nexuses)) s.sets && each (nexus_good s.sets) s.nexuses && each (owner_is_local s.nexuses) s.sets
    && leb (count (λ n. has_all) s.nexuses) 1
