-- Document 01: "A LOCAL nexus uses its own place; PUBLIC and ALL nexuses use place 0."
use Rattle.std.specs.Prelude.{ℕ, Bool, ◌&&◌, List, eqb, Option, Some, None}
use Rattle.arrays.specs.Base.{when◌then◌else◌}
use Rattle.arrays.specs.Arrays.{find}
use Rattle.parameters.specs.Codes.{local_scope}
use Rattle.device.specs.Record.{State, set_at, nexus_at}
use Rattle.device.specs.declared.Set.{Set}
use Rattle.device.specs.declared.Nexus.{Nexus}

-- the set is LOCAL and the nexus owns it (LOCAL sets stand in places 1 to 4 alone)
abbrev pub owns : ℕ → Set → Bool
owns n set = eqb set.scope local_scope && eqb set.owner n

-- the lowest such place
unfoldable pub owned_place : List Set → ℕ → Option ℕ
owned_place sets n = find Some None (λ place. owns n) sets

abbrev pub or_else : Option ℕ → ℕ → ℕ
or_else (Some place) other = place
or_else None other = other

-- the place whose set nexus n uses, given the nexus and the sets
abbrev pub place_of : Nexus → ℕ → List Set → ℕ
place_of nexus n sets = when eqb nexus.scope local_scope then or_else (owned_place sets n) 0 else 0

unfoldable pub selected : State → ℕ → ℕ
selected s n = place_of (nexus_at s n) n s.sets

abbrev pub selected_set : State → ℕ → Set
selected_set s n = set_at s (selected s n)
