-- Document 01's own words for who loses its set with a place.
use Rattle.std.specs.Prelude.{ℕ, Bool, ◌&&◌, ◌||◌, eqb}
use Rattle.parameters.specs.Codes.{local_scope, all_scope}
use Rattle.device.specs.Record.{State, set_at, nexus_at}
use Rattle.device.specs.Selecting.{owns}

-- "nexuses that were LOCAL there, or ALL for place 0": the nexus is LOCAL and owns the place, or is ALL and the place is 0
abbrev pub loses : State → ℕ → ℕ → Bool
loses s place n = (eqb (nexus_at s n).scope local_scope && owns n (set_at s place)) || (eqb (nexus_at s n).scope all_scope && eqb place 0)
