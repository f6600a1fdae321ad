-- What bytes give of this model's record.
use Rattle.std.specs.Prelude.{ℕ, List, Result, Ok, Err}
use Rattle.arrays.specs.Base.{when◌then◌else◌}
use Rattle.record.specs.Good.{good_bytes, record_taken}
use Rattle.sizes_16.specs.Sizes.{nexus_count, place_count}
use Rattle.device_16.specs.Model.{record_of}
use Rattle.device_16.specs.declared.Record.{Record}

-- the record, where they are one; a refused load gives that of power-on
abbrev pub loaded : List ℕ → Result Record Record
loaded bytes = let taken = record_of (record_taken nexus_count place_count bytes) in when good_bytes nexus_count place_count bytes then Ok taken else Err taken
