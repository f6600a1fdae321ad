-- The record of this model, as the record over lists.
use Rattle.std.specs.Prelude.{ℕ, List, get_or, replicate}
use Rattle.arrays.specs.Arrays.{map_from}
use Rattle.device.specs.Record.{State, no_set}
use Rattle.device.specs.declared.Set.{Set}
use Rattle.sizes_16.specs.Sizes.{place_count}
use Rattle.device.specs.Words.{Worded}
use Rattle.device_16.specs.declared.Device.{Device}
use Rattle.device_16.specs.declared.Record.{Record}

abbrev pub state : Device → State
state d = record { counter = d.counter; sets = d.sets; nexuses = d.nexuses }

abbrev pub device : State → Device
device s = record { counter = s.counter; sets = s.sets; nexuses = s.nexuses }

-- the same with the words
abbrev pub worded : Record → Worded
worded r = record { state = state r.device; words = r.words }

abbrev pub record_of : Worded → Record
record_of w = record { device = device w.state; words = w.words }

-- the numbers of the sets in its places
abbrev pub numbers_of : List Set → List ℕ
numbers_of sets = map_from {A = ℕ} (λ place zero. (get_or sets place no_set).number) 0 (replicate place_count 0)
