-- docs/CONSOLE.md: "A record's bytes are good where the device that they give has the same bytes again".
use Rattle.std.specs.Prelude.{ℕ, ◌^◌, ◌<◌, ◌≡◌, Bool, ◌&&◌, List, eqb, length, drop}
use Rattle.arrays.specs.Base.{when◌then◌else◌}
use Rattle.arrays.specs.Arrays.{all}
use Rattle.wire.specs.Numbers.{yes_or_no}
use Rattle.wire.specs.Buffers.{same_bytes}
use Rattle.kad.specs.Kad.{Sized}
use Rattle.parameters.specs.Fields.{key_size, supplemental_size}
use Rattle.device.specs.Record.{power_on}
use Rattle.device.specs.Words.{Worded, with_words}
use Rattle.device.specs.declared.Set.{Set}
use Rattle.device.specs.declared.Nexus.{Nexus}
use Rattle.wire.specs.Parts.{parts, Each}
use Rattle.record.specs.Bytes.{counter_size, set_size, nexus_size, nexuses_from, record_size, record_bytes}
use Rattle.record.specs.Reading.{record_read}

unfoldable pub good_bytes : (nexuses places : ℕ) → List ℕ → Bool
good_bytes nexuses places bytes = same_bytes bytes (record_bytes (record_read nexuses places bytes))

-- the record that good bytes give; others are refused, and give that of power-on
unfoldable pub record_taken : (nexuses places : ℕ) → List ℕ → Worded
record_taken nexuses places bytes = when good_bytes nexuses places bytes then record_read nexuses places bytes else with_words (power_on nexuses places)

-- ---- the same, said of the bytes themselves: "any .. bytes whose yes/no bytes are 0 or 1"

-- RDMD, CKOD, CKORP, CKORL
unfoldable pub set_yes_or_no : List ℕ → Bool
set_yes_or_no part = yes_or_no part 10 && yes_or_no part 11 && yes_or_no part 12 && yes_or_no part 13

-- lock, registered, pending
unfoldable pub nexus_yes_or_no : List ℕ → Bool
nexus_yes_or_no part = yes_or_no part 1 && yes_or_no part 10 && yes_or_no part 11 && yes_or_no part 12

-- the length is right, and each yes/no byte of each set and nexus is 0 or 1; the words may be any
unfoldable pub formed : (nexuses places : ℕ) → List ℕ → Bool
formed nexuses places bytes =
    eqb (length bytes) (record_size nexuses places)
    && all (λ ok. ok) (parts set_yes_or_no set_size places (drop counter_size bytes))
    && all (λ ok. ok) (parts nexus_yes_or_no nexus_size nexuses (drop (nexuses_from places) bytes))

-- ---- a record that its bytes hold: numbers of 32 bits, words of 64, arrays of their sizes

pub record SetFits (s : Set) : Type 0 where
  pub number : s.number < 2 ^ 32
  pub key : length s.fields.key ≡ key_size
  pub keys : length s.supplemental.keys ≡ supplemental_size
  pub kads : Sized s.fields.kads

pub record NexusFits (x : Nexus) : Type 0 where
  pub saved : x.saved < 2 ^ 32
  pub last_local : x.last_local < 2 ^ 32

pub record Fits (nexuses places : ℕ) (r : Worded) : Type 0 where
  pub counter : r.state.counter < 2 ^ 32
  pub places_all : length r.state.sets ≡ places
  pub sets_fit : Each SetFits r.state.sets
  pub nexuses_all : length r.state.nexuses ≡ nexuses
  pub nexuses_fit : Each NexusFits r.state.nexuses
  pub words_all : length r.words ≡ places
  pub words_fit : Each (λ word. word < 2 ^ 64) r.words
