-- docs/CONSOLE.md, "The record": a record as bytes. Numbers are big-endian; "A yes is 1 and a no is 0".
use Rattle.std.specs.Prelude.{ℕ, ◌+◌, ◌*◌, List, [], ◌∷◌, ◌++◌}
use Rattle.arrays.specs.Base.{bit}
use Rattle.wire.specs.Numbers.{four, eight}
use Rattle.kad.specs.declared.Kads.{Kads}
use Rattle.device.specs.Words.{Worded}
use Rattle.device.specs.declared.Set.{Set}
use Rattle.device.specs.declared.Nexus.{Nexus}
use Rattle.wire.specs.Parts.{joined}

-- the bytes of the counter, of key-associated data, of a set, of a nexus, of a word
abbrev pub counter_size : ℕ
counter_size = 4

abbrev pub kads_size : ℕ
kads_size = 46

abbrev pub set_size : ℕ
set_size = 221

abbrev pub nexus_size : ℕ
nexus_size = 13

abbrev pub word_size : ℕ
word_size = 8

-- "U-KAD length; U-KAD; A-KAD length; A-KAD"
unfoldable pub kads_bytes : Kads → List ℕ
kads_bytes k = k.ukad.length ∷ (k.ukad.bytes ++ k.akad.length ∷ k.akad.bytes)

-- "owner; scope; encryption mode, decryption mode; algorithm index; instance number; CEEM; RDMD, CKOD, CKORP, CKORL: yes or no"
abbrev pub set_head : Set → List ℕ
set_head s =
    s.owner ∷ s.scope ∷ s.fields.encryption ∷ s.fields.decryption ∷ s.fields.index
    ∷ (four s.number ++ s.fields.ceem ∷ bit s.fields.rdmd ∷ bit s.fields.ckod ∷ bit s.fields.ckorp ∷ bit s.fields.ckorl ∷ [])

-- then "key; count of supplemental keys; supplemental keys", and the key-associated data
unfoldable pub set_bytes : Set → List ℕ
set_bytes s = set_head s ++ (s.fields.key ++ s.supplemental.count ∷ (s.supplemental.keys ++ kads_bytes s.fields.kads))

-- "scope; lock: yes or no; number saved at lock; number of its last LOCAL set; registered, pending changed by another nexus,
-- pending changed by vendor event: yes or no"
unfoldable pub nexus_bytes : Nexus → List ℕ
nexus_bytes x =
    x.scope ∷ bit x.lock
    ∷ (four x.saved ++ four x.last_local ++ bit x.marks.registered ∷ bit x.marks.another ∷ bit x.marks.vendor ∷ [])

-- "the running counter; the sets in places 0 to ..; nexuses 0 to ..", and at the end "8 bytes a place", the words of places 0 to ..
unfoldable pub record_bytes : Worded → List ℕ
record_bytes r =
    four r.state.counter ++ (joined set_bytes r.state.sets ++ (joined nexus_bytes r.state.nexuses ++ joined eight r.words))

-- where the nexuses start, where the words start, and the bytes of a record
abbrev pub nexuses_from : ℕ → ℕ
nexuses_from places = counter_size + places * set_size

abbrev pub words_from : ℕ → ℕ → ℕ
words_from nexuses places = nexuses_from places + nexuses * nexus_size

abbrev pub record_size : ℕ → ℕ → ℕ
record_size nexuses places = words_from nexuses places + places * word_size
