-- Records that are well formed, and records one field, one set or one nexus away from them that are not.
use Prim.Native.Nat.{ℕ, zero, suc, ◌^◌}
use mathlib.Core.Path.{◌≡◌, refl}
use mathlib.Core.Bool.{Bool, true, false, not, ◌&&◌}
use mathlib.Core.List.{List, [], ◌∷◌, ◌++◌}
use lib.Bits.{bit_xor}
use lib.ListN.{get_or, set, replicate}
use Rattle.arrays.specs.Arrays.{all}
use Rattle.wire.specs.Buffers.{padded}
use Rattle.kad.specs.Kad.{u_most, a_most, no_kads}
use Rattle.kad.specs.declared.Kads.{Kads}
use Rattle.parameters.specs.Codes.{local_scope, all_scope}
use Rattle.parameters.specs.Fields.{key_size, no_fields, supplemental_size}
use Rattle.parameters.specs.declared.Fields.{Fields}
use Rattle.device.specs.Record.{State, established, empty_set, no_marks, new_nexus, power_on}
use Rattle.device.specs.Selecting.{owned_place, selected}
use Rattle.device.specs.WellFormed.{set_good, nexus_good, owner_is_local, well_formed}
use Rattle.device.specs.Words.{words, with_words, formed}
use Rattle.parameters.specs.declared.Supplemental.{Supplemental}
use Rattle.device.specs.Updates.{with_marks, with_scope, with_lock, with_saved, with_last_local, with_supplemental, with_counter, with_sets, with_nexuses}
use Rattle.device.specs.declared.Set.{Set}
use Rattle.device.specs.declared.Nexus.{Nexus}

-- key-associated data: each part's length and first bytes
abbrev kads : ℕ → List ℕ → ℕ → List ℕ → Kads
kads u ukad a akad = record { ukad = record { length = u; bytes = padded u_most ukad }; akad = record { length = a; bytes = padded a_most akad } }

-- encryption, decryption, index, CEEM, CKOD, key and the rest
abbrev fields_of : ℕ → ℕ → ℕ → ℕ → Bool → List ℕ → Kads → Fields
fields_of encryption decryption index ceem ckod key kads = record {
  encryption = encryption;
  decryption = decryption;
  index = index;
  ceem = ceem;
  rdmd = false;
  ckod = ckod;
  ckorp = false;
  ckorl = false;
  key = padded key_size key;
  kads = kads;
}

-- fields with a key
abbrev fields : ℕ → ℕ → ℕ → ℕ → Kads → Fields
fields encryption decryption index ceem = fields_of encryption decryption index ceem true (replicate key_size 170)

-- supplemental keys: their count and first bytes
abbrev keys : ℕ → List ℕ → Supplemental
keys count bytes = record { count = count; keys = padded supplemental_size bytes }

-- owner and scope, and the rest
abbrev set_of : ℕ → ℕ → Fields → Supplemental → Set
set_of owner scope fields supplemental = with_supplemental supplemental (established owner scope 7 fields)

-- what a set with nothing wrong holds: key-associated data of 3 and 2 bytes, one supplemental key
abbrev three : List ℕ
three = 1 ∷ 2 ∷ 3 ∷ []

abbrev two : List ℕ
two = 4 ∷ 5 ∷ []

abbrev some_fields : Fields
some_fields = fields 2 3 1 3 (kads 3 three 2 two)

abbrev one_key : Supplemental
one_key = keys 1 (replicate key_size 85)

abbrev plain : ℕ → ℕ → Set
plain owner scope = set_of owner scope some_fields one_key

abbrev nexus_of : ℕ → Nexus
nexus_of scope = with_scope scope (with_lock true (with_saved 6 (with_last_local 6 (with_marks no_marks new_nexus))))

-- nexus 5 has the ALL set, nexuses 3 and 4 the LOCAL sets in places 1 and 2; place 3 is empty with a number
abbrev sets : List Set
sets = plain 5 all_scope ∷ plain 3 local_scope ∷ plain 4 local_scope ∷ empty_set 7 ∷ empty_set 0 ∷ []

abbrev nexuses : List Nexus
nexuses = replicate 3 new_nexus ++ nexus_of local_scope ∷ nexus_of local_scope ∷ nexus_of all_scope ∷ replicate 10 new_nexus

abbrev busy : State
busy = with_counter 7 (with_sets sets (with_nexuses nexuses (power_on 0 0)))

-- with another set in a place
abbrev with_set : ℕ → Set → State
with_set place s = with_counter 7 (with_sets (set sets place s) (with_nexuses nexuses (power_on 0 0)))

-- with other fields in place 1
abbrev with_fields : Fields → State
with_fields f = with_set 1 (set_of 3 local_scope f one_key)

-- with other key-associated data there
abbrev with_kads : Kads → State
with_kads k = with_fields (fields 2 3 1 3 k)

-- with other supplemental keys there
abbrev with_keys : Supplemental → State
with_keys k = with_set 1 (set_of 3 local_scope some_fields k)

-- with other fields in place 3, which is empty
abbrev with_empty : Fields → State
with_empty f = with_set 3 (established 0 0 7 f)

-- with another scope for a nexus
abbrev with_nexus : ℕ → ℕ → State
with_nexus n scope = with_counter 7 (with_sets sets (with_nexuses (set nexuses n (nexus_of scope)) (power_on 0 0)))

-- with no nexus that is ALL, and another set in place 0
abbrev former : Set → State
former s = with_counter 7 (with_sets (set sets 0 s) (with_nexuses (set nexuses 5 new_nexus) (power_on 0 0)))

abbrev well_ones : List State
well_ones =
    power_on 16 5
    ∷ busy
    -- an empty place has any number
    ∷ with_set 4 (empty_set 4294967295)
    -- the set of a former ALL nexus stays
    ∷ former (plain 5 all_scope)
    -- every length and count at its most, and at its least
    ∷ with_kads (kads 32 (replicate 32 9) 12 (replicate 12 9))
    ∷ with_keys (keys 4 (replicate 128 9))
    ∷ with_set 1 (established 3 local_scope 7 (fields_of 0 0 1 0 false [] no_kads))
    -- CEEM 10b and 11b with decryption DISABLE, which no page makes since request 2
    ∷ with_fields (fields 1 0 1 2 no_kads)
    ∷ with_fields (fields 2 0 1 3 no_kads)
    ∷ []

abbrev spoilt : List State
spoilt =
    -- codes, owners and lengths
    with_fields (fields 3 3 1 3 (kads 3 three 2 two))
    ∷ with_fields (fields 2 4 1 3 (kads 3 three 2 two))
    ∷ with_fields (fields 2 3 1 4 (kads 3 three 2 two))
    ∷ former (plain 16 all_scope)
    ∷ with_kads (kads 33 three 2 two)
    ∷ with_kads (kads 3 three 13 two)
    ∷ with_keys (keys 5 (replicate key_size 85))
    ∷ with_nexus 9 3
    -- index 1 in a used place
    ∷ with_fields (fields 2 3 0 3 (kads 3 three 2 two))
    ∷ with_fields (fields 2 3 2 3 (kads 3 three 2 two))
    -- bytes or keys past a length or count: the first byte, the last byte
    ∷ with_kads (kads 3 (three ++ 9 ∷ []) 2 two)
    ∷ with_kads (kads 3 (three ++ replicate 28 0 ++ 9 ∷ []) 2 two)
    ∷ with_kads (kads 3 three 2 (two ++ 9 ∷ []))
    ∷ with_kads (kads 3 three 2 (two ++ replicate 9 0 ++ 9 ∷ []))
    ∷ with_keys (keys 1 (replicate 33 85))
    ∷ with_keys (keys 1 (replicate key_size 85 ++ replicate 95 0 ++ 9 ∷ []))
    -- a used place 0 that is LOCAL, another used place that is ALL, a scope that is none
    ∷ with_set 0 (plain 5 local_scope)
    ∷ with_set 3 (plain 3 all_scope)
    ∷ with_set 3 (plain 3 3)
    -- a LOCAL nexus with two places, with none
    ∷ with_set 3 (plain 3 local_scope)
    ∷ with_nexus 9 local_scope
    -- a used place whose owner is PUBLIC, and whose owner is ALL
    ∷ with_set 3 (plain 9 local_scope)
    ∷ with_set 3 (plain 5 local_scope)
    -- two nexuses that are ALL, one that does not own place 0, one whose place 0 is empty
    ∷ with_nexus 9 all_scope
    ∷ with_set 0 (plain 9 all_scope)
    ∷ with_counter 0 (with_sets (replicate 5 (empty_set 0)) (with_nexuses (nexus_of all_scope ∷ replicate 15 new_nexus) (power_on 0 0)))
    -- an empty place with an owner, a mode, an index, CEEM, CKOD, a byte of a key, key-associated data, a supplemental key
    ∷ with_set 3 (established 1 0 7 no_fields)
    ∷ with_empty (fields_of 1 0 0 0 false [] no_kads)
    ∷ with_empty (fields_of 0 1 0 0 false [] no_kads)
    ∷ with_empty (fields_of 0 0 1 0 false [] no_kads)
    ∷ with_empty (fields_of 0 0 0 1 false [] no_kads)
    ∷ with_empty (fields_of 0 0 0 0 true [] no_kads)
    ∷ with_empty (fields_of 0 0 0 0 false (1 ∷ []) no_kads)
    ∷ with_empty (fields_of 0 0 0 0 false [] (kads 1 [] 0 []))
    ∷ with_empty (fields_of 0 0 0 0 false [] (kads 0 [] 1 []))
    ∷ with_set 3 (set_of 0 0 no_fields (keys 1 []))
    ∷ []

-- each of the first is well formed and none of the others
pub table : (all well_formed well_ones && all (λ s. not (well_formed s)) spoilt) ≡ true
unfolding well_formed set_good nexus_good owner_is_local power_on
table = refl

-- "An empty place 0 is the default set: modes, index and scope zero"
pub default : ((empty_set 0).fields.encryption ≡ 0) × ((empty_set 0).fields.decryption ≡ 0) × ((empty_set 0).fields.index ≡ 0) × ((empty_set 0).scope ≡ 0)
default = (refl, refl, refl, refl)

-- "A LOCAL nexus uses its own place; PUBLIC and ALL nexuses use place 0": nexuses 3, 4, 5 and 6
pub uses : (selected busy 3 ∷ selected busy 4 ∷ selected busy 5 ∷ selected busy 6 ∷ []) ≡ 1 ∷ 2 ∷ 0 ∷ 0 ∷ []
unfolding selected owned_place
uses = refl

-- ---- document 02, request 7

-- "at power-on 16 ones for place 0, zeros elsewhere"
pub new-words : words (power_on 16 5) ≡ 65535 ∷ 0 ∷ 0 ∷ 0 ∷ 0 ∷ []
unfolding words selected owned_place power_on
new-words = refl

-- "one word whose bit n says that nexus n selects this place": places 1 and 2 serve nexuses 3 and 4, place 0 all others
pub busy-words : words busy ≡ 65511 ∷ 8 ∷ 16 ∷ 0 ∷ 0 ∷ []
unfolding words selected owned_place power_on
busy-words = refl

-- of the former ALL nexus's set PUBLIC nexuses are served too; places 1 and 2 in the other order
pub turned-words : words (with_counter 7 (with_sets (set (set sets 1 (plain 4 local_scope)) 2 (plain 3 local_scope)) (with_nexuses nexuses (power_on 0 0)))) ≡ 65511 ∷ 16 ∷ 8 ∷ 0 ∷ 0 ∷ []
unfolding words selected owned_place power_on
turned-words = refl

-- one bit turned over: bit n of a place's word
abbrev turned_bit : ℕ → ℕ → List ℕ → List ℕ
turned_bit place n ws = set ws place (bit_xor (get_or ws place 0) (2 ^ n))

-- the words of busy with each of so many bits turned over, place by place, are refused
unfoldable pub wrong_bits : ℕ → ℕ → Bool
wrong_bits place zero = true
wrong_bits place (suc n) = not (formed (record { state = busy; words = turned_bit place n (words busy) })) && wrong_bits place n

-- "a record where they differ is not well formed": each of the 64 bits of each word
pub each-bit-counts : (formed (with_words busy) && wrong_bits 0 64 && wrong_bits 1 64 && wrong_bits 2 64 && wrong_bits 3 64 && wrong_bits 4 64) ≡ true
unfolding wrong_bits formed words selected owned_place well_formed set_good nexus_good owner_is_local power_on
each-bit-counts = refl
