-- Document 01: "Descriptors: type, a zero byte, two bytes of length, data. Type 0 U-KAD, 1 to 32 bytes; type 1 A-KAD, 1 to 12.
-- Types rise, so each stands at most once; the last ends with the page. Each step reads one descriptor and hands the rest of the list on."
-- s is a list of descriptors: the part of a page that starts after what precedes them.
use Rattle.std.specs.Prelude.{ℕ, zero, suc, ◌+◌, Bool, true, not, List, [], ◌∷◌, length, take, drop, ltb, leb, eqb, Option, Some, None}
use Rattle.arrays.specs.Base.{when◌then◌else◌}
use Rattle.wire.specs.Numbers.{byte_at, word_at}
use Rattle.wire.specs.Rules.{Rule, rule, breach}
use Rattle.kad.specs.Kad.{u_most, a_most, no_kads, with_data}
use Rattle.kad.specs.declared.Kads.{Kads}
use Rattle.kad.specs.declared.Listed.{Listed}

-- the bytes of a descriptor before its data
abbrev pub descriptor_head : ℕ
descriptor_head = 4

-- the first descriptor's type, the length that it states, and its data
abbrev pub type_of : List ℕ → ℕ
type_of s = byte_at s 0

abbrev pub length_of : List ℕ → ℕ
length_of s = word_at s 2

abbrev pub data_of : List ℕ → List ℕ
data_of s = take (length_of s) (drop descriptor_head s)

-- where the rest of the list starts
abbrev pub next_of : List ℕ → ℕ
next_of s = descriptor_head + length_of s

-- the most bytes that a type has
abbrev pub most : ℕ → ℕ
most kind = when eqb kind 0 then u_most else a_most

-- types rise: the type is above the last one seen
abbrev pub rising : Option ℕ → ℕ → Bool
rising None kind = true
rising (Some kind₀) kind = ltb kind₀ kind

-- the rules of the first descriptor of a list that isn't empty, in the order of its bytes. Document 02, request 6: "a descriptor length to its
-- first length byte, a descriptor cut short by the page's end to its type byte".
unfoldable pub descriptor_rules : List ℕ → Option ℕ → List Rule
descriptor_rules s seen =
    rule 0 (leb (type_of s) 1)
    ∷ rule 0 (rising seen (type_of s))
    ∷ rule 0 (leb descriptor_head (length s))
    ∷ rule 0 (leb (next_of s) (length s))
    ∷ rule 1 (eqb (byte_at s 1) 0)
    ∷ rule 2 (not (eqb (length_of s) 0))
    ∷ rule 2 (leb (length_of s) (most (type_of s)))
    ∷ []

-- a list that isn't empty: its first fault, or what f makes of the rest after its first descriptor
abbrev pub one_step : (List ℕ → Option ℕ → Kads → Listed) → List ℕ → Option ℕ → Kads → Listed
one_step f s seen k =
    let fault = breach (descriptor_rules s seen) descriptor_head in
    let rest = f (drop (next_of s) s) (Some (type_of s)) (with_data k (type_of s) (data_of s)) in
    when ltb fault descriptor_head then record { good = fault; kads = k } else record { good = next_of s + rest.good; kads = rest.kads }

-- what a list of at most n bytes gives: how many bytes stand before its first fault, all of them where there is none, and the data
unfoldable pub listed : ℕ → List ℕ → Option ℕ → Kads → Listed
listed zero s seen k = record { good = 0; kads = k }
listed (suc n) [] seen k = record { good = 0; kads = k }
listed (suc n) (b ∷ s) seen k = one_step (listed n) (b ∷ s) seen k

-- the whole list
abbrev pub read_kads : List ℕ → Listed
read_kads s = listed (length s) s None no_kads
