-- The test that check 1 makes of a record with words: by the owners of the places (proofs/Fitting: "formed-tested").
use Rattle.std.specs.Prelude.{ℕ, ◌*◌, ◌%◌, ◌^◌, Bool, true, ◌&&◌, ◌||◌, List, eqb, length, get_or}
use Rattle.std.specs.Int.Bits.{bit_and, bit_or, bit_xor}
use Rattle.arrays.specs.Base.{when◌then◌else◌}
use Rattle.arrays.specs.Arrays.{each, runs, word_of}
use Rattle.parameters.specs.Codes.{public_scope, local_scope, all_scope}
use Rattle.device.specs.Record.{no_set, used}
use Rattle.device.specs.declared.Set.{Set}
use Rattle.device.specs.declared.Nexus.{Nexus}
use Rattle.words.specs.Placing.{is_local}
use Rattle.words.specs.declared.Held.{Held}

-- the bit of a place's owner: the scope of a used place other than 0 is 1
abbrev pub owner_bit : ℕ → Set → ℕ
owner_bit place set = when eqb place 0 then 0 else set.scope * 2 ^ (set.owner % 64) % 2 ^ 64

abbrev pub nothing_held : Held
nothing_held = record { word = 0; fits = true }

-- one place more: its word is its owner's bit, which no place before has
abbrev pub held_with : ℕ → Set → ℕ → Held → Held
held_with place set word held =
    let owner = owner_bit place set in
    record { word = bit_or held.word owner; fits = held.fits && (eqb place 0 || eqb word owner) && eqb (bit_and held.word owner) 0 }

-- so many places
unfoldable pub held_by : List Set → List ℕ → ℕ → Held
held_by sets words places = runs (λ place. held_with place (get_or sets place no_set) (get_or words place 0)) places nothing_held

-- a nexus is PUBLIC, LOCAL, or ALL and the owner of place 0, whose set is first
abbrev pub nexus_fits : Set → ℕ → Nexus → Bool
nexus_fits first n nexus =
    eqb nexus.scope public_scope || (eqb nexus.scope local_scope || (eqb nexus.scope all_scope && used first && eqb first.owner n))

-- the nexuses fit, and those that are LOCAL are the owners
unfoldable pub scopes_fit : Set → (owners : ℕ) → List Nexus → Bool
scopes_fit first owners nexuses = each (nexus_fits first) nexuses && eqb (word_of is_local nexuses) owners

-- the words and the scopes fit the places; every is the word of every nexus: who is no owner has its bit in word 0
unfoldable pub selections_fit : (every : ℕ) → List Set → List Nexus → List ℕ → Bool
selections_fit every sets nexuses words =
    let held = held_by sets words (length sets) in
    held.fits && eqb (get_or words 0 0) (bit_xor every held.word) && scopes_fit (get_or sets 0 no_set) held.word nexuses
