-- How the words are made, place by place (proofs/Placing: "words_placed"): a place's word is the bit of its set's owner, where that is LOCAL and
-- owns no place before; all others are in word 0.
use Rattle.std.specs.Prelude.{ℕ, ◌%◌, ◌^◌, Bool, ◌&&◌, eqb, ltb}
use Rattle.arrays.specs.Base.{when◌then◌else◌}
use Rattle.parameters.specs.Codes.{local_scope}
use Rattle.device.specs.declared.Set.{Set}
use Rattle.device.specs.declared.Nexus.{Nexus}

abbrev pub is_local : ℕ → Nexus → Bool
is_local n nexus = eqb nexus.scope local_scope

-- the bit of the nexus that owns a LOCAL set, where there are that many
abbrev pub local_bit : (nexuses : ℕ) → Set → ℕ
local_bit nexuses set = when eqb set.scope local_scope && ltb set.owner nexuses then 2 ^ (set.owner % 64) else 0
