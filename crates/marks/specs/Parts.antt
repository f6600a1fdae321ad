-- Who is told, from parts of the record and from the words.
use Rattle.std.specs.Prelude.{ℕ, ◌^◌, Bool, not, ◌&&◌, ltb, length, Option, Some, None}
use Rattle.arrays.specs.Base.{when◌then◌else◌}
use Rattle.arrays.specs.Words.{bit_of}
use Rattle.device.specs.Record.{State}
use Rattle.device.specs.Words.{words, Worded}
use Rattle.device.specs.declared.Nexus.{Nexus}
use Rattle.words.specs.Changes.{changed_word}
use Rattle.marks.specs.Marks.{is_actor, flagged}

-- a nexus that was registered before and isn't the acting one, where word has the bits of those for whom something changes
abbrev pub told_in : Nexus → ℕ → Option ℕ → ℕ → Bool
told_in was n actor word = was.marks.registered && not (is_actor actor n) && bit_of word n

-- the bit of the acting nexus, where there are that many
abbrev pub actor_bit : ℕ → Option ℕ → ℕ
actor_bit nexuses None = 0
actor_bit nexuses (Some m) = when ltb m nexuses then 2 ^ m else 0

-- "Unit attentions are then given from the words": r is the record before, with the words that it holds, and t the record after, which gets
-- its words anew
unfoldable pub told_by : Option ℕ → Worded → State → Worded
told_by actor r t =
    let has = words t in
    record { state = flagged (bit_of (changed_word (length t.sets) r.state.sets t.sets r.words has)) actor r.state t; words = has }
