-- Document 02, request 7: "Unit attentions are then given from the words". For whom something changes, from the words and numbers before and
-- after.
use Rattle.std.specs.Prelude.{ℕ, not, List, eqb, get_or}
use Rattle.std.specs.Int.Bits.{bit_or, bit_xor}
use Rattle.arrays.specs.Base.{when◌then◌else◌}
use Rattle.arrays.specs.Arrays.{runs}
use Rattle.device.specs.Record.{no_set}
use Rattle.device.specs.declared.Set.{Set}

-- at a place: with another number, those that used it and those that use it; else those that come or go
abbrev pub changed_at : (old new : List Set) (had has : List ℕ) → ℕ → ℕ
changed_at old new had has place =
    when not (eqb (get_or old place no_set).number (get_or new place no_set).number) then bit_or (get_or had place 0) (get_or has place 0)
    else bit_xor (get_or had place 0) (get_or has place 0)

-- at one of so many places
unfoldable pub changed_word : (places : ℕ) (old new : List Set) (had has : List ℕ) → ℕ
changed_word places old new had has = runs (λ place word. bit_or word (changed_at old new had has place)) places 0
