-- Document 02, request 4: the lowest place by the lowest bit. `room` stays document 01's sentence; that the words give it is a law
-- (proofs/Words: room-by-words).
use Rattle.std.specs.Prelude.{ℕ, eqb, Option, Some, None}
use Rattle.std.specs.Int.Count.{count_trailing_zeros}
use Rattle.arrays.specs.Base.{when◌then◌else◌}
use Rattle.arrays.specs.Arrays.{word_of}
use Rattle.device.specs.Record.{State}
use Rattle.places.specs.Actions.{empty_local, unlocked_local, free_at, evicting_at}
use Rattle.places.specs.declared.Room.{Room}
use Rattle.places.specs.declared.LocalWords.{LocalWords}

-- "Form a small word with one bit for each place": of the empty places, and of those whose owner has lock 0
abbrev pub local_words : State → LocalWords
local_words s = record { empty = word_of empty_local s.sets; unlocked = word_of (unlocked_local s) s.sets }

-- "and take the lowest set bit by the language's own count": the trailing zeros of 32 bits; where no bit is set there is none
abbrev pub lowest_bit : ℕ → Option ℕ
lowest_bit word = when eqb word 0 then None else Some (count_trailing_zeros 32 word)

-- 01's "the lowest empty one, else the lowest whose owner has lock 0, which is first released; else answer 10"
abbrev pub room_by : LocalWords → Room
room_by words = free_at (lowest_bit words.empty) (evicting_at (lowest_bit words.unlocked))
