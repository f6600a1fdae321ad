-- Document 01, "Answer numbers": the table, a row for each answer; with the rows that document 02 adds.
use Rattle.std.specs.Prelude.{ℕ, Bool, eqb, Result, Ok, Err, ⊤}
use Rattle.arrays.specs.Base.{when◌then◌else◌}
use Rattle.answer.specs.declared.Answer.{Answer}
use Rattle.answer.specs.declared.Answer.TheVariants.{Done, NotWellFormed, NexusAbove, ChangedByAnotherNexus, ChangedByVendorEvent, ProtocolNotSupported, PageNotSupported, PageLengthWrong, FieldWrong, FifthSupplementalKey, NoPlaceForLocal, KeyInstanceChanged, ParametersNotUsable, PlaceAbove, BlockNotKnown, UnableToDecrypt, NotEncrypted, KeyIncorrect}
use Rattle.answer.specs.declared.Sense.{Sense}
use Rattle.answer.specs.declared.Change.{Change}
use Rattle.answer.specs.declared.Change.TheVariants.{Unchanged, AnotherCleared, VendorCleared, Registered}
use Rattle.answer.specs.declared.Row.{Row}
use Rattle.answer.specs.declared.Refusal.{Refusal}

-- one row: the number, then sense key, ASC and ASCQ (zeros where there is none), then what a refusal changes of its sender's marks
-- ("none", "that flag cleared", "nexus registered")
abbrev pub row : ℕ → ℕ → ℕ → ℕ → Change → Row
row n key asc ascq change = record { number = n; sense = record { key = key; asc = asc; ascq = ascq }; change = change; faulty_byte = 0 }

-- Request 6: "Answer 8 now carries the number of the faulty byte". A row that carries it; any other has 0 there.
abbrev pub carrying : (byte : ℕ) → Row → Row
carrying byte r = record { number = r.number; sense = r.sense; change = r.change; faulty_byte = byte }

-- what "done" changes is ruled elsewhere
abbrev pub row_of : Answer → Row
row_of Done = row 0 0 0 0 Unchanged
row_of NotWellFormed = row 1 0 0 0 Unchanged
row_of NexusAbove = row 2 0 0 0 Unchanged
row_of ChangedByAnotherNexus = row 3 6 0x2A 0x11 AnotherCleared
row_of ChangedByVendorEvent = row 4 6 0x2A 0x12 VendorCleared
row_of ProtocolNotSupported = row 5 5 0x24 0x00 Unchanged
row_of PageNotSupported = row 6 5 0x24 0x00 Registered
row_of PageLengthWrong = row 7 5 0x1A 0x00 Registered
row_of (FieldWrong byte) = carrying byte (row 8 5 0x26 0x00 Registered)
row_of FifthSupplementalKey = row 9 5 0x55 0x08 Registered
row_of NoPlaceForLocal = row 10 5 0x55 0x03 Registered
row_of KeyInstanceChanged = row 11 7 0x2A 0x13 Unchanged
row_of ParametersNotUsable = row 12 7 0x74 0x07 Unchanged
row_of PlaceAbove = row 13 0 0 0 Unchanged
row_of BlockNotKnown = row 14 0 0 0 Unchanged
row_of UnableToDecrypt = row 15 7 0x74 0x01 Unchanged
row_of NotEncrypted = row 16 7 0x74 0x02 Unchanged
row_of KeyIncorrect = row 17 7 0x74 0x03 Unchanged

abbrev pub number_of : Answer → ℕ
number_of a = (row_of a).number

abbrev pub sense_of : Answer → Sense
sense_of a = (row_of a).sense

abbrev pub change_of : Answer → Change
change_of a = (row_of a).change

abbrev pub faulty_byte_of : Answer → ℕ
faulty_byte_of a = (row_of a).faulty_byte

-- answer 0
abbrev pub is_done : Answer → Bool
is_done a = eqb (number_of a) 0

-- answer 8
abbrev pub is_field_wrong : Answer → Bool
is_field_wrong a = eqb (number_of a) 8

-- "A refused answer carries its number and sense only."
abbrev pub refusal_of : Answer → Refusal
refusal_of a = record { answer = a; sense = sense_of a }

-- a check as the code gives it: passed, or its answer
abbrev pub passed : Answer → Result ⊤ Answer
passed a = when is_done a then Ok tt else Err a
