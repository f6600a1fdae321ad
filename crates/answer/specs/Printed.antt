-- Document 01, "Answer numbers": the table as it is printed, with the rows of document 02, for the answers in the order of their numbers. The byte is
-- that which answer 8 carries.
use Rattle.std.specs.Prelude.{ℕ, List, [], ◌∷◌}
use Rattle.answer.specs.Answers.{row, carrying}
use Rattle.answer.specs.declared.Row.{Row}
use Rattle.answer.specs.declared.Change.TheVariants.{Unchanged, AnotherCleared, VendorCleared, Registered}
use Rattle.answer.specs.declared.Answer.{Answer}
use Rattle.answer.specs.declared.Answer.TheVariants.{Done, NotWellFormed, NexusAbove, ChangedByAnotherNexus, ChangedByVendorEvent, ProtocolNotSupported, PageNotSupported, PageLengthWrong, FieldWrong, FifthSupplementalKey, NoPlaceForLocal, KeyInstanceChanged, ParametersNotUsable, PlaceAbove, BlockNotKnown, UnableToDecrypt, NotEncrypted, KeyIncorrect}

-- the rows as they are printed: number, sense key, ASC, ASCQ (zeros for "none"), record change
abbrev pub printed : (byte : ℕ) → List Row
printed byte =
    row 0 0 0 0 Unchanged
    ∷ row 1 0 0 0 Unchanged
    ∷ row 2 0 0 0 Unchanged
    ∷ row 3 6 0x2A 0x11 AnotherCleared
    ∷ row 4 6 0x2A 0x12 VendorCleared
    ∷ row 5 5 0x24 0x00 Unchanged
    ∷ row 6 5 0x24 0x00 Registered
    ∷ row 7 5 0x1A 0x00 Registered
    ∷ carrying byte (row 8 5 0x26 0x00 Registered)  -- document 02, request 6: "Answer 8 now carries the number of the faulty byte"
    ∷ row 9 5 0x55 0x08 Registered
    ∷ row 10 5 0x55 0x03 Registered
    ∷ row 11 7 0x2A 0x13 Unchanged
    ∷ row 12 7 0x74 0x07 Unchanged
    ∷ row 13 0 0 0 Unchanged
    ∷ row 14 0 0 0 Unchanged  -- document 02, request 1: "14 without sense", "15 (7/74/01)", "16 (7/74/02)", "17 (7/74/03)"
    ∷ row 15 7 0x74 0x01 Unchanged
    ∷ row 16 7 0x74 0x02 Unchanged
    ∷ row 17 7 0x74 0x03 Unchanged
    ∷ []

-- the answers in the order of their numbers
abbrev pub every_answer : (byte : ℕ) → List Answer
every_answer byte =
    Done
    ∷ NotWellFormed
    ∷ NexusAbove
    ∷ ChangedByAnotherNexus
    ∷ ChangedByVendorEvent
    ∷ ProtocolNotSupported
    ∷ PageNotSupported
    ∷ PageLengthWrong
    ∷ FieldWrong byte
    ∷ FifthSupplementalKey
    ∷ NoPlaceForLocal
    ∷ KeyInstanceChanged
    ∷ ParametersNotUsable
    ∷ PlaceAbove
    ∷ BlockNotKnown
    ∷ UnableToDecrypt
    ∷ NotEncrypted
    ∷ KeyIncorrect
    ∷ []
