-- Files that replay takes, and files that it refuses, by computing.
-- Assumes nothing.
use Prim.Native.Nat.{ℕ}
use mathlib.Core.Bool.{true, false}
use mathlib.Core.List.{List, [], ◌∷◌, ◌++◌}
use mathlib.Core.Path.{◌≡◌, refl}
use lib.Dec.{T}
use lib.ListN.{take, replicate}
use Rattle.wire.specs.Parts.{parts}
use Rattle.places.specs.declared.Event.TheVariants.{Demount}
use Rattle.drive.specs.Calls.{write, happens}
use Rattle.drive.specs.Claims.{sends}
use Rattle.calls.specs.Asking.{event_of, asked_of}
use Rattle.recording.specs.Forms.{form_of}
use Rattle.recording.specs.Entries.{entry_of, sound, call}
use Rattle.recording.specs.Files.{headed, sound_file, calls_of, file_of}
use Rattle.recording.specs.Claims.{event, under, Tried, takes, refuses, agree, Fielded, fielded, fields_agree}

-- "The file 00 01 00 08 00 10 00 10 05 00 00 00 00 00 00 00": one demount
abbrev demount : List ℕ
demount = event 5 0 0 0 0

abbrev example : List ℕ
example = 0x00 ∷ 0x01 ∷ 0x00 ∷ 0x08 ∷ 0x00 ∷ 0x10 ∷ 0x00 ∷ 0x10 ∷ 0x05 ∷ replicate 7 0x00

abbrev two_bytes : List ℕ
two_bytes = 0xAA ∷ 0xBB ∷ []

unfoldable pub files : List Tried
files =
    -- "a file under 8 bytes"
    refuses []
    ∷ refuses (replicate 7 0x00)
    ∷ refuses (take 7 (under 0 8 8 7 []))
    ∷ takes (under 0 8 8 8 [])
    -- "a total differing from its length"
    ∷ takes example
    ∷ refuses (under 1 8 16 17 demount)
    ∷ refuses (under 1 8 16 15 demount)
    ∷ refuses (under 1 8 16 0 demount)
    ∷ refuses (under 1 8 16 16 (demount ++ 0x00 ∷ []))
    ∷ refuses (take 15 example)
    -- "offset of the first event (8)"
    ∷ refuses (under 1 7 16 16 demount)
    ∷ refuses (under 1 9 16 16 demount)
    ∷ refuses (under 1 0 16 16 demount)
    ∷ refuses (under 0 16 16 16 demount)
    -- "The page bytes start just after the last event"
    ∷ refuses (under 1 8 15 16 demount)
    ∷ refuses (under 1 8 17 17 (demount ++ 0x00 ∷ []))
    ∷ refuses (under 1 8 8 16 demount)
    ∷ refuses (under 1 8 24 24 (demount ++ demount))
    ∷ refuses (under 1 8 0 16 demount)
    -- "event count"
    ∷ refuses (under 0 8 16 16 demount)
    ∷ refuses (under 2 8 16 16 demount)
    ∷ refuses (under 2 8 24 16 demount)
    ∷ refuses (under 65535 8 16 16 demount)
    ∷ refuses (under 8191 8 65536 16 demount)
    -- "a page with offset plus length past the page bytes", by a byte
    ∷ takes (file_of (event 2 3 0x10 0 2) two_bytes)
    ∷ refuses (file_of (event 2 3 0x10 0 3) two_bytes)
    ∷ refuses (file_of (event 2 3 0x10 1 2) two_bytes)
    ∷ refuses (file_of (event 2 3 0x10 3 0) two_bytes)
    ∷ refuses (file_of (event 2 3 0x10 0 1) [])
    -- one wrong event among others, first, between and last
    ∷ takes (file_of (demount ++ demount ++ demount) [])
    ∷ refuses (file_of (event 12 0 0 0 0 ++ demount ++ demount) [])
    ∷ refuses (file_of (demount ++ event 12 0 0 0 0 ++ demount) [])
    ∷ refuses (file_of (demount ++ demount ++ event 12 0 0 0 0) [])
    -- what is not wrong: no event; a page of no bytes; overlapping pages; page bytes that no event uses
    ∷ takes (file_of [] [])
    ∷ takes (file_of [] two_bytes)
    ∷ takes (file_of (event 2 3 0x10 0 0) [])
    ∷ takes (file_of (event 2 3 0x10 2 0) two_bytes)
    ∷ takes (file_of (event 2 3 0x10 0 2 ++ event 2 4 0x10 1 1 ++ event 2 5 0x10 0 2) two_bytes)
    ∷ takes (file_of demount two_bytes)
    -- "Other numbers are left to the calls": a read of block kind 3, a nexus above 15, a place above 4, any page code
    ∷ takes (file_of (event 11 3 0x300 0 0) [])
    ∷ takes (file_of (event 3 16 1 0 0 ++ event 6 255 0 0 0 ++ event 8 16 0 0 0 ++ event 11 255 0 0 0) [])
    ∷ takes (file_of (event 10 0 5 0 0 ++ event 10 0 65535 0 0) [])
    ∷ takes (file_of (event 1 3 0x77 0 0 ++ event 2 3 0x20 0 0) [])
    ∷ []

pub files-computed : T (agree files)
unfolding agree files parts form_of entry_of sound headed sound_file
files-computed = tt

-- "wrong field (.. kind, support flag, unused field not zero)": a kind; is it one, and may it have a nexus, argument 1, a larger one, a page
unfoldable pub fields : List Fielded
fields =
    fielded 0 true false false false false
    ∷ fielded 1 true true true true false
    ∷ fielded 2 true true true true true
    ∷ fielded 3 true true true false false
    ∷ fielded 4 true false false false false
    ∷ fielded 5 true false false false false
    ∷ fielded 6 true true false false false
    ∷ fielded 7 true false false false false
    ∷ fielded 8 true true false false false
    ∷ fielded 9 true false false false false
    ∷ fielded 10 true false true true false
    ∷ fielded 11 true true true true false
    ∷ fielded 12 false false false false false
    ∷ fielded 13 false false false false false
    ∷ fielded 128 false false false false false
    ∷ fielded 253 false false false false false
    ∷ fielded 255 false false false false false
    ∷ []

pub fields-computed : T (fields_agree fields)
unfolding fields_agree fields parts form_of entry_of sound headed sound_file
fields-computed = tt

-- the calls of a file: offsets count from the page bytes, and no event is left out
pub calls-computed : calls_of (file_of (event 5 0 0 0 0 ++ event 2 3 0x10 1 2 ++ event 3 4 1 0 0) (0xAA ∷ 0xBB ∷ 0xCC ∷ [])) ≡ happens Demount ∷ sends 3 (0xBB ∷ 0xCC ∷ []) ∷ write 4 true ∷ []
unfolding parts entry_of call event_of asked_of
calls-computed = refl
