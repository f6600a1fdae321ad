-- Files salvaged, by computing: the verdict, each byte of the buffer, and the report to the character.
-- Assumes nothing.
use Prim.Native.Nat.{ℕ}
use mathlib.Core.List.{List, [], ◌∷◌, ◌++◌}
use lib.Dec.{T, eqb}
use lib.ListN.{take, replicate}
use Rattle.wire.specs.Parts.{joined, parts}
use Rattle.text.specs.Characters.{bytes_of}
use Rattle.text.specs.Decimal.{digits_within, decimal}
use Rattle.recording.specs.Forms.{form_of}
use Rattle.recording.specs.Entries.{entry_of, sound, sound_run}
use Rattle.recording.specs.Files.{file_of}
use Rattle.recording.specs.Claims.{event, under}
use Rattle.salvage.specs.Salvage.{kept_count, is_salvageable}
use Rattle.salvage.specs.Reports.{report_parts, report_text}
use Rattle.salvage.specs.Claims.{Salvaging, salvages, shows, refuses, tried_so}

abbrev demount : List ℕ
demount = event 5 0 0 0 0

-- of no kind
abbrev unknown : List ℕ
unknown = event 12 0 0 0 0

-- SECURITY PROTOCOL OUT with a page of so many bytes at an offset
abbrev out : (offset length : ℕ) → List ℕ
out offset length = event 2 3 0x10 offset length

abbrev two_bytes : List ℕ
two_bytes = 0xAA ∷ 0xBB ∷ []

-- two demounts and two bytes, under a header with that page offset
abbrev offset : ℕ → List ℕ
offset from = under 2 8 from 26 (demount ++ demount ++ two_bytes)

unfoldable pub table : List Salvaging
table =
    -- "shorter than 8 bytes"
    refuses []
    ∷ refuses (replicate 7 0x00)
    ∷ refuses (take 7 (under 0 8 8 8 []))
    ∷ salvages (under 0 8 8 8 []) (under 0 8 8 8 []) "events 0 -> 0\nfirst event 8 -> 8\npage bytes 8 -> 8\ntotal 8 -> 8\ndropped 0\n"
    -- "the stored page offset isn't 8 plus a multiple of 8, or lies past the file"
    ∷ refuses (replicate 8 0x00)
    ∷ refuses (offset 0)
    ∷ refuses (offset 7)
    ∷ salvages (offset 8) (under 0 8 8 26 (demount ++ demount ++ two_bytes)) "events 2 -> 0\nfirst event 8 -> 8\npage bytes 8 -> 8\ntotal 26 -> 26\ndropped 0\n"
    ∷ refuses (offset 9)
    ∷ refuses (offset 15)
    ∷ salvages (offset 16) (under 1 8 16 26 (demount ++ demount ++ two_bytes)) "events 2 -> 1\nfirst event 8 -> 8\npage bytes 16 -> 16\ntotal 26 -> 26\ndropped 0\n"
    ∷ refuses (offset 17)
    ∷ salvages (offset 24) (offset 24) "events 2 -> 2\nfirst event 8 -> 8\npage bytes 24 -> 24\ntotal 26 -> 26\ndropped 0\n"
    ∷ refuses (offset 26)
    ∷ refuses (offset 32)
    ∷ refuses (offset 65528)
    ∷ refuses (replicate 8 0xFF ++ demount)
    ∷ refuses (replicate 24 0xFF)
    -- "wrong headers": a count too high and too low, a total and an offset of the first event that lie, all of it
    ∷ salvages (under 5 8 16 16 demount) (under 1 8 16 16 demount) "events 5 -> 1\nfirst event 8 -> 8\npage bytes 16 -> 16\ntotal 16 -> 16\ndropped 0\n"
    ∷ salvages (under 0 8 16 16 demount) (under 1 8 16 16 demount) "events 0 -> 1\nfirst event 8 -> 8\npage bytes 16 -> 16\ntotal 16 -> 16\ndropped 0\n"
    ∷ salvages (under 1 8 16 65535 demount) (under 1 8 16 16 demount) "events 1 -> 1\nfirst event 8 -> 8\npage bytes 16 -> 16\ntotal 65535 -> 16\ndropped 0\n"
    ∷ salvages (under 1 8 16 16 (demount ++ two_bytes)) (under 1 8 16 18 (demount ++ two_bytes)) "events 1 -> 1\nfirst event 8 -> 8\npage bytes 16 -> 16\ntotal 16 -> 18\ndropped 0\n"
    ∷ salvages (under 1 16 16 16 demount) (under 1 8 16 16 demount) "events 1 -> 1\nfirst event 16 -> 8\npage bytes 16 -> 16\ntotal 16 -> 16\ndropped 0\n"
    ∷ salvages (under 65535 65535 16 65535 demount) (under 1 8 16 16 demount) "events 65535 -> 1\nfirst event 65535 -> 8\npage bytes 16 -> 16\ntotal 65535 -> 16\ndropped 0\n"
    -- "cut tails": a byte of the third event's page is gone, so it is dropped, and so is the sound one after it; the cut page's rest stays
    ∷ salvages (under 4 8 40 44 (out 0 2 ++ demount ++ out 2 2 ++ demount ++ two_bytes ++ 0xCC ∷ []))
    (under 2 8 24 27 (out 0 2 ++ demount ++ two_bytes ++ 0xCC ∷ []))
    "events 4 -> 2\nfirst event 8 -> 8\npage bytes 40 -> 24\ntotal 44 -> 27\ndropped 2\n"
    -- all page bytes are gone, and the first event's page is empty
    ∷ salvages (under 2 8 24 28 (out 0 0 ++ out 0 4)) (under 1 8 16 16 (out 0 0)) "events 2 -> 1\nfirst event 8 -> 8\npage bytes 24 -> 16\ntotal 28 -> 16\ndropped 1\n"
    -- a page that ends with the page bytes, and one that ends a byte past them
    ∷ salvages (under 1 8 16 18 (out 1 1 ++ two_bytes)) (under 1 8 16 18 (out 1 1 ++ two_bytes)) "events 1 -> 1\nfirst event 8 -> 8\npage bytes 16 -> 16\ntotal 18 -> 18\ndropped 0\n"
    ∷ salvages (under 1 8 16 18 (out 1 2 ++ two_bytes)) (under 0 8 8 10 two_bytes) "events 1 -> 0\nfirst event 8 -> 8\npage bytes 16 -> 8\ntotal 18 -> 10\ndropped 1\n"
    -- an event wrong first, between and last: those after it are dropped too
    ∷ salvages (under 3 8 32 34 (unknown ++ demount ++ demount ++ two_bytes)) (under 0 8 8 10 two_bytes) "events 3 -> 0\nfirst event 8 -> 8\npage bytes 32 -> 8\ntotal 34 -> 10\ndropped 3\n"
    ∷ salvages (under 3 8 32 34 (demount ++ unknown ++ demount ++ two_bytes)) (under 1 8 16 18 (demount ++ two_bytes)) "events 3 -> 1\nfirst event 8 -> 8\npage bytes 32 -> 16\ntotal 34 -> 18\ndropped 2\n"
    ∷ salvages (under 3 8 32 34 (demount ++ demount ++ unknown ++ two_bytes)) (under 2 8 24 26 (demount ++ demount ++ two_bytes)) "events 3 -> 2\nfirst event 8 -> 8\npage bytes 32 -> 24\ntotal 34 -> 26\ndropped 1\n"
    -- a support flag of 2, an unused field that isn't zero
    ∷ salvages (file_of (demount ++ event 3 3 2 0 0) []) (file_of demount []) "events 2 -> 1\nfirst event 8 -> 8\npage bytes 24 -> 16\ntotal 24 -> 16\ndropped 1\n"
    ∷ salvages (file_of (demount ++ event 5 1 0 0 0) []) (file_of demount []) "events 2 -> 1\nfirst event 8 -> 8\npage bytes 24 -> 16\ntotal 24 -> 16\ndropped 1\n"
    -- "A sound file comes out byte for byte the same": with page bytes that no event uses, and with pages that overlap
    ∷ salvages (file_of demount two_bytes) (file_of demount two_bytes) "events 1 -> 1\nfirst event 8 -> 8\npage bytes 16 -> 16\ntotal 18 -> 18\ndropped 0\n"
    ∷ salvages (file_of (out 0 1 ++ out 0 2 ++ out 1 0) (0xAA ∷ 0xBB ∷ 0xCC ∷ [])) (file_of (out 0 1 ++ out 0 2 ++ out 1 0) (0xAA ∷ 0xBB ∷ 0xCC ∷ []))
    "events 3 -> 3\nfirst event 8 -> 8\npage bytes 32 -> 32\ntotal 35 -> 35\ndropped 0\n"
    -- "Other numbers are left to the calls": a nexus above 15, a place above 4
    ∷ salvages (file_of (event 3 16 1 0 0 ++ event 10 0 5 0 0) []) (file_of (event 3 16 1 0 0 ++ event 10 0 5 0 0) []) "events 2 -> 2\nfirst event 8 -> 8\npage bytes 24 -> 24\ntotal 24 -> 24\ndropped 0\n"
    -- a buffer too short
    ∷ shows 0 (under 3 8 32 34 (demount ++ unknown ++ demount ++ two_bytes)) (under 1 8 16 18 (demount ++ two_bytes)) "events 3 -> 1\nfirst event 8 -> 8\npage bytes 32 -> 16\ntotal 34 -> 18\ndropped 2\n"
    ∷ shows 17 (under 3 8 32 34 (demount ++ unknown ++ demount ++ two_bytes)) (under 1 8 16 18 (demount ++ two_bytes)) "events 3 -> 1\nfirst event 8 -> 8\npage bytes 32 -> 16\ntotal 34 -> 18\ndropped 2\n"
    ∷ []

pub table-salvaged : T (tried_so table)
unfolding tried_so table joined parts bytes_of digits_within decimal form_of entry_of sound sound_run kept_count is_salvageable report_parts report_text
table-salvaged = tt

-- ---- "longer than 65,535", and the longest

abbrev many : ℕ → List ℕ
many n = replicate n 0x00

-- 65,535 bytes: 8,190 events, the others power-on, eight zeros each, and 7 page bytes
abbrev longest : (first : List ℕ) → List ℕ
longest first = under 8190 8 65528 0 (first ++ many 65519)

unfoldable pub limits : List Salvaging
limits =
    -- 65,535 bytes, in a buffer of 16, and 65,536
    shows 16 (under 0 8 8 8 (many 65527)) (under 0 8 8 65535 (many 8)) "events 0 -> 0\nfirst event 8 -> 8\npage bytes 8 -> 8\ntotal 8 -> 65535\ndropped 0\n"
    ∷ refuses (under 0 8 8 8 (many 65528))
    -- page offset 65,528
    ∷ salvages (longest unknown) (under 0 8 8 15 (many 7)) "events 8190 -> 0\nfirst event 8 -> 8\npage bytes 65528 -> 8\ntotal 0 -> 15\ndropped 8190\n"
    ∷ []

pub limits-salvaged : T (tried_so limits)
unfolding tried_so limits joined parts bytes_of digits_within decimal form_of entry_of sound sound_run kept_count is_salvageable report_parts report_text
limits-salvaged = tt

-- where none of them is wrong all 8,190 are kept
pub most-kept : T (eqb (kept_count (longest (many 8))) 8190)
unfolding parts form_of entry_of sound sound_run kept_count
most-kept = tt
