-- Document 02, request 6, in plain relations: what is wrong with a status page, and at which byte i, in document 01's order (proofs/Faults: the rules of
-- `every_status_rule` break there and nowhere else). Of the descriptors kad/specs/Pointing has the like.
use Rattle.std.specs.Prelude.{ℕ, ◌<◌, ◌≤◌, ◌≡◌, ◌⊎◌, List, length, drop, None}
use Rattle.wire.specs.Numbers.{byte_at, word_at}
use Rattle.kad.specs.Pointing.{ListFault}
use Rattle.status.specs.Bytes.{status_byte4, status_byte12}

-- "page code 0020h, fixed zeros zero, codes in range"
abbrev pub HeadFault : List ℕ → ℕ → Type 0
HeadFault p i =
    ((i ≡ 0) × (word_at p 0 ≡ 0x20 → ⊥))
    ⊎ (((i ≡ 4) × ((status_byte4 (byte_at p 4)).zeros ≡ 0 → ⊥))
    ⊎ (((i ≡ 12) × ((status_byte12 (byte_at p 12)).zeros ≡ 0 → ⊥))
    -- "Each reserved byte is a field of its own."
    ⊎ (((13 ≤ i) × ((i < 24) × (byte_at p i ≡ 0 → ⊥)))
    ⊎ (((i ≡ 4) × (2 < (status_byte4 (byte_at p 4)).nexus_scope))
    ⊎ (((i ≡ 4) × (2 < (status_byte4 (byte_at p 4)).set_scope))
    ⊎ (((i ≡ 5) × (2 < byte_at p 5))
    ⊎ (((i ≡ 6) × (3 < byte_at p 6))
    ⊎ ((i ≡ 7) × (1 < byte_at p 7)))))))))

-- "and descriptors formed as above"
abbrev pub StatusFault : List ℕ → ℕ → Type 0
StatusFault p i = HeadFault p i ⊎ ListFault (length (drop 24 p)) 24 (drop 24 p) None i
