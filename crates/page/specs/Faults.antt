-- Document 02, request 6, in plain relations: what is wrong with a Set Data Encryption page, and at which byte i, in document 01's order (proofs/Faults:
-- the rules of `every_rule` break there and nowhere else). Of the descriptors kad/specs/Pointing has the like.
use Rattle.std.specs.Prelude.{ℕ, ◌+◌, ◌<◌, ◌≤◌, ◌≡◌, true, false, ◌⊎◌, List, length, drop, None}
use Rattle.wire.specs.Numbers.{byte_at, word_at}
use Rattle.kad.specs.Pointing.{ListFault}
use Rattle.page.specs.Fields.{scope_of, reserved_of, sdk_of}
use Rattle.page.specs.Byte5.{RdmcFault, CeemFault}

-- "Each reserved byte is a field of its own."
abbrev pub ReservedFault : List ℕ → ℕ → Type 0
ReservedFault p i = (11 ≤ i) × ((i < 18) × (byte_at p i ≡ 0 → ⊥))

-- "algorithm 1; both formats 0"
abbrev pub PlainFault : List ℕ → ℕ → Type 0
PlainFault p i = ((i ≡ 8) × (byte_at p 8 ≡ 1 → ⊥)) ⊎ (((i ≡ 9) × (byte_at p 9 ≡ 0 → ⊥)) ⊎ ((i ≡ 10) × (byte_at p 10 ≡ 0 → ⊥)))

-- "Key length is 32 where encryption is 2 or decryption is 2 or 3, otherwise 0"
abbrev pub KeyDue : List ℕ → Type 0
KeyDue p = (byte_at p 6 ≡ 2) ⊎ ((byte_at p 7 ≡ 2) ⊎ (byte_at p 7 ≡ 3))

abbrev pub KeyLengthFault : List ℕ → Type 0
KeyLengthFault p = (KeyDue p × (word_at p 18 ≡ 32 → ⊥)) ⊎ ((KeyDue p → ⊥) × (word_at p 18 ≡ 0 → ⊥))

-- "a key cut by the page's end"
abbrev pub KeyCut : List ℕ → Type 0
KeyCut p = length p < 20 + word_at p 18

-- "With LOCAL or ALL and SDK 0", up to the key's end
abbrev pub SetFault : List ℕ → ℕ → Type 0
SetFault p i =
    ((i ≡ 4) × (reserved_of p ≡ 0 → ⊥))
    ⊎ (ReservedFault p i
    ⊎ (((i ≡ 6) × (2 < byte_at p 6))
    ⊎ (((i ≡ 7) × (3 < byte_at p 7))
    ⊎ (PlainFault p i
    ⊎ (((i ≡ 18) × KeyLengthFault p)
    ⊎ (((i ≡ 18) × KeyCut p)
    ⊎ (((i ≡ 5) × RdmcFault p)
    ⊎ ((i ≡ 5) × CeemFault p))))))))

-- after the key: with ENCRYPT a descriptor's; "Without ENCRYPT the list is empty"
abbrev pub AfterFault : List ℕ → ℕ → Type 0
AfterFault p i =
    let start = 20 + word_at p 18 in
    ((byte_at p 6 ≡ 2) × ListFault (length (drop start p)) start (drop start p) None i)
    ⊎ ((byte_at p 6 ≡ 2 → ⊥) × ((i ≡ start) × (start < length p)))

-- "With SDK 1 (LOCAL or ALL)"
abbrev pub SupplementalFault : List ℕ → ℕ → ℕ → ℕ → Type 0
SupplementalFault p scope mode i =
    ((i ≡ 4) × (scope_of p ≡ scope → ⊥))
    ⊎ (((i ≡ 7) × (byte_at p 7 ≡ mode → ⊥))
    ⊎ (((i ≡ 7) × ((mode ≡ 2 → ⊥) × (mode ≡ 3 → ⊥)))
    ⊎ (((i ≡ 4) × (reserved_of p ≡ 0 → ⊥))
    ⊎ (ReservedFault p i
    ⊎ (PlainFault p i
    ⊎ (((i ≡ 18) × (word_at p 18 ≡ 32 → ⊥))
    ⊎ (((i ≡ 18) × KeyCut p)
    ⊎ ((i ≡ 52) × (52 < length p)))))))))

-- by the scope: with PUBLIC nothing more is asked
abbrev pub ScopedFault : List ℕ → ℕ → ℕ → ℕ → Type 0
ScopedFault p scope mode i =
    (scope_of p ≡ 0 → ⊥) × (((sdk_of p ≡ true) × SupplementalFault p scope mode i) ⊎ ((sdk_of p ≡ false) × (SetFault p i ⊎ AfterFault p i)))

-- the whole page
abbrev pub PageFault : List ℕ → ℕ → ℕ → ℕ → Type 0
PageFault p scope mode i = ((i ≡ 0) × (word_at p 0 ≡ 0x10 → ⊥)) ⊎ (((i ≡ 4) × (2 < scope_of p)) ⊎ ScopedFault p scope mode i)
