-- Document 02, request 6, in plain relations: which bytes of a list of descriptors are wrong (proofs/Pointing). s is the list; seen the last type
-- before it.
use Rattle.std.specs.Prelude.{ℕ, zero, suc, ◌+◌, ◌-◌, ◌<◌, ◌≤◌, ◌≡◌, ◌⊎◌, List, [], ◌∷◌, length, drop, Option, Some, None}
use Rattle.wire.specs.Numbers.{byte_at, word_at}

-- "Types rise": this one doesn't
abbrev pub NotRising : Option ℕ → ℕ → Type 0
NotRising None kind = ⊥
NotRising (Some before) kind = kind ≤ before

-- "Type 0 U-KAD, 1 to 32 bytes; type 1 A-KAD, 1 to 12": more
abbrev pub TooLong : (kind size : ℕ) → Type 0
TooLong kind size = ((kind ≡ 0) × (32 < size)) ⊎ ((kind ≡ 0 → ⊥) × (12 < size))

-- byte i of the first descriptor, counted from its own first
abbrev pub DescriptorFault : List ℕ → Option ℕ → ℕ → Type 0
DescriptorFault s seen i =
    -- its type
    ((i ≡ 0) × (1 < byte_at s 0))
    ⊎ (((i ≡ 0) × NotRising seen (byte_at s 0))
    -- "a descriptor cut short by the page's end to its type byte"
    ⊎ (((i ≡ 0) × (length s < 4))
    ⊎ (((i ≡ 0) × (length s < 4 + word_at s 2))
    -- "a zero byte"
    ⊎ (((i ≡ 1) × (byte_at s 1 ≡ 0 → ⊥))
    -- "a descriptor length to its first length byte"
    ⊎ (((i ≡ 2) × (word_at s 2 ≡ 0))
    ⊎ ((i ≡ 2) × TooLong (byte_at s 0) (word_at s 2)))))))

-- byte i of a page, in a list of at most n bytes that starts at byte k: "Each step reads one descriptor and hands the rest of the list on."
unfoldable pub ListFault : (n k : ℕ) → List ℕ → Option ℕ → ℕ → Type 0
ListFault zero k s seen i = ⊥
ListFault (suc n) k [] seen i = ⊥
ListFault (suc n) k (b ∷ s) seen i =
    let next = 4 + word_at (b ∷ s) 2 in
    ((k ≤ i) × DescriptorFault (b ∷ s) seen (i - k)) ⊎ ListFault n (k + next) (drop next (b ∷ s)) (Some b) i
