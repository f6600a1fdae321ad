-- Bytes of document 01's pages, taken apart and put together.
use Prim.Native.Nat.{ℕ}
use mathlib.Core.Path.{◌≡◌, refl}
use mathlib.Core.Bool.{true, false}
use mathlib.Core.List.{List, [], ◌∷◌, ◌++◌}
use lib.ListN.{replicate}
use Rattle.wire.specs.Numbers.{word_at, number_at, two, four, wide, eight}
use Rattle.wire.specs.Bits.{bits, bit_at}
use Rattle.wire.specs.Buffers.{shown, padded, all_zero}
use Rattle.wire.specs.Rules.{length_wrong, breach, zero_rules}

-- page K's bytes 0 to 5, "length 0030h, byte 4 21h, byte 5 44h"
abbrev k : List ℕ
k = 0x00 ∷ 0x10 ∷ 0x00 ∷ 0x30 ∷ 0x21 ∷ 0x44 ∷ []

k-code : word_at k 0 ≡ 0x10
k-code = refl

k-length : word_at k 2 ≡ 48
k-length = refl

-- P3: page K has 52 bytes; cut to 51 its length is wrong
k-whole : length_wrong 20 (k ++ replicate 46 0) ≡ false
k-whole = refl

k-cut : length_wrong 20 (k ++ replicate 45 0) ≡ true
k-cut = refl

-- a byte past the end is 0
k-past : word_at k 5 ≡ 0x4400
k-past = refl

-- P2's status, bytes 8 to 11
p2-number : four 1 ≡ 0x00 ∷ 0x00 ∷ 0x00 ∷ 0x01 ∷ []
p2-number = refl

-- bits 5 to 4, and bit 3, of byte 5 of page K with RDMC 11b
two-bits : bits 5 4 0x74 ≡ 3
two-bits = refl

one_bit : bit_at 3 0x74 ≡ false
one_bit = refl

-- the order of the bytes
page-code : two 0x0120 ≡ 0x01 ∷ 0x20 ∷ []
page-code = refl

number-order : number_at (0x01 ∷ 0x02 ∷ 0x03 ∷ 0x04 ∷ []) 0 ≡ 0x01020304
number-order = refl

eight-order : (eight 0x0102030405060708 ≡ 1 ∷ 2 ∷ 3 ∷ 4 ∷ 5 ∷ 6 ∷ 7 ∷ 8 ∷ []) × (wide (1 ∷ 2 ∷ 3 ∷ 4 ∷ 5 ∷ 6 ∷ 7 ∷ 8 ∷ 9 ∷ []) ≡ 0x0102030405060708)
eight-order = (refl, refl)

-- a page in a shorter buffer, and in a longer one
short-buffer : shown (1 ∷ 2 ∷ 3 ∷ []) (8 ∷ 9 ∷ []) ≡ 1 ∷ 2 ∷ []
short-buffer = refl

long-buffer : shown (1 ∷ []) (8 ∷ 9 ∷ []) ≡ 1 ∷ 9 ∷ []
long-buffer = refl

four_bytes : padded 4 (5 ∷ 6 ∷ []) ≡ 5 ∷ 6 ∷ 0 ∷ 0 ∷ []
four_bytes = refl

-- bytes 11 to 13, of which byte 12 is not zero
zeros-broken : breach (zero_rules 11 (0 ∷ 7 ∷ 1 ∷ [])) 14 ≡ 12
zeros-broken = refl

not-all-zero : all_zero (0 ∷ 7 ∷ []) ≡ false
not-all-zero = refl
