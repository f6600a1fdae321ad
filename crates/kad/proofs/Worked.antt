-- Lists of descriptors, read and written.
use Prim.Native.Nat.{ℕ}
use mathlib.Core.Path.{◌≡◌, refl}
use mathlib.Core.Bool.{true, false}
use mathlib.Core.List.{List, [], ◌∷◌, ◌++◌}
use lib.ListN.{replicate}
use Rattle.kad.specs.Kad.{kads_of, no_kads, lengths_good, tails_good, kads_zero}
use Rattle.kad.specs.Reading.{descriptor_rules, listed, read_kads}
use Rattle.kad.specs.Writing.{descriptors, list_most, written}
use Rattle.kad.specs.declared.Kads.{Kads}

-- n bytes of data after their type and their length
abbrev of : ℕ → ℕ → List ℕ
of kind n = kind ∷ 0 ∷ 0 ∷ n ∷ replicate n 7

-- ---- lengths

-- "U-KAD of 32 bytes taken"
u-32 : read_kads (of 0 32) ≡ record { good = 36; kads = kads_of (replicate 32 7) [] }
unfolding descriptor_rules listed
u-32 = refl

-- "of 33: 8", at the first length byte
u-33 : read_kads (of 0 33) ≡ record { good = 2; kads = no_kads }
unfolding descriptor_rules listed
u-33 = refl

-- "of 0: 8"
u-0 : read_kads (of 0 0) ≡ record { good = 2; kads = no_kads }
unfolding descriptor_rules listed
u-0 = refl

-- "type 1 A-KAD, 1 to 12"
a_1 : read_kads (of 1 1) ≡ record { good = 5; kads = kads_of [] (7 ∷ []) }
unfolding descriptor_rules listed
a_1 = refl

a_12 : read_kads (of 1 12) ≡ record { good = 16; kads = kads_of [] (replicate 12 7) }
unfolding descriptor_rules listed
a_12 = refl

a_13 : read_kads (of 1 13) ≡ record { good = 2; kads = no_kads }
unfolding descriptor_rules listed
a_13 = refl

a_0 : read_kads (of 1 0) ≡ record { good = 2; kads = no_kads }
unfolding descriptor_rules listed
a_0 = refl

-- the higher length byte counts
u-256 : (read_kads (0 ∷ 0 ∷ 1 ∷ 0 ∷ replicate 256 7)).good ≡ 2
unfolding descriptor_rules listed
u-256 = refl

-- ---- types

-- a list may be empty
no-list : read_kads [] ≡ record { good = 0; kads = no_kads }
unfolding listed
no-list = refl

-- both, the most that a list can have
both : read_kads (of 0 32 ++ of 1 12) ≡ record { good = list_most; kads = kads_of (replicate 32 7) (replicate 12 7) }
unfolding descriptor_rules listed
both = refl

-- "Types rise": 1 then 0 points to the second descriptor's type byte
falling : (read_kads (of 1 12 ++ of 0 32)).good ≡ 16
unfolding descriptor_rules listed
falling = refl

-- "so each stands at most once"
u-twice : (read_kads (of 0 1 ++ of 0 1)).good ≡ 5
unfolding descriptor_rules listed
u-twice = refl

a-twice : (read_kads (of 1 1 ++ of 1 1)).good ≡ 5
unfolding descriptor_rules listed
a-twice = refl

-- there is no type 2
third-type : (read_kads (of 0 1 ++ of 2 1)).good ≡ 5
unfolding descriptor_rules listed
third-type = refl

-- ---- the end, and the second byte

-- a descriptor cut short points to its type byte, in its data
short-data : (read_kads (of 0 1 ++ 1 ∷ 0 ∷ 0 ∷ 2 ∷ 7 ∷ [])).good ≡ 5
unfolding descriptor_rules listed
short-data = refl

-- and before them
short-head : (read_kads (of 0 1 ++ 1 ∷ 0 ∷ 0 ∷ [])).good ≡ 5
unfolding descriptor_rules listed
short-head = refl

-- "a zero byte"
second-byte : (read_kads (0 ∷ 9 ∷ 0 ∷ 1 ∷ 7 ∷ [])).good ≡ 1
unfolding descriptor_rules listed
second-byte = refl

-- ---- written

abbrev some : Kads
some = kads_of (1 ∷ 2 ∷ []) (3 ∷ [])

some_written : descriptors some ≡ 0 ∷ 0 ∷ 0 ∷ 2 ∷ 1 ∷ 2 ∷ 1 ∷ 0 ∷ 0 ∷ 1 ∷ 3 ∷ []
unfolding descriptors
some_written = refl

some-length : (written some).length ≡ 11
unfolding descriptors
some-length = refl

-- no data, no descriptor
none_written : written no_kads ≡ record { length = 0; bytes = replicate list_most 0 }
unfolding descriptors
none_written = refl

-- ---- in range

full-good : lengths_good (kads_of (replicate 32 7) (replicate 12 7)) ≡ true
full-good = refl

long-bad : lengths_good (kads_of (replicate 33 7) []) ≡ false
long-bad = refl

tail-good : tails_good some ≡ true
tail-good = refl

-- a byte past the length
tail-bad : tails_good (record { ukad = record { length = 1; bytes = 7 ∷ 7 ∷ [] }; akad = no_kads.akad }) ≡ false
tail-bad = refl

none-zero : kads_zero no_kads ≡ true
none-zero = refl

some-not-zero : kads_zero some ≡ false
some-not-zero = refl
