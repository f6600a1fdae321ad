-- Key-associated data: U-KAD of 0 to 32 bytes, A-KAD of 0 to 12.
use Rattle.std.specs.Prelude.{ℕ, ◌≡◌, Bool, ◌&&◌, List, leb, eqb, length, drop, replicate}
use Rattle.arrays.specs.Base.{when◌then◌else◌}
use Rattle.wire.specs.Buffers.{padded, all_zero}
use Rattle.kad.specs.declared.Kad.{Kad}
use Rattle.kad.specs.declared.Kads.{Kads}

-- the most bytes of each
abbrev pub u_most : ℕ
u_most = 32

abbrev pub a_most : ℕ
a_most = 12

-- the data, and zeros past its length
abbrev pub kad : (most : ℕ) → List ℕ → Kad most
kad most d = record { length = length d; bytes = padded most d }

abbrev pub u_kad : List ℕ → Kad u_most
u_kad = kad u_most

abbrev pub a_kad : List ℕ → Kad a_most
a_kad = kad a_most

abbrev pub kads_of : List ℕ → List ℕ → Kads
kads_of u a = record { ukad = u_kad u; akad = a_kad a }

abbrev pub no_kads : Kads
no_kads = record { ukad = record { length = 0; bytes = replicate u_most 0 }; akad = record { length = 0; bytes = replicate a_most 0 } }

-- with the data of one type put in: type 0 is U-KAD, type 1 A-KAD
abbrev pub with_data : Kads → ℕ → List ℕ → Kads
with_data k kind d =
    when eqb kind 0 then record { ukad = u_kad d; akad = k.akad } else record { ukad = k.ukad; akad = a_kad d }

-- the lengths are in range
abbrev pub lengths_good : Kads → Bool
lengths_good k = leb k.ukad.length u_most && leb k.akad.length a_most

-- bytes past a length are zero
abbrev pub tails_good : Kads → Bool
tails_good k = all_zero (drop k.ukad.length k.ukad.bytes) && all_zero (drop k.akad.length k.akad.bytes)

-- the arrays have their sizes
abbrev pub Sized : Kads → Type 0
Sized k = (length k.ukad.bytes ≡ u_most) × (length k.akad.bytes ≡ a_most)

-- zero, all of it
abbrev pub kads_zero : Kads → Bool
kads_zero k = eqb k.ukad.length 0 && all_zero k.ukad.bytes && eqb k.akad.length 0 && all_zero k.akad.bytes
