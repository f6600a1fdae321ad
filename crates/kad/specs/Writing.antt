-- The descriptors of key-associated data, as document 01 lays them out.
use Rattle.std.specs.Prelude.{ℕ, ◌+◌, List, [], ◌∷◌, ◌++◌, length, take}
use Rattle.wire.specs.Numbers.{two}
use Rattle.wire.specs.Buffers.{padded}
use Rattle.kad.specs.Kad.{u_most, a_most}
use Rattle.kad.specs.Reading.{descriptor_head}
use Rattle.kad.specs.declared.Kads.{Kads}
use Rattle.kad.specs.declared.Written.{Written}

-- type, a zero byte, two bytes of length, data; nothing where there are no data
abbrev pub descriptor : ℕ → List ℕ → List ℕ
descriptor kind [] = []
descriptor kind (x ∷ d) = kind ∷ 0 ∷ (two (length (x ∷ d)) ++ x ∷ d)

abbrev pub u_data : Kads → List ℕ
u_data k = take k.ukad.length k.ukad.bytes

abbrev pub a_data : Kads → List ℕ
a_data k = take k.akad.length k.akad.bytes

-- U-KAD first
unfoldable pub descriptors : Kads → List ℕ
descriptors k = descriptor 0 (u_data k) ++ descriptor 1 (a_data k)

-- the most bytes of both
abbrev pub list_most : ℕ
list_most = descriptor_head + u_most + (descriptor_head + a_most)

-- their count, and the bytes with zeros after them
abbrev pub written : Kads → Written
written k = record { length = length (descriptors k); bytes = padded list_most (descriptors k) }
