-- Document 01, "Response pages", 0020h: the two bytes of the status page that hold several fields.
use Rattle.std.specs.Prelude.{ℕ, ◌+◌, ◌*◌, ◌%◌, ◌^◌, Bool}
use Rattle.arrays.specs.Base.{bit}
use Rattle.wire.specs.Bits.{bits, bit_at}
use Rattle.status.specs.declared.StatusByte4.{StatusByte4}
use Rattle.status.specs.declared.StatusByte12.{StatusByte12}

-- "byte 4 nexus scope bits 7–5, set scope bits 2–0", with zeros between them
abbrev pub status_byte4 : ℕ → StatusByte4
status_byte4 b = record { nexus_scope = bits 7 5 b; zeros = bits 4 3 b; set_scope = bits 2 0 b }

-- put together again; of a scope its three lowest bits are told
abbrev pub joined4 : ℕ → ℕ → ℕ
joined4 nexus_scope set_scope = nexus_scope % 2 ^ 3 * 2 ^ 5 + set_scope % 2 ^ 3

-- "12: control bits 6–4 (0), VCELB bit 3 (0), CEEMS 2–1, RDMD 0"; bit 7 is zero too
abbrev pub status_byte12 : ℕ → StatusByte12
status_byte12 b = record { zeros = bits 7 3 b; ceems = bits 2 1 b; rdmd = bit_at 0 b }

-- put together again; of CEEMS its two lowest bits are told
abbrev pub joined12 : ℕ → Bool → ℕ
joined12 ceems rdmd = ceems % 2 ^ 2 * 2 ^ 1 + bit rdmd
