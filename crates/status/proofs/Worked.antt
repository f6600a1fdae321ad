-- Pages of document 01, written and read.
use Prim.Native.Nat.{ℕ, zero, suc}
use mathlib.Core.Path.{◌≡◌, refl}
use mathlib.Core.Bool.{true, false}
use mathlib.Core.List.{List, [], ◌∷◌, ◌++◌, map}
use lib.ListN.{get_or, take, set, replicate}
use Rattle.answer.specs.declared.Answer.{Answer}
use Rattle.answer.specs.declared.Answer.TheVariants.{Done, PageLengthWrong}
use Rattle.kad.specs.Kad.{kads_of, no_kads}
use Rattle.kad.specs.Reading.{descriptor_rules, listed}
use Rattle.kad.specs.Rules.{list_rules}
use Rattle.kad.specs.Writing.{descriptors}
use Rattle.kad.specs.declared.Kads.{Kads}
use Rattle.parameters.specs.Fields.{key_size}
use Rattle.parameters.specs.declared.Fields.{Fields}
use Rattle.parameters.specs.Codes.{local_scope}
use Rattle.device.specs.Updates.{with_marks, with_scope, with_lock, with_saved, with_last_local, with_counter, with_sets, with_nexuses}
use Rattle.device.specs.Record.{State, established, empty_set, no_marks, new_nexus, power_on}
use Rattle.device.specs.Selecting.{owned_place, selected}
use Rattle.device.specs.declared.Nexus.{Nexus}
use Rattle.status.specs.Pages.{is_in_page, is_out_page, supported_in, supported_out, capabilities}
use Rattle.status.specs.Bytes.{status_byte4, joined4, status_byte12, joined12}
use Rattle.status.specs.Status.{status_bytes, status_of}
use Rattle.status.specs.Rules.{scope_rules, field_rules, head_rules}
use Rattle.status.specs.Reading.{read_of, refused_status, no_status, read_status}
use Rattle.status.specs.declared.Status.{Status}

-- ---- the pages that never change

-- "0000h: 00 00 00 08 00 00 00 01 00 12 00 20"
pub supported-in : supported_in ≡ 0x00 ∷ 0x00 ∷ 0x00 ∷ 0x08 ∷ 0x00 ∷ 0x00 ∷ 0x00 ∷ 0x01 ∷ 0x00 ∷ 0x12 ∷ 0x00 ∷ 0x20 ∷ []
supported-in = refl

-- "0001h: 00 01 00 02 00 10"
pub supported-out : supported_out ≡ 0x00 ∷ 0x01 ∷ 0x00 ∷ 0x02 ∷ 0x00 ∷ 0x10 ∷ []
supported-out = refl

-- "0012h: 00 12 00 0C 01 07 00 07, then 8 zeros"
pub capabilities-bytes : capabilities
    ≡ 0x00 ∷ 0x12 ∷ 0x00 ∷ 0x0C ∷ 0x01 ∷ 0x07 ∷ 0x00 ∷ 0x07 ∷ 0x00 ∷ 0x00 ∷ 0x00 ∷ 0x00 ∷ 0x00 ∷ 0x00 ∷ 0x00 ∷ 0x00 ∷ []
capabilities-bytes = refl

-- pages 0000h to 0021h that SECURITY PROTOCOL IN has, and OUT
abbrev codes : List ℕ
codes = 0x00 ∷ 0x01 ∷ 0x02 ∷ 0x10 ∷ 0x11 ∷ 0x12 ∷ 0x20 ∷ 0x21 ∷ []

in-pages : map is_in_page codes ≡ true ∷ true ∷ false ∷ false ∷ false ∷ true ∷ true ∷ false ∷ []
in-pages = refl

out-pages : map is_out_page codes ≡ false ∷ false ∷ false ∷ true ∷ false ∷ false ∷ false ∷ false ∷ []
out-pages = refl

-- ---- bytes 4 and 12

-- every bit set
full-4 : status_byte4 0xFF ≡ record { nexus_scope = 7; zeros = 3; set_scope = 7 }
full-4 = refl

full-12 : status_byte12 0xFF ≡ record { zeros = 31; ceems = 3; rdmd = true }
full-12 = refl

-- P2's: "21 .. 02"
p2-byte-4 : joined4 1 1 ≡ 0x21
p2-byte-4 = refl

p2-byte-12 : joined12 1 false ≡ 0x02
p2-byte-12 = refl

-- a PUBLIC nexus that a set with scope ALL serves
public-of-all : joined4 0 2 ≡ 0x02
public-of-all = refl

-- ---- P1

-- "00 20 00 14, then 20 zeros"
abbrev p1 : List ℕ
p1 = 0x00 ∷ 0x20 ∷ 0x00 ∷ 0x14 ∷ replicate 20 0

-- as power-on leaves it, each nexus is new, past the last one too
new : (count n : ℕ) → get_or (replicate count new_nexus) n new_nexus ≡ new_nexus
new zero n = refl
new (suc count) zero = refl
new (suc count) (suc n) = new count n

-- "status after power-on", of any nexus
pub p1-written : (n : ℕ) → status_bytes (status_of (power_on 16 5) n) ≡ p1
unfolding status_bytes descriptors power_on selected
p1-written n = rw (new 16 n) refl

pub p1-read : read_status p1 ≡ read_of no_status
unfolding read_status head_rules scope_rules field_rules list_rules listed
p1-read = refl

-- ---- P2

-- "00 20 00 14 21 02 02 01 00 00 00 01 02, then 11 zeros"
abbrev pub p2 : List ℕ
p2 = 0x00 ∷ 0x20 ∷ 0x00 ∷ 0x14 ∷ 0x21 ∷ 0x02 ∷ 0x02 ∷ 0x01 ∷ 0x00 ∷ 0x00 ∷ 0x00 ∷ 0x01 ∷ 0x02 ∷ replicate 11 0

-- what page K sets: modes 2 and 2, index 1, CEEM 1, CKOD, with key-associated data
abbrev fields : Kads → Fields
fields kads = record {
  encryption = 2;
  decryption = 2;
  index = 1;
  ceem = 1;
  rdmd = false;
  ckod = true;
  ckorp = false;
  ckorl = false;
  key = replicate key_size 0xAA;
  kads = kads;
}

abbrev local : Nexus
local = with_scope local_scope (with_lock true (with_saved 1 (with_last_local 1 (with_marks no_marks new_nexus))))

-- "nexus 3 sends K: place 1, number 1"
abbrev state : ℕ → Kads → State
state number kads = with_counter number (with_sets (set (replicate 5 (empty_set 0)) 1 (established 3 local_scope number (fields kads))) (with_nexuses (set (replicate 16 new_nexus) 3 local) (power_on 0 0)))

abbrev status : ℕ → Kads → Status
status number kads = record {
  nexus_scope = 1;
  set_scope = 1;
  encryption = 2;
  decryption = 2;
  index = 1;
  number = number;
  ceems = 1;
  rdmd = false;
  kads = kads;
}

pub p2-written : status_bytes (status_of (state 1 no_kads) 3) ≡ p2
unfolding status_bytes descriptors selected owned_place
p2-written = refl

pub p2-read : read_status p2 ≡ read_of (status 1 no_kads)
unfolding read_status head_rules scope_rules field_rules list_rules listed
p2-read = refl

-- the other nexuses' status is that after power-on
pub p2-others : status_bytes (status_of (state 1 no_kads) 4) ≡ p1
unfolding status_bytes descriptors selected
p2-others = refl

-- ---- an instance number of four bytes, and descriptors

abbrev kads : Kads
kads = kads_of (0x0A ∷ 0x0B ∷ []) (0x0C ∷ [])

-- the page length counts the bytes after byte 3
abbrev pub full : List ℕ
full =
    0x00 ∷ 0x20 ∷ 0x00 ∷ 0x1F ∷ 0x21 ∷ 0x02 ∷ 0x02 ∷ 0x01 ∷ 0x01 ∷ 0x02 ∷ 0x03 ∷ 0x04 ∷ 0x02
    ∷ (replicate 11 0 ++ 0x00 ∷ 0x00 ∷ 0x00 ∷ 0x02 ∷ 0x0A ∷ 0x0B ∷ 0x01 ∷ 0x00 ∷ 0x00 ∷ 0x01 ∷ 0x0C ∷ [])

pub full-written : status_bytes (status_of (state 0x01020304 kads) 3) ≡ full
unfolding status_bytes descriptors selected owned_place
full-written = refl

pub full-read : read_status full ≡ read_of (status 0x01020304 kads)
unfolding read_status head_rules scope_rules field_rules list_rules descriptor_rules listed
full-read = refl

-- ---- what the reader takes, and what it refuses for its length; what it refuses at a byte is PointingTable's

-- P2's page with another byte
abbrev pub other : ℕ → ℕ → List ℕ
other i byte = set p2 i byte

abbrev pub answer_to : List ℕ → Answer
answer_to p = (read_status p).answer

-- "It takes index 0 or 1 and any mixture of modes", every scope and CEEM, and RDMD
abbrev taken : List (List ℕ)
taken = other 7 0 ∷ other 5 0 ∷ other 6 0 ∷ other 6 3 ∷ other 4 0x42 ∷ other 4 0x00 ∷ other 12 0x07 ∷ []

pub takes : map answer_to taken ≡ replicate 7 Done
unfolding read_status head_rules scope_rules field_rules list_rules listed
takes = refl

-- 23 bytes, with the length that they have and with another; 25 bytes; a length that is counted from byte 0; none
abbrev misfit : List (List ℕ)
misfit = set (take 23 p2) 3 0x13 ∷ take 23 p2 ∷ (p2 ++ 0 ∷ []) ∷ other 3 0x18 ∷ [] ∷ []

pub misfits : map read_status misfit ≡ replicate 5 (refused_status PageLengthWrong)
unfolding read_status
misfits = refl
