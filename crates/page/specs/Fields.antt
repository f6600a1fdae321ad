-- Document 01, "The Set Data Encryption page (0010h)": its fields. p is the page, a list of bytes.
use Rattle.std.specs.Prelude.{ℕ, ◌+◌, Bool, ◌&&◌, List, eqb, take, drop}
use Rattle.arrays.specs.Base.{when◌then◌else◌}
use Rattle.wire.specs.Numbers.{byte_at, word_at}
use Rattle.wire.specs.Bits.{bits, bit_at}
use Rattle.wire.specs.Buffers.{padded}
use Rattle.kad.specs.Kad.{no_kads}
use Rattle.kad.specs.Reading.{read_kads}
use Rattle.kad.specs.declared.Kads.{Kads}
use Rattle.kad.specs.declared.Listed.{Listed}
use Rattle.page.specs.declared.SetByte4.{SetByte4}
use Rattle.page.specs.declared.SetByte5.{SetByte5}
use Rattle.parameters.specs.declared.Fields.{Fields}
use Rattle.parameters.specs.Fields.{key_size}
use Rattle.parameters.specs.Codes.{public_scope, encrypts}

-- "Bytes 0–1 page code"; 2–3, the page length, are those of every page (`length_wrong`)
abbrev pub page_code : List ℕ → ℕ
page_code p = word_at p 0

-- "4: SCOPE bits 7–5, LOCK bit 0", with reserved bits 4–1 between them
abbrev pub set_byte4 : ℕ → SetByte4
set_byte4 b = record { scope = bits 7 5 b; reserved = bits 4 1 b; lock = bit_at 0 b }

-- "5: CEEM bits 7–6, RDMC 5–4, SDK 3, CKOD 2, CKORP 1, CKORL 0"
abbrev pub set_byte5 : ℕ → SetByte5
set_byte5 b = record { ceem = bits 7 6 b; rdmc = bits 5 4 b; sdk = bit_at 3 b; ckod = bit_at 2 b; ckorp = bit_at 1 b; ckorl = bit_at 0 b }

abbrev pub scope_of : List ℕ → ℕ
scope_of p = (set_byte4 (byte_at p 4)).scope

-- SCOPE 0 is PUBLIC
abbrev pub is_public : List ℕ → Bool
is_public p = eqb (scope_of p) public_scope

abbrev pub reserved_of : List ℕ → ℕ
reserved_of p = (set_byte4 (byte_at p 4)).reserved

abbrev pub lock_of : List ℕ → Bool
lock_of p = (set_byte4 (byte_at p 4)).lock

abbrev pub ceem_of : List ℕ → ℕ
ceem_of p = (set_byte5 (byte_at p 5)).ceem

abbrev pub rdmc_of : List ℕ → ℕ
rdmc_of p = (set_byte5 (byte_at p 5)).rdmc

abbrev pub sdk_of : List ℕ → Bool
sdk_of p = (set_byte5 (byte_at p 5)).sdk

-- "6 encryption mode; 7 decryption mode; 8 algorithm index; 9 key format; 10 KAD format"
abbrev pub encryption_of : List ℕ → ℕ
encryption_of p = byte_at p 6

abbrev pub decryption_of : List ℕ → ℕ
decryption_of p = byte_at p 7

abbrev pub index_of : List ℕ → ℕ
index_of p = byte_at p 8

-- "11–17 reserved"
abbrev pub reserved_from : ℕ
reserved_from = 11

abbrev pub reserved_size : ℕ
reserved_size = 7

abbrev pub reserved_bytes : List ℕ → List ℕ
reserved_bytes p = take reserved_size (drop reserved_from p)

-- the bytes before the key
abbrev pub key_from : ℕ
key_from = 20

-- the bytes of a page that ends with a key
abbrev pub keyed_size : ℕ
keyed_size = key_from + key_size

-- "18–19 key length; then the key; then descriptors"
abbrev pub key_length_of : List ℕ → ℕ
key_length_of p = word_at p 18

abbrev pub key_end : List ℕ → ℕ
key_end p = key_from + key_length_of p

-- "A set sent without a key holds zeros there"
abbrev pub key_of : List ℕ → List ℕ
key_of p = padded key_size (take (key_length_of p) (drop key_from p))

-- "RDMD is 1 exactly for ENCRYPT with 11b"
abbrev pub rdmd_of : ℕ → ℕ → Bool
rdmd_of encryption rdmc = encrypts encryption && eqb rdmc 3

-- "Without ENCRYPT the list is empty": how many bytes after the key are good, and the key-associated data
unfoldable pub list_of : ℕ → List ℕ → Listed
list_of encryption rest = when encrypts encryption then read_kads rest else record { good = 0; kads = no_kads }

abbrev pub listed_of : List ℕ → Listed
listed_of p = list_of (encryption_of p) (drop (key_end p) p)

-- the fields that make a set, with the key and the key-associated data given
abbrev pub fields_with : List ℕ → List ℕ → Kads → Fields
fields_with p key kads = record {
  encryption = encryption_of p;
  decryption = decryption_of p;
  index = index_of p;
  ceem = ceem_of p;
  rdmd = rdmd_of (encryption_of p) (rdmc_of p);
  ckod = (set_byte5 (byte_at p 5)).ckod;
  ckorp = (set_byte5 (byte_at p 5)).ckorp;
  ckorl = (set_byte5 (byte_at p 5)).ckorl;
  key = key;
  kads = kads;
}

-- what a page with SDK 0 gives
abbrev pub set_fields : List ℕ → Fields
set_fields p = fields_with p (key_of p) (listed_of p).kads
