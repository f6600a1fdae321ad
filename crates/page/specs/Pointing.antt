-- Document 02, request 6: "the lowest-numbered byte of the page at which a rule of 01 first breaks." All rules of a Set Data Encryption page in
-- one list, in document 01's order, each with the byte that 02 has it point to. p is the page; the nexus's scope and its set's decryption mode
-- are given. That the byte of answer 8 is the lowest of them is a theorem (`page-judged`).
use Rattle.std.specs.Prelude.{ℕ, not, ◌&&◌, List, [], ◌∷◌, ◌++◌, leb, eqb, length, drop, None}
use Rattle.arrays.specs.Base.{when◌then◌else◌}
use Rattle.wire.specs.Numbers.{byte_at}
use Rattle.wire.specs.Rules.{Rule, rule, zero_rules}
use Rattle.kad.specs.Rules.{list_rules}
use Rattle.parameters.specs.Codes.{all_scope, encrypt, mixed, algorithm, encrypts, decrypts}
use Rattle.parameters.specs.Fields.{key_size}
use Rattle.page.specs.Fields.{page_code, scope_of, is_public, reserved_of, ceem_of, rdmc_of, sdk_of, encryption_of, decryption_of, index_of, reserved_from, reserved_bytes, keyed_size, key_length_of, key_end}
use Rattle.page.specs.Rules.{ceem_wrong, key_length}

-- "Each reserved byte is a field of its own."
abbrev pub reserved : List ℕ → List Rule
reserved p = zero_rules reserved_from (reserved_bytes p)

-- "algorithm 1; both formats 0"
abbrev pub plain_values : List ℕ → List Rule
plain_values p = rule 8 (eqb (index_of p) algorithm) ∷ rule 9 (eqb (byte_at p 9) 0) ∷ rule 10 (eqb (byte_at p 10) 0) ∷ []

-- 01: "With LOCAL or ALL and SDK 0: bits 4–1 of byte 4 and bytes 11–17 zero", then
abbrev pub set_values : List ℕ → List Rule
set_values p =
    -- "encryption mode 0 DISABLE, 1 EXTERNAL, 2 ENCRYPT; decryption mode 0 DISABLE, 1 RAW, 2 DECRYPT, 3 MIXED; algorithm 1; both formats 0"
    rule 6 (leb (encryption_of p) encrypt)
    ∷ rule 7 (leb (decryption_of p) mixed)
    ∷ (plain_values p
    -- "Key length is 32 where encryption is 2 or decryption is 2 or 3, otherwise 0"; 02: "A whole field in fault points to its first byte"
    ++ rule 18 (eqb (key_length_of p) (key_length (encryption_of p) (decryption_of p)))
    -- "a key that runs past the page's end is a fault"; 02: "a key cut by the page's end to 18"
    ∷ rule 18 (leb (key_end p) (length p))
    -- "RDMC 01b is wrong under ENCRYPT"; 02: "request 2's CEEM to 5"
    ∷ rule 5 (not (encrypts (encryption_of p) && eqb (rdmc_of p) 1))
    ∷ rule 5 (not (ceem_wrong (ceem_of p) (decryption_of p)))
    ∷ [])

unfoldable pub every_set_rule : List ℕ → List Rule
every_set_rule p = rule 4 (eqb (reserved_of p) 0) ∷ (reserved p ++ set_values p)

-- 01: "Descriptors", with ENCRYPT (kad/specs/Reading has what each points to). "Without ENCRYPT the list is empty"; 02: "bytes left over where the
-- list must be empty to the first of them"
unfoldable pub every_list_rule : List ℕ → List Rule
every_list_rule p =
    let rest = drop (key_end p) p in
    when encrypts (encryption_of p) then list_rules (length rest) (key_end p) rest None else rule (key_end p) (leb (length p) (key_end p)) ∷ []

-- 01: "With SDK 1 (LOCAL or ALL) .. reserved parts, algorithm and formats as above; key length 32", the key as above; "no descriptors"
abbrev pub supplemental_values : List ℕ → List Rule
supplemental_values p =
    plain_values p ++ rule 18 (eqb (key_length_of p) key_size) ∷ rule 18 (leb (key_end p) (length p)) ∷ rule keyed_size (leb (length p) keyed_size) ∷ []

-- "The nexus's scope equals SCOPE; byte 7 equals that set's mode and is 2 or 3"; 02: "A mismatched supplemental scope points to 4 and mode to 7"
unfoldable pub every_supplemental_rule : List ℕ → ℕ → ℕ → List Rule
every_supplemental_rule p scope mode =
    rule 4 (eqb (scope_of p) scope)
    ∷ rule 7 (eqb (decryption_of p) mode)
    ∷ rule 7 (decrypts mode)
    ∷ rule 4 (eqb (reserved_of p) 0)
    ∷ (reserved p ++ supplemental_values p)

-- 01: "With PUBLIC, past the page code and length only SCOPE and LOCK are read"
unfoldable pub every_scoped_rule : List ℕ → ℕ → ℕ → List Rule
every_scoped_rule p scope mode =
    when is_public p then [] else when sdk_of p then every_supplemental_rule p scope mode else every_set_rule p ++ every_list_rule p

-- 01: "page code other than 0010h; SCOPE other than 0 PUBLIC, 1 LOCAL, 2 ALL", then by the scope
abbrev pub every_rule : List ℕ → ℕ → ℕ → List Rule
every_rule p scope mode = rule 0 (eqb (page_code p) 0x10) ∷ rule 4 (leb (scope_of p) all_scope) ∷ every_scoped_rule p scope mode
