-- Document 01, "The Set Data Encryption page (0010h)": its rules, with request 2 of document 02. p is the page, a list of bytes.
-- A rule names the byte that a fault points to; the rules stand in the order of the bytes.
use Rattle.std.specs.Prelude.{ℕ, Bool, not, ◌&&◌, ◌||◌, List, [], ◌∷◌, ◌++◌, leb, eqb, length}
use Rattle.arrays.specs.Base.{when◌then◌else◌}
use Rattle.wire.specs.Numbers.{byte_at}
use Rattle.wire.specs.Rules.{Rule, rule, zero_rules}
use Rattle.parameters.specs.Codes.{all_scope, disable, encrypt, mixed, algorithm, encrypts, decrypts, needs_key}
use Rattle.parameters.specs.Fields.{key_size}
use Rattle.page.specs.Fields.{page_code, scope_of, reserved_of, ceem_of, rdmc_of, encryption_of, decryption_of, index_of, reserved_from, reserved_bytes, keyed_size, key_length_of, key_end}

-- "page code other than 0010h; SCOPE other than 0 PUBLIC, 1 LOCAL, 2 ALL"
unfoldable pub open_rules : List ℕ → List Rule
open_rules p = rule 0 (eqb (page_code p) 0x10) ∷ rule 4 (leb (scope_of p) all_scope) ∷ []

-- Request 2: "By source document 000, CEEM 10b or 11b with decryption mode DISABLE is an invalid field." There, after table 8:
-- "INVALID FIELD IN PARAMETER DATA if the CEEM field is set to either 10b or 11b, and: a) the DECRYPTION MODE field is set to DISABLE;
-- or b) the EAREM bit in the algorithm descriptor .. for the algorithm specified by the ALGORITHM INDEX field is set to zero."
-- "Our algorithm has EAREM set": b) is never the case.
abbrev pub ceem_wrong : ℕ → ℕ → Bool
ceem_wrong ceem decryption = (eqb ceem 2 || eqb ceem 3) && eqb decryption disable

-- LOCAL or ALL, SDK 0, bytes 4 to 7: "bits 4–1 of byte 4 zero"; "RDMC 01b is wrong under ENCRYPT"; request 2;
-- "encryption mode 0 DISABLE, 1 EXTERNAL, 2 ENCRYPT; decryption mode 0 DISABLE, 1 RAW, 2 DECRYPT, 3 MIXED"
unfoldable pub mode_rules : List ℕ → List Rule
mode_rules p =
    rule 4 (eqb (reserved_of p) 0)
    ∷ rule 5 (not (encrypts (encryption_of p) && eqb (rdmc_of p) 1))
    ∷ rule 5 (not (ceem_wrong (ceem_of p) (decryption_of p)))
    ∷ rule 6 (leb (encryption_of p) encrypt)
    ∷ rule 7 (leb (decryption_of p) mixed)
    ∷ []

-- bytes 8 to 17: "algorithm 1; both formats 0"; "bytes 11–17 zero"
unfoldable pub plain_rules : List ℕ → List Rule
plain_rules p =
    rule 8 (eqb (index_of p) algorithm) ∷ rule 9 (eqb (byte_at p 9) 0) ∷ rule 10 (eqb (byte_at p 10) 0) ∷ zero_rules reserved_from (reserved_bytes p)

-- "Key length is 32 where encryption is 2 or decryption is 2 or 3, otherwise 0 (house)"
abbrev pub key_length : ℕ → ℕ → ℕ
key_length encryption decryption = when needs_key encryption decryption then key_size else 0

-- the key length; "With either SDK, a key that runs past the page's end is a fault"
unfoldable pub key_rules : List ℕ → ℕ → List Rule
key_rules p wanted = rule 18 (eqb (key_length_of p) wanted) ∷ rule 18 (leb (key_end p) (length p)) ∷ []

-- LOCAL or ALL, SDK 0, up to the key's end
unfoldable pub set_rules : List ℕ → List Rule
set_rules p = mode_rules p ++ (plain_rules p ++ key_rules p (key_length (encryption_of p) (decryption_of p)))

-- LOCAL or ALL, SDK 1, bytes 4 to 7: "The nexus's scope equals SCOPE; byte 7 equals that set's mode and is 2 or 3; reserved parts"
unfoldable pub match_rules : List ℕ → ℕ → ℕ → List Rule
match_rules p scope mode =
    rule 4 (eqb (scope_of p) scope)
    ∷ rule 4 (eqb (reserved_of p) 0)
    ∷ rule 7 (eqb (decryption_of p) mode)
    ∷ rule 7 (decrypts mode)
    ∷ []

-- "no descriptors": the page ends with the key
unfoldable pub end_rules : List ℕ → List Rule
end_rules p = rule keyed_size (leb (length p) keyed_size) ∷ []

-- LOCAL or ALL, SDK 1, the whole page
unfoldable pub supplemental_rules : List ℕ → ℕ → ℕ → List Rule
supplemental_rules p scope mode = match_rules p scope mode ++ (plain_rules p ++ (key_rules p key_size ++ end_rules p))
