-- Document 01: "The status reader asks for .. page code 0020h, fixed zeros zero, codes in range and descriptors formed as above".
-- p is the page, a list of bytes. A rule names the byte that a fault points to; the rules stand in the order of the bytes.
use Rattle.std.specs.Prelude.{ℕ, List, [], ◌∷◌, ◌++◌, leb, eqb, length, take, drop, None}
use Rattle.wire.specs.Numbers.{byte_at, word_at}
use Rattle.wire.specs.Rules.{Rule, rule, zero_rules}
use Rattle.kad.specs.Rules.{list_rules}
use Rattle.parameters.specs.Codes.{all_scope, encrypt, mixed, algorithm}
use Rattle.status.specs.Pages.{status_code}
use Rattle.status.specs.Bytes.{status_byte4, status_byte12}

-- the bytes before the descriptors
abbrev pub descriptors_from : ℕ
descriptors_from = 24

-- bytes 13–23
abbrev pub zeros_from : ℕ
zeros_from = 13

abbrev pub zeros_size : ℕ
zeros_size = 11

abbrev pub zero_bytes : List ℕ → List ℕ
zero_bytes p = take zeros_size (drop zeros_from p)

-- bytes 0 to 4: the page code; both scopes 0 to 2, zeros between them
unfoldable pub scope_rules : List ℕ → List Rule
scope_rules p =
    rule 0 (eqb (word_at p 0) status_code)
    ∷ rule 4 (leb (status_byte4 (byte_at p 4)).nexus_scope all_scope)
    ∷ rule 4 (eqb (status_byte4 (byte_at p 4)).zeros 0)
    ∷ rule 4 (leb (status_byte4 (byte_at p 4)).set_scope all_scope)
    ∷ []

-- bytes 5 to 23: encryption mode 0 to 2, decryption mode 0 to 3, "index 0 or 1 and any mixture of modes"; any number; byte 12's zeros;
-- bytes 13–23
unfoldable pub field_rules : List ℕ → List Rule
field_rules p =
    rule 5 (leb (byte_at p 5) encrypt)
    ∷ rule 6 (leb (byte_at p 6) mixed)
    ∷ rule 7 (leb (byte_at p 7) algorithm)
    ∷ rule 12 (eqb (status_byte12 (byte_at p 12)).zeros 0)
    ∷ zero_rules zeros_from (zero_bytes p)

-- bytes 0 to 23
unfoldable pub head_rules : List ℕ → List Rule
head_rules p = scope_rules p ++ field_rules p

-- all of them: "and descriptors formed as above (under any mode)"
abbrev pub status_rules : List ℕ → List Rule
status_rules p = let rest = drop descriptors_from p in head_rules p ++ list_rules (length rest) descriptors_from rest None
