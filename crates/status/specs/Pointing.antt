-- Document 02, request 6, of the status reader: all rules of a status page in one list, in document 01's order, each with the byte that 02 has it
-- point to. That the byte of answer 8 is the lowest of them is a theorem (`status-judged`).
use Rattle.std.specs.Prelude.{ℕ, List, [], ◌∷◌, ◌++◌, leb, eqb, length, drop, None}
use Rattle.wire.specs.Numbers.{byte_at, word_at}
use Rattle.wire.specs.Rules.{Rule, rule, zero_rules}
use Rattle.kad.specs.Rules.{list_rules}
use Rattle.parameters.specs.Codes.{all_scope, encrypt, mixed, algorithm}
use Rattle.status.specs.Pages.{status_code}
use Rattle.status.specs.Bytes.{status_byte4, status_byte12}
use Rattle.status.specs.Rules.{descriptors_from, zeros_from, zero_bytes}

-- "Each reserved byte is a field of its own."
abbrev pub zeros : List ℕ → List Rule
zeros p = zero_rules zeros_from (zero_bytes p)

-- "codes in range": both scopes, the modes, the index
abbrev pub codes : List ℕ → List Rule
codes p =
    rule 4 (leb (status_byte4 (byte_at p 4)).nexus_scope all_scope)
    ∷ rule 4 (leb (status_byte4 (byte_at p 4)).set_scope all_scope)
    ∷ rule 5 (leb (byte_at p 5) encrypt)
    ∷ rule 6 (leb (byte_at p 6) mixed)
    ∷ rule 7 (leb (byte_at p 7) algorithm)
    ∷ []

-- "page code 0020h, fixed zeros zero, codes in range"
unfoldable pub every_head_rule : List ℕ → List Rule
every_head_rule p =
    rule 0 (eqb (word_at p 0) status_code)
    ∷ rule 4 (eqb (status_byte4 (byte_at p 4)).zeros 0)
    ∷ rule 12 (eqb (status_byte12 (byte_at p 12)).zeros 0)
    ∷ (zeros p ++ codes p)

-- "and descriptors formed as above (under any mode)"
abbrev pub every_status_rule : List ℕ → List Rule
every_status_rule p = let rest = drop descriptors_from p in every_head_rule p ++ list_rules (length rest) descriptors_from rest None
