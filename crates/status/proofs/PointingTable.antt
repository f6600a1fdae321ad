-- Document 02, request 6, of the status reader: pages and the answer to each, computed from their bytes; beside each fault a page that lacks it, or
-- that has another.
use Prim.Native.Nat.{ℕ}
use mathlib.Core.Path.{◌≡◌, refl}
use mathlib.Core.List.{List, [], ◌∷◌, ◌++◌, map}
use lib.ListN.{take, set, replicate}
use Rattle.answer.specs.declared.Answer.{Answer}
use Rattle.answer.specs.declared.Answer.TheVariants.{Done, PageLengthWrong, FieldWrong}
use Rattle.pointing.specs.Claims.{Fault, fault, own, Row, every_two}
use Rattle.kad.specs.Reading.{descriptor_rules, listed}
use Rattle.kad.specs.Rules.{list_rules}
use Rattle.status.specs.Rules.{scope_rules, field_rules, head_rules}
use Rattle.status.specs.Reading.{read_status}
use Rattle.status.proofs.Worked.{p2, full, other, answer_to}

abbrev at : ℕ → Answer
at = FieldWrong

abbrev computed : Row → Answer
computed r = answer_to r.0

abbrev expected : Row → Answer
expected r = r.1

-- "A whole field in fault points to its first byte": another page code; a scope out of range, bits 4–3 of byte 4; modes, index 2; VCELB, a control
-- bit, bit 7
abbrev fields : List Row
fields =
    (other 0 1, at 0) ∷ (other 1 0x10, at 0)
    ∷ (other 4 0x61, at 4) ∷ (other 4 0x23, at 4) ∷ (other 4 0x29, at 4) ∷ (other 4 0x31, at 4)
    ∷ (other 5 3, at 5) ∷ (other 6 4, at 6) ∷ (other 7 2, at 7)
    ∷ (other 12 0x08, at 12) ∷ (other 12 0x10, at 12) ∷ (other 12 0x20, at 12) ∷ (other 12 0x40, at 12) ∷ (other 12 0x80, at 12)
    ∷ []

-- P2's page with descriptors, of so many bytes
abbrev with : ℕ → List ℕ → List ℕ
with size rest = set p2 3 size ++ rest

-- a U-KAD of one byte, which ends at byte 29, and an A-KAD
abbrev u1 : List ℕ
u1 = 0 ∷ 0 ∷ 0 ∷ 1 ∷ 9 ∷ []

abbrev a1 : List ℕ
a1 = 1 ∷ 0 ∷ 0 ∷ 1 ∷ 9 ∷ []

-- "a descriptor length to its first length byte, a descriptor cut short by the page's end to its type byte"; types
abbrev descriptors : List Row
descriptors =
    (with 0x38 (0 ∷ 0 ∷ 0 ∷ 32 ∷ replicate 32 9), Done) ∷ (with 0x39 (0 ∷ 0 ∷ 0 ∷ 33 ∷ replicate 33 9), at 26) ∷ (with 0x18 (0 ∷ 0 ∷ 0 ∷ 0 ∷ []), at 26)
    ∷ (with 0x24 (1 ∷ 0 ∷ 0 ∷ 12 ∷ replicate 12 9), Done) ∷ (with 0x25 (1 ∷ 0 ∷ 0 ∷ 13 ∷ replicate 13 9), at 26)
    ∷ (with 0x1A (u1 ++ 1 ∷ []), at 29) ∷ (with 0x1C (u1 ++ 1 ∷ 0 ∷ 0 ∷ []), at 29) ∷ (with 0x1D (u1 ++ 1 ∷ 0 ∷ 0 ∷ 1 ∷ []), at 29) ∷ (with 0x1E (u1 ++ a1), Done)
    ∷ (with 0x15 (0 ∷ []), at 24) ∷ (with 0x17 (0 ∷ 0 ∷ 0 ∷ []), at 24)
    ∷ (with 0x1E (a1 ++ u1), at 29) ∷ (with 0x1E (u1 ++ u1), at 29) ∷ (with 0x19 (set u1 0 2), at 24) ∷ (with 0x19 (set u1 1 1), at 25)
    -- the length comes first: answer 7 has no byte
    ∷ (take 23 (other 4 0x61), PageLengthWrong)
    ∷ []

pub sentences-computed : map computed (fields ++ descriptors) ≡ map expected (fields ++ descriptors)
unfolding read_status head_rules scope_rules field_rules list_rules descriptor_rules listed
sentences-computed = refl

-- ---- every two faults of a page with a U-KAD of two bytes and an A-KAD; "Each reserved byte is a field of its own."

abbrev faults : List Fault
faults =
    fault 0 1 0 ∷ fault 1 0x21 0 ∷ own 4 0x61 ∷ own 5 3 ∷ own 6 4 ∷ own 7 2 ∷ own 12 0x0A ∷ own 13 1 ∷ own 14 1 ∷ own 15 1 ∷ own 16 1 ∷ own 17 1 ∷ own 18 1 ∷ own 19 1 ∷ own 20 1
    ∷ own 21 1 ∷ own 22 1 ∷ own 23 1 ∷ own 24 2 ∷ own 25 1 ∷ fault 27 0 26 ∷ own 30 2 ∷ own 31 1 ∷ fault 33 0 32 ∷ []

abbrev pairs : List Row
pairs = (full, Done) ∷ every_two full faults

pub pairs-computed : map computed pairs ≡ map expected pairs
unfolding read_status head_rules scope_rules field_rules list_rules descriptor_rules listed
pairs-computed = refl
