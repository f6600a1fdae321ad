-- Document 02, request 2: all pairs of CEEM and decryption mode, and the lab's page, computed from their bytes.
use Prim.Native.Nat.{ℕ, ◌*◌}
use mathlib.Core.Path.{◌≡◌, refl}
use mathlib.Core.Bool.{Bool, true, false}
use mathlib.Core.List.{List, [], ◌∷◌, ◌++◌, map}
use lib.ListN.{take, replicate}
use Rattle.arrays.specs.Base.{when◌then◌else◌}
use Rattle.wire.specs.Buffers.{padded}
use Rattle.answer.specs.declared.Answer.TheVariants.{FieldWrong}
use Rattle.kad.specs.Kad.{no_kads}
use Rattle.kad.specs.Reading.{descriptor_rules, listed}
use Rattle.page.specs.Fields.{list_of}
use Rattle.page.specs.Rules.{open_rules, mode_rules, plain_rules, key_length, key_rules, set_rules, match_rules, end_rules, supplemental_rules}
use Rattle.page.specs.Check.{refused_page, public_page, supplemental_page, set_page, checked}
use Rattle.page.proofs.Worked.{key, body, page, plain, Row, first, next, set_with, appended, public, computed}

-- a page with its scope, CEEM and modes, and a key where the modes ask for one
abbrev pair : ℕ → ℕ → ℕ → ℕ → List ℕ
pair scope ceem encryption decryption =
    page (body (scope * 32) (ceem * 64) encryption decryption plain (take (key_length encryption decryption) key) [])

-- it is taken as it stands, or refused at byte 5
abbrev paired : ℕ → ℕ → ℕ → Bool → ℕ → Row
paired scope encryption ceem ok decryption =
    first (pair scope ceem encryption decryption)
    (when ok then set_with scope false ceem false encryption decryption (padded 32 (take (key_length encryption decryption) key)) no_kads else refused_page (FieldWrong 5))

-- each CEEM with DISABLE, RAW, DECRYPT and MIXED: is it taken?
abbrev with_each : ℕ → ℕ → ℕ → Bool → Bool → Bool → Bool → List Row
with_each scope encryption ceem disabled raw decrypted mixed =
    let cell = paired scope encryption ceem in
    cell disabled 0 ∷ cell raw 1 ∷ cell decrypted 2 ∷ cell mixed 3 ∷ []

abbrev pairs : ℕ → ℕ → List Row
pairs scope encryption =
    with_each scope encryption 0 true true true true
    ++ with_each scope encryption 1 true true true true
    ++ with_each scope encryption 2 false true true true
    ++ with_each scope encryption 3 false true true true

-- LOCAL and ALL, with encryption DISABLE, EXTERNAL and ENCRYPT
abbrev all_pairs : List Row
all_pairs = pairs 1 0 ++ pairs 1 1 ++ pairs 1 2 ++ pairs 2 0 ++ pairs 2 1 ++ pairs 2 2

-- the lab's page: 20 bytes, with its byte 4 and byte 5
abbrev lab_page : ℕ → ℕ → List ℕ
lab_page byte4 byte5 = 0x00 ∷ 0x10 ∷ 0x00 ∷ 0x10 ∷ byte4 ∷ byte5 ∷ 0x00 ∷ 0x00 ∷ 0x01 ∷ replicate 11 0x00

-- and others
abbrev lab : List Row
lab =
    first (lab_page 0x40 0x80) (refused_page (FieldWrong 5))
    -- with every other bit of byte 5 but SDK, and with LOCK
    ∷ first (lab_page 0x41 0xB7) (refused_page (FieldWrong 5))
    ∷ first (lab_page 0x21 0xF7) (refused_page (FieldWrong 5))
    -- with SDK 1, from a nexus whose set has DISABLE too: "byte 7 .. is 2 or 3"
    ∷ record { page = lab_page 0x40 0x88; scope = 2; mode = 0; count = 0; outcome = refused_page (FieldWrong 7) }
    -- PUBLIC: "every other field, SDK included, is ignored"
    ∷ first (lab_page 0x00 0x80) (public false)
    ∷ first (lab_page 0x01 0xC0) (public true)
    -- a supplemental key
    ∷ next 0 (page (body 0x20 0x88 0 2 plain key [])) appended
    ∷ next 0 (page (body 0x20 0xC8 0 2 plain key [])) appended
    -- faults before byte 5 come first, and those after it don't
    ∷ first (lab_page 0x60 0x80) (refused_page (FieldWrong 4))
    ∷ first (lab_page 0x42 0x80) (refused_page (FieldWrong 4))
    ∷ first (page (body 0x40 0x90 2 0 plain key [])) (refused_page (FieldWrong 5))
    ∷ first (page (body 0x40 0x80 3 0 plain [] [])) (refused_page (FieldWrong 5))
    ∷ first (page (body 0x40 0x80 2 0 plain [] [])) (refused_page (FieldWrong 5))
    ∷ first (page (body 0x40 0x80 0 4 plain [] [])) (refused_page (FieldWrong 7))
    ∷ []

-- all 16 pairs of CEEM and decryption mode, under each encryption mode, LOCAL and ALL
pub pairs-computed : map computed all_pairs ≡ map (λ (r : Row). r.outcome) all_pairs
unfolding checked public_page supplemental_page set_page open_rules mode_rules plain_rules key_rules set_rules match_rules end_rules supplemental_rules list_of listed descriptor_rules
pairs-computed = refl

-- the lab's page, the same with SDK 1 and with PUBLIC, and its neighbours
pub lab-computed : map computed lab ≡ map (λ (r : Row). r.outcome) lab
unfolding checked public_page supplemental_page set_page open_rules mode_rules plain_rules key_rules set_rules match_rules end_rules supplemental_rules list_of listed descriptor_rules
lab-computed = refl
