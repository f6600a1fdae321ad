-- Pages of document 01 and what the check says of each, computed from their bytes.
use Prim.Native.Nat.{ℕ, zero, suc}
use mathlib.Core.Path.{◌≡◌, refl}
use mathlib.Core.Bool.{Bool, true, false}
use mathlib.Core.List.{List, [], ◌∷◌, ◌++◌, map}
use lib.ListN.{length, take, replicate}
use Rattle.answer.specs.declared.Answer.TheVariants.{PageLengthWrong, FieldWrong, FifthSupplementalKey}
use Rattle.kad.specs.Kad.{no_kads, kads_of}
use Rattle.kad.specs.Reading.{descriptor_rules, listed}
use Rattle.kad.specs.declared.Kads.{Kads}
use Rattle.parameters.specs.Fields.{no_fields, only_key}
use Rattle.page.specs.Fields.{set_byte4, set_byte5, list_of}
use Rattle.page.specs.Rules.{open_rules, mode_rules, plain_rules, key_rules, set_rules, match_rules, end_rules, supplemental_rules}
use Rattle.page.specs.Check.{Checked, refused_page, accepted_page, public_page, supplemental_page, set_page, checked}

-- ---- pages

-- n bytes, from k up
abbrev rising : ℕ → ℕ → List ℕ
rising zero k = []
rising (suc n) k = k ∷ rising n (suc k)

-- a key
abbrev pub key : List ℕ
key = rising 32 1

-- the bytes after byte 3: bytes 4 to 7, bytes 8 to 17, the key with its length, and what stands after it
abbrev pub body : ℕ → ℕ → ℕ → ℕ → List ℕ → List ℕ → List ℕ → List ℕ
body byte4 byte5 byte6 byte7 plain key_bytes rest = byte4 ∷ byte5 ∷ byte6 ∷ byte7 ∷ (plain ++ (0 ∷ length key_bytes ∷ (key_bytes ++ rest)))

-- a page with page code and length before them
abbrev pub page : List ℕ → List ℕ
page bytes = 0x00 ∷ 0x10 ∷ 0x00 ∷ length bytes ∷ bytes

-- algorithm index, formats, and bytes 11 to 17
abbrev pub plain : List ℕ
plain = 1 ∷ 0 ∷ 0 ∷ replicate 7 0

-- "Page K: 52 bytes, length 0030h, byte 4 21h, byte 5 44h, modes 2 and 2, index 1, key length 32, no descriptors"
abbrev k : List ℕ
k = page (body 0x21 0x44 2 2 plain key [])

-- its bytes
k-bytes : k ≡ 0x00 ∷ 0x10 ∷ 0x00 ∷ 0x30 ∷ 0x21 ∷ 0x44 ∷ 2 ∷ 2 ∷ 1 ∷ 0 ∷ 0 ∷ 0 ∷ 0 ∷ 0 ∷ 0 ∷ 0 ∷ 0 ∷ 0 ∷ 0 ∷ 32 ∷ key
k-bytes = refl

-- their count
k-length : length k ≡ 52
k-length = refl

-- SCOPE 1, locked
k-byte-4 : set_byte4 0x21 ≡ record { scope = 1; reserved = 0; lock = true }
k-byte-4 = refl

-- CEEM 1, CKOD
k-byte-5 : set_byte5 0x44 ≡ record { ceem = 1; rdmc = 0; sdk = false; ckod = true; ckorp = false; ckorl = false }
k-byte-5 = refl

-- every bit set
full-4 : set_byte4 0xFF ≡ record { scope = 7; reserved = 15; lock = true }
full-4 = refl

full-5 : set_byte5 0xFF ≡ record { ceem = 3; rdmc = 3; sdk = true; ckod = true; ckorp = true; ckorl = true }
full-5 = refl

-- K with another byte 4
abbrev k4 : ℕ → List ℕ
k4 byte4 = page (body byte4 0x44 2 2 plain key [])

-- K with another byte 5
abbrev k5 : ℕ → List ℕ
k5 byte5 = page (body 0x21 byte5 2 2 plain key [])

-- K with other modes and another key
abbrev modes : ℕ → ℕ → List ℕ → List ℕ
modes byte6 byte7 key_bytes = page (body 0x21 0x44 byte6 byte7 plain key_bytes [])

-- K with other bytes 8 to 17
abbrev k_plain : List ℕ → List ℕ
k_plain bytes = page (body 0x21 0x44 2 2 bytes key [])

-- a U-KAD of n bytes
abbrev ukad : ℕ → List ℕ
ukad n = 0 ∷ 0 ∷ 0 ∷ n ∷ replicate n 9

-- K with something after the key
abbrev k_then : List ℕ → List ℕ
k_then rest = page (body 0x21 0x44 2 2 plain key rest)

-- a page with SDK 1 (byte 6, LOCK, CEEM, RDMC and the CK bits say nothing), with something after the key
abbrev supplemental : ℕ → ℕ → List ℕ → List ℕ
supplemental byte4 byte7 rest = page (body byte4 0xFF 9 byte7 plain key rest)

-- ---- what the check says of them

-- a page, what is known of its nexus, and the outcome
pub record Row : Type 0 where
  pub page : List ℕ
  pub scope : ℕ
  pub mode : ℕ
  pub count : ℕ
  pub outcome : Checked

-- from a nexus at power-on
abbrev pub first : List ℕ → Checked → Row
first p outcome = record { page = p; scope = 0; mode = 0; count = 0; outcome = outcome }

-- from a LOCAL nexus whose set decrypts and has so many supplemental keys
abbrev pub next : ℕ → List ℕ → Checked → Row
next count p outcome = record { page = p; scope = 1; mode = 2; count = count; outcome = outcome }

-- a set with its scope, lock, CEEM, CKOD and modes
abbrev pub set_with : ℕ → Bool → ℕ → Bool → ℕ → ℕ → List ℕ → Kads → Checked
set_with scope lock ceem ckod encryption decryption key_bytes kads = accepted_page (record {
  scope = scope;
  lock = lock;
  supplemental = false;
  fields = record {
    encryption = encryption;
    decryption = decryption;
    index = 1;
    ceem = ceem;
    rdmd = false;
    ckod = ckod;
    ckorp = false;
    ckorl = false;
    key = key_bytes;
    kads = kads;
  };
})

-- a LOCAL one, locked, with K's CEEM and CKOD
abbrev set : ℕ → ℕ → List ℕ → Kads → Checked
set = set_with 1 true 1 true

-- a supplemental key
abbrev pub appended : Checked
appended = accepted_page (record { scope = 1; lock = false; supplemental = true; fields = only_key key })

-- a PUBLIC page
abbrev pub public : Bool → Checked
public lock = accepted_page (record { scope = 0; lock = lock; supplemental = false; fields = no_fields })

-- pages that are accepted
abbrev taken : List Row
taken =
    -- page K
    first k (set 2 2 key no_kads)
    -- MIXED
    ∷ first (modes 2 3 key) (set 2 3 key no_kads)
    -- RAW and no encryption: no key
    ∷ first (modes 0 1 []) (set 0 1 (replicate 32 0) no_kads)
    -- RDMC 01b without ENCRYPT
    ∷ first (page (body 0x21 0x54 0 1 plain [] [])) (set 0 1 (replicate 32 0) no_kads)
    -- EXTERNAL
    ∷ first (modes 1 0 []) (set 1 0 (replicate 32 0) no_kads)
    -- P10: "U-KAD of 32 bytes taken"
    ∷ first (k_then (ukad 32)) (set 2 2 key (kads_of (replicate 32 9) []))
    -- PUBLIC: "every other field, SDK included, is ignored"
    ∷ first (page (body 0x1F 0xFF 9 9 (rising 10 1) [] [])) (public true)
    ∷ first (page (body 0x00 0x00 9 9 (rising 10 1) key (7 ∷ []))) (public false)
    -- the first supplemental key, and the fourth
    ∷ next 0 (supplemental 0x20 2 []) appended
    ∷ next 3 (supplemental 0x21 2 []) appended
    ∷ []

-- pages that are not
abbrev refusals : List Row
refusals =
    -- P3: "K cut to 51 bytes: 7"; one byte more; fewer than 20 bytes
    first (take 51 k) (refused_page PageLengthWrong)
    ∷ first (k ++ 0 ∷ []) (refused_page PageLengthWrong)
    ∷ first (page (replicate 15 0)) (refused_page PageLengthWrong)
    -- the page code
    ∷ first (0x00 ∷ 0x11 ∷ 0x00 ∷ 16 ∷ replicate 16 0) (refused_page (FieldWrong 0))
    -- P3: "K with SCOPE 3 (byte 4 61h): 8"; a reserved bit of byte 4
    ∷ first (k4 0x61) (refused_page (FieldWrong 4))
    ∷ first (k4 0x23) (refused_page (FieldWrong 4))
    -- RDMC 01b under ENCRYPT
    ∷ first (k5 0x54) (refused_page (FieldWrong 5))
    -- modes that there are not
    ∷ first (modes 3 2 key) (refused_page (FieldWrong 6))
    ∷ first (modes 2 4 key) (refused_page (FieldWrong 7))
    -- the algorithm index, the formats, the first and the last of bytes 11 to 17
    ∷ first (k_plain (0 ∷ replicate 9 0)) (refused_page (FieldWrong 8))
    ∷ first (k_plain (1 ∷ 1 ∷ replicate 8 0)) (refused_page (FieldWrong 9))
    ∷ first (k_plain (1 ∷ 0 ∷ 1 ∷ replicate 7 0)) (refused_page (FieldWrong 10))
    ∷ first (k_plain (1 ∷ 0 ∷ 0 ∷ 1 ∷ replicate 6 0)) (refused_page (FieldWrong 11))
    ∷ first (k_plain (1 ∷ 0 ∷ 0 ∷ (replicate 6 0 ++ 1 ∷ []))) (refused_page (FieldWrong 17))
    -- a key too short, one that no mode needs, and one that runs past the page's end
    ∷ first (modes 2 2 (rising 31 1)) (refused_page (FieldWrong 18))
    ∷ first (modes 0 1 key) (refused_page (FieldWrong 18))
    ∷ first (page (0x21 ∷ 0x44 ∷ 2 ∷ 2 ∷ (plain ++ 0 ∷ 32 ∷ rising 31 1))) (refused_page (FieldWrong 18))
    -- P10: "of 33: 8; of 0: 8", at the length of the descriptor that stands at byte 52
    ∷ first (k_then (ukad 33)) (refused_page (FieldWrong 54))
    ∷ first (k_then (ukad 0)) (refused_page (FieldWrong 54))
    -- "Without ENCRYPT the list is empty", with a key and without
    ∷ first (page (body 0x21 0x44 0 2 plain key (ukad 1))) (refused_page (FieldWrong 52))
    ∷ first (page (body 0x21 0x44 0 0 plain [] (ukad 1))) (refused_page (FieldWrong 20))
    -- SDK 1 from a PUBLIC nexus, with another scope, and with a reserved bit
    ∷ first (supplemental 0x20 2 []) (refused_page (FieldWrong 4))
    ∷ next 0 (supplemental 0x40 2 []) (refused_page (FieldWrong 4))
    ∷ next 0 (supplemental 0x22 2 []) (refused_page (FieldWrong 4))
    -- with another mode than the set's, and with one that doesn't decrypt
    ∷ next 0 (supplemental 0x20 3 []) (refused_page (FieldWrong 7))
    ∷ record { page = supplemental 0x20 1 []; scope = 1; mode = 1; count = 0; outcome = refused_page (FieldWrong 7) }
    -- with a descriptor after the key, and with a byte
    ∷ next 0 (supplemental 0x20 2 (ukad 1)) (refused_page (FieldWrong 52))
    ∷ next 0 (supplemental 0x20 2 (0 ∷ [])) (refused_page (FieldWrong 52))
    -- "Then answer 9 if the set has 4 already", after every answer 8
    ∷ next 4 (supplemental 0x20 2 []) (refused_page FifthSupplementalKey)
    ∷ next 4 (supplemental 0x20 2 (0 ∷ [])) (refused_page (FieldWrong 52))
    ∷ []

-- what the definition gives
abbrev pub computed : Row → Checked
computed r = checked r.page r.scope r.mode r.count

-- it accepts the first
taken-computed : map computed taken ≡ map (λ (r : Row). r.outcome) taken
unfolding checked public_page supplemental_page set_page open_rules mode_rules plain_rules key_rules set_rules match_rules end_rules supplemental_rules list_of listed descriptor_rules
taken-computed = refl

-- and refuses the others, at these bytes
refusals-computed : map computed refusals ≡ map (λ (r : Row). r.outcome) refusals
unfolding checked public_page supplemental_page set_page open_rules mode_rules plain_rules key_rules set_rules match_rules end_rules supplemental_rules list_of listed descriptor_rules
refusals-computed = refl

-- "RDMD is 1 exactly for ENCRYPT with 11b"
rdmd-told : (checked (k5 0x74) 0 0 0).page.fields.rdmd ≡ true
unfolding checked public_page supplemental_page set_page open_rules mode_rules plain_rules key_rules set_rules match_rules end_rules supplemental_rules list_of listed descriptor_rules
rdmd-told = refl
