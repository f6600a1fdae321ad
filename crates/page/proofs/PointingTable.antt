-- Document 02, request 6, sentence by sentence: pages and what the check says of each, computed from their bytes; beside each fault a page that
-- lacks it, or that has another.
use Prim.Native.Nat.{ℕ, ◌/◌, ◌%◌}
use mathlib.Core.Path.{◌≡◌, refl}
use mathlib.Core.List.{List, [], ◌∷◌, ◌++◌, map}
use lib.ListN.{length, take, set, replicate}
use Rattle.answer.specs.declared.Answer.{Answer}
use Rattle.answer.specs.declared.Answer.TheVariants.{Done, PageLengthWrong, FieldWrong}
use Rattle.pointing.specs.Claims.{Fault, fault, own, Row, every_two}
use Rattle.kad.specs.Reading.{descriptor_rules, listed}
use Rattle.page.specs.Fields.{list_of}
use Rattle.page.specs.Rules.{open_rules, mode_rules, plain_rules, key_rules, set_rules, match_rules, end_rules, supplemental_rules}
use Rattle.page.specs.Check.{public_page, supplemental_page, set_page, checked}
use Rattle.page.proofs.Worked.{key, body, plain}

-- ---- pages

-- a page of any length
abbrev page : List ℕ → List ℕ
page bytes = 0x00 ∷ 0x10 ∷ length bytes / 256 ∷ length bytes % 256 ∷ bytes

-- page K with something after the key, and with another byte
abbrev k_then : List ℕ → List ℕ
k_then rest = page (body 0x21 0x44 2 2 plain key rest)

abbrev k : List ℕ
k = k_then []

abbrev other : ℕ → ℕ → List ℕ
other i byte = set k i byte

-- a descriptor that states a length and has so many bytes of data
abbrev descriptor : (kind stated size : ℕ) → List ℕ
descriptor kind stated size = kind ∷ 0 ∷ stated / 256 ∷ stated % 256 ∷ replicate size 9

-- a U-KAD of one byte, which ends at byte 57, and an A-KAD
abbrev u1 : List ℕ
u1 = descriptor 0 1 1

abbrev a1 : List ℕ
a1 = descriptor 1 1 1

-- a page with these modes and something after its key
abbrev modes : ℕ → ℕ → List ℕ → List ℕ → List ℕ
modes encryption decryption key_bytes rest = page (body 0x21 0x44 encryption decryption plain key_bytes rest)

-- a page with SDK 1
abbrev supplemental : ℕ → ℕ → List ℕ → List ℕ → List ℕ
supplemental byte4 byte7 key_bytes rest = page (body byte4 0x08 0 byte7 plain key_bytes rest)

-- the same, but its key length says 32
abbrev cut : List ℕ → List ℕ
cut p = set p 19 32

-- ---- what is answered

-- a page from a LOCAL nexus whose set has that decryption mode, and the answer
abbrev Sent : Type 0
Sent = ℕ × Row

abbrev sent : List ℕ → Answer → Sent
sent p a = (2, (p, a))

abbrev under : ℕ → List ℕ → Answer → Sent
under mode p a = (mode, (p, a))

abbrev at : ℕ → Answer
at = FieldWrong

abbrev computed : Sent → Answer
computed r = (checked r.1.0 1 r.0 0).answer

abbrev expected : Sent → Answer
expected r = r.1.1

-- "the lowest-numbered byte of the page at which a rule of 01 first breaks"
abbrev lowest : List Sent
lowest =
    sent k Done ∷ sent (other 9 1) (at 9) ∷ sent (other 17 1) (at 17) ∷ sent (set (other 9 1) 17 1) (at 9)
    -- byte 17 and the key length; SCOPE 3 and the page code; every byte after the page length
    ∷ sent (modes 2 2 (take 31 key) []) (at 18) ∷ sent (set (modes 2 2 (take 31 key) []) 17 1) (at 17)
    ∷ sent (other 4 0x61) (at 4) ∷ sent (set (other 4 0x61) 1 0x11) (at 0) ∷ sent (page (replicate 48 0xFF)) (at 4)
    -- the length comes first: answer 7 has no byte
    ∷ sent (take 51 (other 4 0x61)) PageLengthWrong
    ∷ []

-- "A whole field in fault points to its first byte"
abbrev fields : List Sent
fields =
    sent (other 0 1) (at 0) ∷ sent (other 1 0x11) (at 0) ∷ sent (other 18 1) (at 18) ∷ sent (other 19 31) (at 18) ∷ sent (other 6 3) (at 6) ∷ sent (other 7 4) (at 7)
    ∷ sent (other 8 0) (at 8) ∷ sent (other 10 1) (at 10) ∷ sent (other 4 0x23) (at 4) ∷ sent (other 5 0x54) (at 5) ∷ []

-- "a descriptor length to its first length byte": 0, 33 and 257 of U-KAD, 13 of A-KAD, in the first descriptor and in the second
abbrev lengths : List Sent
lengths =
    sent (k_then (descriptor 0 32 32)) Done ∷ sent (k_then (descriptor 0 33 33)) (at 54) ∷ sent (k_then (descriptor 0 0 0)) (at 54) ∷ sent (k_then (descriptor 0 257 257)) (at 54)
    ∷ sent (k_then (descriptor 1 12 12)) Done ∷ sent (k_then (descriptor 1 13 13)) (at 54)
    ∷ sent (k_then (u1 ++ descriptor 1 12 12)) Done ∷ sent (k_then (u1 ++ descriptor 1 13 13)) (at 59) ∷ sent (k_then (u1 ++ descriptor 1 0 0)) (at 59)
    ∷ []

-- "a descriptor cut short by the page's end to its type byte": in its data, and in its head; three bytes left over after a descriptor
abbrev cut_short : List Sent
cut_short =
    sent (k_then (descriptor 0 2 2)) Done ∷ sent (k_then (descriptor 0 2 1)) (at 52) ∷ sent (k_then (descriptor 0 33 32)) (at 52)
    ∷ sent (k_then (u1 ++ descriptor 1 2 1)) (at 57)
    ∷ sent (k_then (0 ∷ [])) (at 52) ∷ sent (k_then (0 ∷ 0 ∷ 0 ∷ [])) (at 52)
    ∷ sent (k_then (u1 ++ 1 ∷ [])) (at 57) ∷ sent (k_then (u1 ++ 1 ∷ 0 ∷ [])) (at 57) ∷ sent (k_then (u1 ++ 1 ∷ 0 ∷ 0 ∷ [])) (at 57) ∷ sent (k_then (u1 ++ a1)) Done
    ∷ sent (k_then (u1 ++ a1 ++ 1 ∷ 0 ∷ 0 ∷ [])) (at 62)
    ∷ []

-- a descriptor's type and its second byte: one that there is not, type 1 then 0, one twice; a second byte that isn't zero, before a wrong length and
-- after a wrong type
abbrev heads : List Sent
heads =
    sent (k_then (descriptor 2 1 1)) (at 52) ∷ sent (k_then (a1 ++ u1)) (at 57) ∷ sent (k_then (u1 ++ u1)) (at 57) ∷ sent (k_then (a1 ++ a1)) (at 57)
    ∷ sent (set (k_then u1) 53 1) (at 53) ∷ sent (set (k_then (descriptor 0 33 33)) 53 1) (at 53) ∷ sent (set (k_then (descriptor 2 1 1)) 53 1) (at 52)
    ∷ sent (set (k_then (descriptor 0 2 1)) 53 1) (at 52) ∷ sent (set (k_then (u1 ++ a1)) 58 1) (at 58)
    ∷ []

-- "bytes left over where the list must be empty to the first of them": without ENCRYPT, after a key and without one; with SDK 1
abbrev left_over : List Sent
left_over =
    sent (modes 0 2 key []) Done ∷ sent (modes 0 2 key u1) (at 52) ∷ sent (modes 1 3 key (7 ∷ [])) (at 52)
    ∷ sent (modes 0 0 [] []) Done ∷ sent (modes 0 0 [] u1) (at 20) ∷ sent (modes 1 1 [] (0 ∷ [])) (at 20) ∷ sent (modes 0 1 [] (replicate 32 0)) (at 20)
    ∷ sent (supplemental 0x20 2 key []) Done ∷ sent (supplemental 0x20 2 key u1) (at 52) ∷ sent (supplemental 0x20 2 key (0 ∷ [])) (at 52)
    ∷ []

-- "A mismatched supplemental scope points to 4 and mode to 7", both to the lower; a mode that matches and is neither 2 nor 3
abbrev mismatched : List Sent
mismatched =
    sent (supplemental 0x40 2 key []) (at 4) ∷ sent (supplemental 0x20 3 key []) (at 7) ∷ under 3 (supplemental 0x20 3 key []) Done ∷ under 3 (supplemental 0x20 2 key []) (at 7)
    ∷ sent (supplemental 0x40 3 key []) (at 4) ∷ sent (supplemental 0x22 3 key []) (at 4) ∷ under 1 (supplemental 0x20 1 key []) (at 7) ∷ under 0 (supplemental 0x20 0 key []) (at 7)
    ∷ []

-- "a key cut by the page's end to 18": a page of 51 bytes, with SDK 0 and with SDK 1, and one of 20
abbrev key_cut : List Sent
key_cut =
    sent (cut (modes 2 2 (take 31 key) [])) (at 18) ∷ sent (cut (modes 2 2 [] [])) (at 18) ∷ sent (cut (supplemental 0x20 2 (take 31 key) [])) (at 18)
    ∷ sent (cut (supplemental 0x20 2 [] [])) (at 18) ∷ sent (supplemental 0x20 2 (take 31 key) []) (at 18)
    ∷ []

-- "request 2's CEEM to 5", before a fault of its decryption mode's neighbours and after one of byte 4
abbrev ceem : List Sent
ceem =
    sent (page (body 0x21 0x80 0 0 plain [] [])) (at 5) ∷ sent (page (body 0x21 0xC0 3 0 plain [] [])) (at 5) ∷ sent (page (body 0x23 0x80 0 0 plain [] [])) (at 4)
    ∷ sent (page (body 0x21 0x40 0 0 plain [] [])) Done
    ∷ []

-- "Each reserved byte is a field of its own."
abbrev reserved_of : List ℕ → List Sent
reserved_of p =
    sent (set p 11 1) (at 11) ∷ sent (set p 12 1) (at 12) ∷ sent (set p 13 1) (at 13) ∷ sent (set p 14 1) (at 14) ∷ sent (set p 15 1) (at 15) ∷ sent (set p 16 1) (at 16)
    ∷ sent (set p 17 1) (at 17) ∷ sent (set (set p 16 1) 17 1) (at 16) ∷ sent (set (set p 17 1) 11 1) (at 11) ∷ []

abbrev sentences : List Sent
sentences =
    lowest ++ fields ++ lengths ++ cut_short ++ heads ++ left_over ++ mismatched ++ key_cut ++ ceem ++ reserved_of k ++ reserved_of (supplemental 0x20 2 key [])

pub sentences-computed : map computed sentences ≡ map expected sentences
unfolding checked public_page supplemental_page set_page open_rules mode_rules plain_rules key_rules set_rules match_rules end_rules supplemental_rules list_of listed descriptor_rules
sentences-computed = refl

-- ---- every two faults of page K with a U-KAD and an A-KAD

abbrev faults : List Fault
faults =
    fault 0 1 0 ∷ fault 1 0x11 0 ∷ own 4 0x23 ∷ own 7 4 ∷ own 8 2 ∷ own 9 1 ∷ own 10 1 ∷ own 11 1 ∷ own 12 1 ∷ own 13 1 ∷ own 14 1 ∷ own 15 1 ∷ own 16 1 ∷ own 17 1
    ∷ fault 18 1 18 ∷ own 52 2 ∷ own 53 1 ∷ fault 55 0 54 ∷ own 57 2 ∷ own 58 1 ∷ fault 60 0 59 ∷ []

abbrev described : List ℕ
described = k_then (u1 ++ a1)

abbrev pairs : List Row
pairs = (described, Done) ∷ every_two described faults

pub pairs-computed : map (λ (r : Row). (checked r.0 0 0 0).answer) pairs ≡ map (λ (r : Row). r.1) pairs
unfolding checked public_page supplemental_page set_page open_rules mode_rules plain_rules key_rules set_rules match_rules end_rules supplemental_rules list_of listed descriptor_rules
pairs-computed = refl
