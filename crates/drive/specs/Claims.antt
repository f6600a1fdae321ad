-- What the tables of worked examples claim (proofs/Table, proofs/RestoringTable), and when a claim holds. Pages and buffers are lists of bytes.
use Rattle.std.specs.Prelude.{ℕ, ◌+◌, Bool, true, false, not, ◌&&◌, List, [], ◌∷◌, ◌++◌, eqb, replicate}
use Rattle.answer.specs.Answers.{number_of, sense_of, faulty_byte_of}
use Rattle.answer.specs.declared.Answer.{Answer}
use Rattle.parameters.specs.declared.Fields.{Fields}
use Rattle.device.specs.Record.{State, nexus_at, set_at}
use Rattle.device.specs.Selecting.{selected, selected_set}
use Rattle.device.specs.declared.Set.{Set}
use Rattle.device.specs.declared.Marks.{Marks}
use Rattle.device.specs.declared.Nexus.{Nexus}
use Rattle.drive.specs.declared.Command.{Command}
use Rattle.drive.specs.declared.Block.{Block}
use Rattle.drive.specs.Calls.{Call, security_in, security_out, write, read}
use Rattle.drive.specs.Checks.{answer}
use Rattle.drive.specs.After.{after}
use Rattle.drive.specs.Runs.{run}
use Rattle.drive.specs.Outcomes.{in_length, in_buffer, value_of, decision, decided_place, decided_index, read_decision}
use Rattle.drive.specs.Restoring.{read_value_of}

-- ---- pages as bytes

-- a Set page with its page length, bytes 4 and 5, both modes, index 1, a key of 32 bytes, and what follows it
abbrev keyed_page : ℕ → ℕ → ℕ → ℕ → ℕ → List ℕ → List ℕ
keyed_page length b4 b5 encryption decryption rest =
    0x00 ∷ 0x10 ∷ 0x00 ∷ length ∷ b4 ∷ b5 ∷ encryption ∷ decryption ∷ 0x01 ∷ 0x00 ∷ 0x00 ∷ (replicate 7 0x00 ++ (0x00 ∷ 0x20 ∷ (replicate 32 0xA7 ++ rest)))

-- one with modes 2 and 2
abbrev pub page : ℕ → ℕ → ℕ → List ℕ → List ℕ
page length b4 b5 rest = keyed_page length b4 b5 0x02 0x02 rest

-- one of 52 bytes, with its byte 4 and both modes
abbrev pub modes_page : ℕ → ℕ → ℕ → List ℕ
modes_page b4 encryption decryption = keyed_page 0x30 b4 0x40 encryption decryption []

-- page K: "52 bytes, length 0030h, byte 4 21h, byte 5 44h, modes 2 and 2, index 1, key length 32, no descriptors"; with its byte 4
abbrev pub page_k : ℕ → List ℕ
page_k b4 = page 0x30 b4 0x44 []

-- byte 4 of a LOCAL page
abbrev pub locked : ℕ
locked = 0x21

abbrev pub unlocked : ℕ
unlocked = 0x20

-- a LOCAL page whose U-KAD has n bytes
abbrev pub with_u_kad : ℕ → List ℕ
with_u_kad n = page (0x34 + n) locked 0x44 (0x00 ∷ 0x00 ∷ 0x00 ∷ n ∷ replicate n 0x09)

-- a page of 20 bytes, with bytes 4 and 5 and both modes, which has no key
abbrev pub keyless : ℕ → ℕ → ℕ → ℕ → List ℕ
keyless b4 b5 encryption decryption =
    0x00 ∷ 0x10 ∷ 0x00 ∷ 0x10 ∷ b4 ∷ b5 ∷ encryption ∷ decryption ∷ 0x01 ∷ replicate 11 0x00

-- ---- calls

-- a security command of protocol 20h
abbrev pub command : ℕ → ℕ → Command
command n code = record { nexus = n; protocol = 0x20; code = code }

-- nexus n sends a Set page
abbrev pub sends : ℕ → List ℕ → Call
sends n bytes = security_out (command n 0x10) bytes

-- what the cipher engine reports of a block
abbrev pub block : ℕ → ℕ → Block
block kind key = record { kind = kind; key = key }

-- the record after calls since power-on, with 16 nexuses and 5 places
abbrev pub since : List Call → State
since = run 16 5

-- ---- equal, byte by byte

abbrev pub same_list : List ℕ → List ℕ → Bool
same_list [] [] = true
same_list [] (y ∷ ys) = false
same_list (x ∷ xs) [] = false
same_list (x ∷ xs) (y ∷ ys) = eqb x y && same_list xs ys

abbrev pub same_bool : Bool → Bool → Bool
same_bool true b = b
same_bool false b = not b

abbrev pub same_marks : Marks → Marks → Bool
same_marks x y = same_bool x.registered y.registered && same_bool x.another y.another && same_bool x.vendor y.vendor

abbrev pub same_nexus : Nexus → Nexus → Bool
same_nexus x y =
    eqb x.scope y.scope && same_bool x.lock y.lock && eqb x.saved y.saved && eqb x.last_local y.last_local
    && same_marks x.marks y.marks

abbrev pub same_fields : Fields → Fields → Bool
same_fields x y =
    eqb x.encryption y.encryption && eqb x.decryption y.decryption && eqb x.index y.index && eqb x.ceem y.ceem
    && same_bool x.rdmd y.rdmd && same_bool x.ckod y.ckod && same_bool x.ckorp y.ckorp && same_bool x.ckorl y.ckorl
    && same_list x.key y.key
    && eqb x.kads.ukad.length y.kads.ukad.length && same_list x.kads.ukad.bytes y.kads.ukad.bytes
    && eqb x.kads.akad.length y.kads.akad.length && same_list x.kads.akad.bytes y.kads.akad.bytes

abbrev pub same_set : Set → Set → Bool
same_set x y =
    eqb x.owner y.owner && eqb x.scope y.scope && eqb x.number y.number && same_fields x.fields y.fields
    && eqb x.supplemental.count y.supplemental.count && same_list x.supplemental.keys y.supplemental.keys

abbrev pub same_sets : List Set → List Set → Bool
same_sets [] [] = true
same_sets [] (y ∷ ys) = false
same_sets (x ∷ xs) [] = false
same_sets (x ∷ xs) (y ∷ ys) = same_set x y && same_sets xs ys

abbrev pub same_nexuses : List Nexus → List Nexus → Bool
same_nexuses [] [] = true
same_nexuses [] (y ∷ ys) = false
same_nexuses (x ∷ xs) [] = false
same_nexuses (x ∷ xs) (y ∷ ys) = same_nexus x y && same_nexuses xs ys

-- the whole record
unfoldable pub same_record : State → State → Bool
same_record s t = eqb s.counter t.counter && same_sets s.sets t.sets && same_nexuses s.nexuses t.nexuses

-- ---- claims

-- what an answer tells: its number, its sense and the faulty byte, in numbers
pub record Told : Type 0 where
  pub number : ℕ
  pub key : ℕ
  pub asc : ℕ
  pub ascq : ℕ
  pub byte : ℕ

abbrev pub told : ℕ → ℕ → ℕ → ℕ → Told
told number key asc ascq = record { number = number; key = key; asc = asc; ascq = ascq; byte = 0 }

-- answer 8, with its byte
abbrev pub wrong_at : (byte : ℕ) → Told
wrong_at byte = record { number = 8; key = 5; asc = 0x26; ascq = 0x00; byte = byte }

abbrev pub done : Told
done = told 0 0 0 0

-- each is claimed of a record
pub data Claim : Type 0 where
  -- a call is answered so
  answers : State → Call → Told → Claim
  -- a call is answered so, and this is the whole record afterwards
  makes : State → Call → Told → State → Claim
  -- SECURITY PROTOCOL IN with a lent buffer: its answer, the length told, and every byte of the buffer afterwards
  gives : State → Command → (buffer : List ℕ) → Told → (length : ℕ) → (bytes : List ℕ) → Claim
  -- a write by a nexus, the algorithm supported or not: its answer, the decision's value, place and index
  decides : State → (n : ℕ) → (supported : Bool) → Told → (value place index : ℕ) → Claim
  -- a read of a block by a nexus: its answer, the decision's value and place
  reads : State → (n : ℕ) → Block → Told → (value place : ℕ) → Claim
  -- a nexus uses the set of a place that has a number
  selects : State → (n place number : ℕ) → Claim
  -- a place holds a set with scope, owner and number
  stands : State → (place scope owner number : ℕ) → Claim
  -- a nexus has a scope, and is registered, told of another nexus and told of a vendor event, or not
  marked : State → (n scope : ℕ) → (registered another vendor : Bool) → Claim
  -- the counter stands at a number
  counts : State → (number : ℕ) → Claim

-- a call is answered so, and leaves the whole record as it was
abbrev pub leaves : State → Call → Told → Claim
leaves s call t = makes s call t s

-- an answer tells that
abbrev pub tells : Answer → Told → Bool
tells a t =
    eqb (number_of a) t.number && eqb (sense_of a).key t.key && eqb (sense_of a).asc t.asc && eqb (sense_of a).ascq t.ascq
    && eqb (faulty_byte_of a) t.byte

unfoldable pub holds : Claim → Bool
holds (answers s call t) = tells (answer s call) t
holds (makes s call t x) = tells (answer s call) t && same_record (after s call) x
holds (gives s c buffer t length bytes) =
    let a = answer s (security_in c) in
    tells a t && eqb (in_length s c a) length && same_list (in_buffer s c a buffer) bytes
holds (decides s n supported t value place index) =
    let a = answer s (write n supported) in
    tells a t && eqb (value_of (decision s n a)) value && eqb (decided_place s n a) place && eqb (decided_index s n a) index
holds (reads s n block t value place) =
    let a = answer s (read n block) in
    tells a t && eqb (read_value_of (read_decision s n block a)) value && eqb (decided_place s n a) place
holds (selects s n place number) = eqb (selected s n) place && eqb (selected_set s n).number number
holds (stands s place scope owner number) =
    eqb (set_at s place).scope scope && eqb (set_at s place).owner owner && eqb (set_at s place).number number
holds (marked s n scope registered another vendor) =
    eqb (nexus_at s n).scope scope && same_marks (nexus_at s n).marks (record { registered = registered; another = another; vendor = vendor })
holds (counts s number) = eqb s.counter number

unfoldable pub every : List Claim → Bool
every [] = true
every (c ∷ more) = holds c && every more
