-- What is claimed of reads (proofs/Restoring, proofs/RestoringTable).
use Rattle.std.specs.Prelude.{ℕ, ◌-◌, ◌<◌, ◌≤◌, ◌≡◌, ◌⊎◌, Bool, true, false, ◌&&◌, ◌||◌, List, [], ◌∷◌, ◌++◌, map, leb, replicate, Some}
use Rattle.arrays.specs.Base.{when◌then◌else◌}
use Rattle.kad.specs.Kad.{no_kads}
use Rattle.answer.specs.Answers.{number_of, change_of, is_done}
use Rattle.answer.specs.declared.Answer.{Answer}
use Rattle.answer.specs.declared.Answer.TheVariants.{Done, NotWellFormed, NexusAbove, ChangedByAnotherNexus, ChangedByVendorEvent, ProtocolNotSupported, PageNotSupported, PageLengthWrong, FieldWrong, FifthSupplementalKey, NoPlaceForLocal, KeyInstanceChanged, ParametersNotUsable, PlaceAbove, BlockNotKnown, UnableToDecrypt, NotEncrypted, KeyIncorrect}
use Rattle.answer.specs.declared.Change.{Change}
use Rattle.answer.specs.declared.Change.TheVariants.{Unchanged, AnotherCleared, VendorCleared, Registered}
use Rattle.parameters.specs.Codes.{all_scope, disable, raw, decrypt}
use Rattle.parameters.specs.Fields.{no_fields, no_supplemental}
use Rattle.parameters.specs.declared.Fields.{Fields}
use Rattle.device.specs.Record.{State, nexus_at, established}
use Rattle.device.specs.declared.Set.{Set}
use Rattle.device.specs.Updates.{with_lock, with_saved, with_scope, with_supplemental, at_place, at_nexus, mapped}
use Rattle.drive.specs.declared.Block.{Block}
use Rattle.drive.specs.declared.ReadDecision.{ReadDecision}
use Rattle.drive.specs.declared.ReadDecision.TheVariants.{Withheld, Plain, Raw, Decrypted}
use Rattle.drive.specs.Calls.{write, read}
use Rattle.drive.specs.Checks.{answer}
use Rattle.drive.specs.After.{actions, after}
use Rattle.drive.specs.Outcomes.{read_decision, decided_place}
use Rattle.drive.specs.Restoring.{plain_kind, encrypted_kind, other_kind, no_key, holds_key, read_value_of}
use Rattle.drive.specs.Refusals.{OnlyMarks}
use Rattle.drive.specs.Claims.{block, since, same_list}

-- ---- the lock

-- the record with no lock set and no number saved at one. Two records "differ only in locks and saved numbers" where these are equal.
abbrev pub without_locks : State → State
without_locks = mapped (λ counter. counter) (λ set. set) (λ nexus. with_lock false (with_saved 0 nexus))

-- two records answer a read alike: number and sense, what is given, the place
pub record ReadAlike (s t : State) (n : ℕ) (block : Block) : Type 0 where
  pub answered : answer s (read n block) ≡ answer t (read n block)
  pub decided : read_decision s n block (answer s (read n block)) ≡ read_decision t n block (answer t (read n block))
  pub placed : decided_place s n (answer s (read n block)) ≡ decided_place t n (answer t (read n block))

-- the numbers that a read is answered: 0 to 4, and 14 to 17
abbrev pub read_number : ℕ → Bool
read_number number = leb number 4 || (leb 14 number && leb number 17)

-- ---- the record

-- a change of a pending flag, or none
abbrev pub only_flag : Change → Bool
only_flag Unchanged = true
only_flag AnotherCleared = true
only_flag VendorCleared = true
only_flag Registered = false

-- what a read leaves: it acts on no set, draws no number, and changes nothing but a pending flag of its sender
pub record ReadLeaves (s : State) (n : ℕ) (block : Block) : Type 0 where
  pub acts : actions s (read n block) ≡ []
  pub draws : (after s (read n block)).counter ≡ s.counter
  pub only : OnlyMarks (Some n) (change_of (answer s (read n block))) s (after s (read n block))
  pub flag : only_flag (change_of (answer s (read n block))) ≡ true
  pub registered : (m : ℕ) → (nexus_at (after s (read n block)) m).marks.registered ≡ (nexus_at s m).marks.registered

-- ---- each answer and each block given, where it is due

-- the set has a key of that number
abbrev pub Had : Set → ℕ → Type 0
Had set key = (holds_key set ≡ true) × (key ≤ set.supplemental.count)

-- the kind isn't above 2, and the key is none or one that the set has
abbrev pub Known : Set → Block → Type 0
Known set block = (block.kind ≤ other_kind) × ((block.key ≡ no_key) ⊎ Had set block.key)

-- under DECRYPT or MIXED: the modes above RAW
abbrev pub Decrypting : Set → Type 0
Decrypting set = raw < set.fields.decryption

-- what an answer of 14 to 17 tells of the set and the block; the others tell nothing of them
abbrev pub StopDue : Set → Block → Answer → Type 0
StopDue set block Done = Unit {0}
StopDue set block NotWellFormed = Unit {0}
StopDue set block NexusAbove = Unit {0}
StopDue set block ChangedByAnotherNexus = Unit {0}
StopDue set block ChangedByVendorEvent = Unit {0}
StopDue set block ProtocolNotSupported = Unit {0}
StopDue set block PageNotSupported = Unit {0}
StopDue set block PageLengthWrong = Unit {0}
StopDue set block (FieldWrong byte) = Unit {0}
StopDue set block FifthSupplementalKey = Unit {0}
StopDue set block NoPlaceForLocal = Unit {0}
StopDue set block KeyInstanceChanged = Unit {0}
StopDue set block ParametersNotUsable = Unit {0}
StopDue set block PlaceAbove = Unit {0}
StopDue set block BlockNotKnown = Known set block → ⊥
StopDue set block UnableToDecrypt =
    Known set block × ((plain_kind < block.kind) × ((set.fields.decryption ≡ disable) ⊎ (Decrypting set × (block.kind ≡ other_kind))))
StopDue set block NotEncrypted = Known set block × ((block.kind ≡ plain_kind) × (set.fields.decryption ≡ decrypt))
StopDue set block KeyIncorrect = Known set block × ((block.kind ≡ encrypted_kind) × ((block.key ≡ no_key) × Decrypting set))

-- and what is given
abbrev pub GivenDue : Set → Block → ReadDecision → Type 0
GivenDue set block Withheld = Unit {0}
GivenDue set block Plain = Known set block × ((block.kind ≡ plain_kind) × (set.fields.decryption ≡ decrypt → ⊥))
GivenDue set block Raw = Known set block × ((plain_kind < block.kind) × (set.fields.decryption ≡ raw))
GivenDue set block Decrypted = Known set block × ((block.kind ≡ encrypted_kind) × (Had set block.key × Decrypting set))

-- ---- what was written is read

-- a block that a nexus is given decrypted, from the place where it writes
pub record GivenBack (s : State) (n : ℕ) (block : Block) (supported : Bool) : Type 0 where
  pub done : answer s (read n block) ≡ Done
  pub decrypted : read_decision s n block (answer s (read n block)) ≡ Decrypted
  pub placed : decided_place s n (answer s (read n block)) ≡ decided_place s n (answer s (write n supported))

-- ---- the table of modes, kinds and keys

-- both modes, and nothing else
abbrev modes : ℕ → ℕ → Fields
modes encryption decryption = record {
  encryption = encryption;
  decryption = decryption;
  index = 1;
  ceem = 0;
  rdmd = false;
  ckod = false;
  ckorp = false;
  ckorl = false;
  key = no_fields.key;
  kads = no_kads;
}

-- nexus 6 shares a set with those modes and so many supplemental keys
abbrev pub sharing : (encryption decryption count : ℕ) → State
sharing encryption decryption count =
    at_place 0 (λ set. with_supplemental (record { count = count; keys = no_supplemental.keys }) (established 6 all_scope 1 (modes encryption decryption)))
    (at_nexus 6 (with_scope all_scope) (since []))

-- what nexus 3 gets of a block: 0 plain, 1 raw, 2 decrypted, or the number of a refusal
abbrev pub cell : State → (kind key : ℕ) → ℕ
cell s kind key =
    let a = answer s (read 3 (block kind key)) in
    when is_done a then read_value_of (read_decision s 3 (block kind key) a) else number_of a

-- under a mode, one kind: with a key that the set has, and with none
pub record Kind : Type 0 where
  pub kind : ℕ
  pub opened : ℕ
  pub unopened : ℕ

abbrev pub kind_row : ℕ → ℕ → ℕ → Kind
kind_row kind opened unopened = record { kind = kind; opened = opened; unopened = unopened }

-- keys 0 to 5, 254 and 255 in a row, where the set has so many of them, from the main key on
abbrev pub expected : ℕ → Kind → List ℕ
expected keys row = replicate keys row.opened ++ replicate (7 - keys) 14 ++ row.unopened ∷ []

abbrev pub found : State → ℕ → List ℕ
found s kind = map (cell s kind) (0 ∷ 1 ∷ 2 ∷ 3 ∷ 4 ∷ 5 ∷ 254 ∷ 255 ∷ [])

-- a set with this encryption mode and so many supplemental keys has so many keys
pub record Holding : Type 0 where
  pub encryption : ℕ
  pub count : ℕ
  pub keys : ℕ

abbrev pub holding : ℕ → ℕ → ℕ → Holding
holding encryption count keys = record { encryption = encryption; count = count; keys = keys }

-- each kind under a decryption mode, with each set
abbrev rows_agree : ℕ → Holding → List Kind → Bool
rows_agree decryption h [] = true
rows_agree decryption h (row ∷ more) =
    same_list (found (sharing h.encryption decryption h.count) row.kind) (expected h.keys row) && rows_agree decryption h more

unfoldable pub agrees : ℕ → List Holding → List Kind → Bool
agrees decryption [] rows = true
agrees decryption (h ∷ more) rows = rows_agree decryption h rows && agrees decryption more rows
