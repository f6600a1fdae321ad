-- Document 02, request 1: "Reads must be decided too. Add a read decision for restoring hosts". A block is what the cipher engine reports
-- of it: its kind, and the key that opened it. A ruling is what is given of the block, or the answer that refuses it.
use Rattle.std.specs.Prelude.{ℕ, ◌/◌, ◌%◌, Bool, not, ◌&&◌, ◌||◌, leb, eqb, Result, Ok, Err}
use Rattle.arrays.specs.Base.{when◌then◌else◌}
use Rattle.answer.specs.declared.Answer.{Answer}
use Rattle.answer.specs.declared.Answer.TheVariants.{Done, BlockNotKnown, UnableToDecrypt, NotEncrypted, KeyIncorrect}
use Rattle.parameters.specs.Codes.{disable, raw, decrypt, needs_key}
use Rattle.device.specs.declared.Set.{Set}
use Rattle.drive.specs.declared.Block.{Block}
use Rattle.drive.specs.declared.ReadDecision.{ReadDecision}
use Rattle.drive.specs.declared.ReadDecision.TheVariants.{Withheld, Plain, Raw, Decrypted}

-- "block kind 0 plain, 1 encrypted under algorithm 1, 2 encrypted otherwise"
abbrev pub plain_kind : ℕ
plain_kind = 0

abbrev pub encrypted_kind : ℕ
encrypted_kind = 1

abbrev pub other_kind : ℕ
other_kind = 2

-- "the key that the cipher engine says opened it, 0 main, 1 to 4 supplemental, 255 none"
abbrev pub no_key : ℕ
no_key = 255

-- the two as one number, as request 3 words it: "block kind times 256 plus key"
abbrev pub block_of : ℕ → Block
block_of argument = record { kind = argument / 256; key = argument % 256 }

abbrev pub Ruling : Type 0
Ruling = Result ReadDecision Answer

-- a read that passes, and one that is stopped
abbrev pub passes : ReadDecision → Ruling
passes decision = Ok decision

abbrev pub stopped : Answer → Ruling
stopped answer = Err answer

-- how it is answered, and what is given
abbrev pub ruled_answer : Ruling → Answer
ruled_answer (Ok decision) = Done
ruled_answer (Err answer) = answer

abbrev pub ruled_decision : Ruling → ReadDecision
ruled_decision (Ok decision) = decision
ruled_decision (Err answer) = Withheld

-- "Under DISABLE plain passes and others get 15 (7/74/01)."
abbrev pub under_disable : ℕ → Ruling
under_disable kind = when eqb kind plain_kind then passes Plain else stopped UnableToDecrypt

-- "RAW passes all, kinds 1 and 2 as raw."
abbrev pub under_raw : ℕ → Ruling
under_raw kind = when eqb kind plain_kind then passes Plain else passes Raw

-- "DECRYPT gives 16 (7/74/02) for plain; MIXED passes it."
abbrev pub plain_under : (mode : ℕ) → Ruling
plain_under mode = when eqb mode decrypt then stopped NotEncrypted else passes Plain

-- "In both, kind 1 is decrypted if a key opened it, else 17 (7/74/03); kind 2 gives 15."
abbrev pub encrypted_under : Block → Ruling
encrypted_under block =
    when eqb block.kind encrypted_kind then when eqb block.key no_key then stopped KeyIncorrect else passes Decrypted
    else stopped UnableToDecrypt

-- by decryption mode
unfoldable pub under_mode : (mode : ℕ) → Block → Ruling
under_mode mode block =
    when eqb mode disable then under_disable block.kind
    else when eqb mode raw then under_raw block.kind
    else when eqb block.kind plain_kind then plain_under mode
    else encrypted_under block

-- a set holds a main key exactly where its modes ask a page for one
abbrev pub holds_key : Set → Bool
holds_key set = needs_key set.fields.encryption set.fields.decryption

-- "a key the selected set has": 0 to its count of supplemental keys; "where the set holds no main key, only 255 is taken"
abbrev pub has_key : Set → ℕ → Bool
has_key set key = holds_key set && leb key set.supplemental.count

-- "Kinds above 2, and key numbers that are neither 255 nor a key the selected set has"
abbrev pub not_known : Set → Block → Bool
not_known set block = not (leb block.kind other_kind) || not (eqb block.key no_key || has_key set block.key)

-- a block read under a set: those "give 14 without sense, after 3 and 4 and before 15"
abbrev pub restored : Set → Block → Ruling
restored set block = when not_known set block then stopped BlockNotKnown else under_mode set.fields.decryption block

-- the decision's value in replies; a refused read has none of the others'
abbrev pub read_value_of : ReadDecision → ℕ
read_value_of Plain = 0
read_value_of Raw = 1
read_value_of Decrypted = 2
read_value_of Withheld = 255
