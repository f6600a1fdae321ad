-- Document 02, request 8: "a plain reason for a nexus's next write", its two lines to the character. What else stands in quotation marks is
-- docs/REASONS.md's.
use Rattle.std.specs.Prelude.{ℕ, Bool, ◌||◌, List, [], ◌∷◌, ◌++◌, eqb, get_or, Option, Some, None}
use Prim.Native.String.{String}
use Rattle.arrays.specs.Base.{when◌then◌else◌}
use Rattle.text.specs.Characters.{bytes_of}
use Rattle.text.specs.Decimal.{decimal}
use Rattle.answer.specs.Answers.{number_of}
use Rattle.why.specs.declared.Deed.{Deed}
use Rattle.why.specs.declared.Deed.TheVariants.{Untouched, Established, Replaced, Evicted, Released}
use Rattle.why.specs.declared.Reason.{Reason}

-- a number after words
abbrev pub words_and : String → ℕ → List ℕ
words_and words n = bytes_of words ++ decimal n

-- ---- an event

-- request 8: "positions count from 0"; where there is none, 0 is read
abbrev pub position_of : Option ℕ → ℕ
position_of (Some i) = i
position_of None = 0

-- request 3: "Kinds: 0 power-on, .."
abbrev pub kind_names : List String
kind_names =
    "power-on"
    ∷ "SECURITY PROTOCOL IN"
    ∷ "SECURITY PROTOCOL OUT"
    ∷ "write"
    ∷ "logical unit reset"
    ∷ "demount"
    ∷ "nexus reservation loss"
    ∷ "device reservation loss"
    ∷ "preempt"
    ∷ "microcode"
    ∷ "vendor release"
    ∷ "read"
    ∷ []

-- a kind above 11 is never recorded
abbrev pub kind_name : (kind : ℕ) → String
kind_name kind = get_or kind_names kind "unknown"

unfoldable pub kind_words : (kind : ℕ) → List ℕ
kind_words kind = bytes_of (kind_name kind)

-- "Kinds that have a nexus" (`nexuses-recorded` of proofs/Worked: those that may be recorded with one)
abbrev pub has_nexus : (kind : ℕ) → Bool
has_nexus kind = eqb kind 1 || eqb kind 2 || eqb kind 3 || eqb kind 6 || eqb kind 8 || eqb kind 11

unfoldable pub nexus_words : (kind nexus : ℕ) → List ℕ
nexus_words kind nexus = when has_nexus kind then words_and ", nexus " nexus else []

-- "An event is told by its position .. and its kind", "followed by a comma and" its nexus
unfoldable pub event_words : (position kind nexus : ℕ) → List ℕ
event_words position kind nexus = words_and "event " position ++ bytes_of " (" ++ kind_words kind ++ nexus_words kind nexus ++ bytes_of ")"

-- ---- what it did

-- "What it did is one of"; an event that is told touched a set
abbrev pub deed_name : Deed → String
deed_name Untouched = "left the set"
deed_name Established = "established a set"
deed_name Replaced = "replaced the set"
deed_name Evicted = "evicted the set"
deed_name Released = "released the set"

unfoldable pub deed_words : Deed → List ℕ
deed_words deed = bytes_of (deed_name deed)

-- the event that is the reason, and what it did
unfoldable pub touch_words : Reason → List ℕ
touch_words reason =
    let touch = reason.cause.touch in
    event_words (position_of touch.at) reason.kind reason.nexus ++ bytes_of " " ++ deed_words touch.deed ++ words_and " in place " touch.place
    ++ bytes_of ", which this nexus used"

-- ---- the sentence

-- "A block goes down clear under encryption mode 0, external under 1, encrypted under any other."
unfoldable pub block_words : (mode : ℕ) → List ℕ
block_words mode = when eqb mode 0 then bytes_of "clear" else when eqb mode 1 then bytes_of "external" else bytes_of "encrypted"

-- answer 0
unfoldable pub allowed_words : (mode place : ℕ) → List ℕ
allowed_words mode place = bytes_of "nothing stops this write: its block goes down " ++ block_words mode ++ words_and " under the set in place " place

-- answer 12, which is due to ENCRYPT alone
unfoldable pub unsupported_words : (mode place : ℕ) → List ℕ
unsupported_words mode place = words_and "the set in place " place ++ words_and " has encryption mode " mode ++ bytes_of " (ENCRYPT), and the volume doesn't support it"

-- by the answer's number; no other number is a write's answer
unfoldable pub sentence_by : (number : ℕ) → Reason → List ℕ
sentence_by number reason =
    when eqb number 0 then allowed_words reason.cause.mode reason.cause.touch.place
    else when eqb number 1 then bytes_of "the device record is not well formed"
    else when eqb number 2 then bytes_of "the drive has no nexus of that number"
    else when eqb number 3 || eqb number 4 then bytes_of "a unit attention is pending: " ++ touch_words reason
    else when eqb number 11 then bytes_of "the nexus is locked: " ++ touch_words reason
    else when eqb number 12 then unsupported_words reason.cause.mode reason.cause.touch.place
    else bytes_of "the answer is not a write's"

-- ---- the lines

-- request 8: "for 11 the kind and position"
unfoldable pub stopper_words : (number kind position : ℕ) → List ℕ
stopper_words number kind position = when eqb number 11 then words_and " " kind ++ words_and " " position else []

-- "The first is the answer's number; for 11 a space, the kind and a space, the position of the event that is the reason."
unfoldable pub first_line : (number kind position : ℕ) → List ℕ
first_line number kind position = decimal number ++ stopper_words number kind position ++ bytes_of "\n"

-- "The second says it"
unfoldable pub second_line : (number : ℕ) → Reason → List ℕ
second_line number reason = sentence_by number reason ++ bytes_of "\n"

unfoldable pub reason_text : Reason → List ℕ
reason_text reason =
    let number = number_of reason.cause.answer in
    first_line number reason.kind (position_of reason.cause.touch.at) ++ second_line number reason

-- a write of a recording, by its position and what is said of it
unfoldable pub write_text : (position : ℕ) → Reason → List ℕ
write_text position reason = words_and "" position ++ bytes_of " " ++ second_line (number_of reason.cause.answer) reason
