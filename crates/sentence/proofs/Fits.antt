-- The text of a reason fits.
-- Assumes nothing.
use Prim.Native.Nat.{ℕ, zero, suc, ◌+◌, ◌^◌, ◌≤◌, ◌<◌}
use Prim.Native.String.{String}
use mathlib.Core.Path.{◌≡◌, refl, sym, ◌∙◌}
use mathlib.Core.Bool.{Bool, true, ◌||◌}
use mathlib.Core.List.{List, [], ◌∷◌, ◌++◌}
use native.Mathlib.Omega.{arith}
use borrow.Author.Tests.{leb-true}
use lib.Dec.{eqb, leb}
use lib.ListN.{length, get_or, length-append}
use Rattle.arrays.specs.Base.{when◌then◌else◌}
use Rattle.arrays.specs.Arrays.{all}
use Rattle.arrays.proofs.Base.{and_both, if-elim}
use Rattle.arrays.proofs.Laws.{all_cons}
use Rattle.text.specs.Characters.{bytes_of}
use Rattle.text.specs.Decimal.{decimal}
use Rattle.text.proofs.Decimal.{decimal-20}
use Rattle.answer.specs.Answers.{number_of}
use Rattle.answer.specs.declared.Answer.{Answer}
use Rattle.answer.specs.declared.Answer.TheVariants.{Done, NotWellFormed, NexusAbove, ChangedByAnotherNexus, ChangedByVendorEvent, ProtocolNotSupported, PageNotSupported, PageLengthWrong, FieldWrong, FifthSupplementalKey, NoPlaceForLocal, KeyInstanceChanged, ParametersNotUsable, PlaceAbove, BlockNotKnown, UnableToDecrypt, NotEncrypted, KeyIncorrect}
use Rattle.why.specs.declared.Deed.{Deed}
use Rattle.why.specs.declared.Deed.TheVariants.{Untouched, Established, Replaced, Evicted, Released}
use Rattle.why.specs.declared.Reason.{Reason}
use Rattle.sentence.specs.Telling.{position_of, kind_names, kind_words, has_nexus, nexus_words, event_words, deed_words, touch_words, block_words, allowed_words, unsupported_words, sentence_by, stopper_words, first_line, second_line, reason_text, write_text}
use Rattle.text.specs.Making.{lines_most}

-- ---- texts of at most so many bytes

pub record Few (text : List ℕ) (most : ℕ) : Type 0 where
  pub low : length text ≤ most

-- one after another
after : {a b : List ℕ} {m n : ℕ} → Few a m → Few b n → Few (a ++ b) (m + n)
after {a} {b} h k = record { low = omega (arith, h.low, k.low, length-append a b) }

-- and no more than more
within : {a : List ℕ} {m n : ℕ} → Few a m → m ≤ n → Few a n
within h l = record { low = omega (arith, h.low, l) }

-- one or another
either : (c : Bool) {a b : List ℕ} {m most : ℕ} → Few a m → m ≤ most → Few b most → Few (when c then a else b) most
either c {most = most} h l k = if-elim (λ t. Few t most) c (λ e. within h l) (λ e. k)

-- words by themselves
said : (words : List ℕ) → Few words (length words)
said words = record { low = omega arith }

-- a number of 64 bits
number : {n : ℕ} → n < 2 ^ 64 → Few (decimal n) 20
number {n} h = record { low = decimal-20 n h }

-- a name of a table
abbrev short : String → Bool
short name = leb (length (bytes_of name)) 23

name-few : (names : List String) → all short names ≡ true → (k : ℕ) → Few (bytes_of (get_or names k "unknown")) 23
unfolding bytes_of
name-few [] few k = within (said (bytes_of "unknown")) (omega arith)
name-few (name ∷ names) few zero = record { low = leb-true _ _ (and_both (short name) (all short names) (sym (all_cons short name names) ∙ few)).0 }
name-few (name ∷ names) few (suc k) = name-few names (and_both (short name) (all short names) (sym (all_cons short name names) ∙ few)).1 k

-- ---- the parts of the text

pub kind-few : (kind : ℕ) → Few (kind_words kind) 23
unfolding kind_words bytes_of
kind-few kind = name-few kind_names refl kind

nexus-few : (kind nexus : ℕ) → nexus < 2 ^ 64 → Few (nexus_words kind nexus) 28
unfolding nexus_words bytes_of
nexus-few kind nexus h = either (has_nexus kind) (after (said (bytes_of ", nexus ")) (number h)) (omega arith) (within (said []) (omega arith))

event-few : (position kind nexus : ℕ) → position < 2 ^ 64 → nexus < 2 ^ 64 → Few (event_words position kind nexus) 80
unfolding event_words bytes_of
event-few position kind nexus p n = within (after (after (after (after (after (said (bytes_of "event ")) (number p)) (said (bytes_of " ("))) (kind-few kind)) (nexus-few kind nexus n)) (said (bytes_of ")"))) (omega arith)

deed-few : (deed : Deed) → Few (deed_words deed) 17
unfolding deed_words bytes_of
deed-few Untouched = record { low = omega arith }
deed-few Established = record { low = omega arith }
deed-few Replaced = record { low = omega arith }
deed-few Evicted = record { low = omega arith }
deed-few Released = record { low = omega arith }

block-few : (mode : ℕ) → Few (block_words mode) 9
unfolding block_words bytes_of
block-few mode = either (eqb mode 0) (said (bytes_of "clear")) (omega arith) (either (eqb mode 1) (said (bytes_of "external")) (omega arith) (said (bytes_of "encrypted")))

allowed-few : (mode place : ℕ) → place < 2 ^ 64 → Few (allowed_words mode place) 99
unfolding allowed_words bytes_of
allowed-few mode place p = within (after (after (said (bytes_of "nothing stops this write: its block goes down ")) (block-few mode)) (after (said (bytes_of " under the set in place ")) (number p))) (omega arith)

unsupported-few : (mode place : ℕ) → mode < 2 ^ 64 → place < 2 ^ 64 → Few (unsupported_words mode place) 124
unfolding unsupported_words bytes_of
unsupported-few mode place m p =
    within
    (after (after (after (said (bytes_of "the set in place ")) (number p)) (after (said (bytes_of " has encryption mode ")) (number m))) (said (bytes_of " (ENCRYPT), and the volume doesn't support it")))
    (omega arith)

-- an answer's number is one of document 01's and 02's
number-low : (a : Answer) → number_of a < 2 ^ 64
number-low Done = omega arith
number-low NotWellFormed = omega arith
number-low NexusAbove = omega arith
number-low ChangedByAnotherNexus = omega arith
number-low ChangedByVendorEvent = omega arith
number-low ProtocolNotSupported = omega arith
number-low PageNotSupported = omega arith
number-low PageLengthWrong = omega arith
number-low (FieldWrong byte) = omega arith
number-low FifthSupplementalKey = omega arith
number-low NoPlaceForLocal = omega arith
number-low KeyInstanceChanged = omega arith
number-low ParametersNotUsable = omega arith
number-low PlaceAbove = omega arith
number-low BlockNotKnown = omega arith
number-low UnableToDecrypt = omega arith
number-low NotEncrypted = omega arith
number-low KeyIncorrect = omega arith

stopper-few : (number kind position : ℕ) → kind < 2 ^ 64 → position < 2 ^ 64 → Few (stopper_words number kind position) 42
unfolding stopper_words bytes_of
stopper-few n kind position k p = either (eqb n 11) (after (after (said (bytes_of " ")) (number k)) (after (said (bytes_of " ")) (number p))) (omega arith) (within (said []) (omega arith))

-- ---- the whole

-- a reason whose numbers are of 64 bits, as the types have them
module _
    (reason : Reason)
    (at : position_of reason.cause.touch.at < 2 ^ 64)
    (place : reason.cause.touch.place < 2 ^ 64)
    (mode : reason.cause.mode < 2 ^ 64)
    (kind : reason.kind < 2 ^ 64)
    (nexus : reason.nexus < 2 ^ 64)
  where
    touch-few : Few (touch_words reason) 151
    unfolding touch_words bytes_of
    touch-few =
        within
        (after (after (after (after (event-few _ _ _ (omega arith) (omega arith)) (said (bytes_of " "))) (deed-few _)) (after (said (bytes_of " in place ")) (number (omega arith)))) (said (bytes_of ", which this nexus used")))
        (omega arith)

    sentence-few : (n : ℕ) → Few (sentence_by n reason) 180
    unfolding sentence_by bytes_of
    sentence-few n =
        either (eqb n 0) (allowed-few _ _ (omega arith)) (omega arith)
        (either (eqb n 1) (said (bytes_of "the device record is not well formed")) (omega arith)
        (either (eqb n 2) (said (bytes_of "the drive has no nexus of that number")) (omega arith)
        (either (eqb n 3 || eqb n 4) (after (said (bytes_of "a unit attention is pending: ")) touch-few) (omega arith)
        (either (eqb n 11) (after (said (bytes_of "the nexus is locked: ")) touch-few) (omega arith)
        (either (eqb n 12) (unsupported-few _ _ (omega arith) (omega arith)) (omega arith) (within (said (bytes_of "the answer is not a write's")) (omega arith)))))))

    -- The two lines are at most as long as the code's array.
    pub text-fits : length (reason_text reason) ≤ lines_most
    unfolding reason_text first_line second_line bytes_of
    text-fits =
        let low = number-low reason.cause.answer in
        let whole : Few (reason_text reason) lines_most =
        within (after (after (after (number (omega arith)) (stopper-few _ _ _ (omega arith) (omega arith))) (said (bytes_of "\n"))) (after (sentence-few _) (said (bytes_of "\n")))) (omega arith) in
        whole.low

    -- So is what is said of a write.
    pub write-fits : (position : ℕ) → position < 2 ^ 64 → length (write_text position reason) ≤ lines_most
    unfolding write_text second_line bytes_of
    write-fits position p =
        let whole : Few (write_text position reason) lines_most =
        within (after (after (after (said (bytes_of "")) (number p)) (said (bytes_of " "))) (after (sentence-few _) (said (bytes_of "\n")))) (omega arith) in
        whole.low
