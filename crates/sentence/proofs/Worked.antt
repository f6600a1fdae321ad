-- Texts of reasons, to the character, by computing.
-- Assumes nothing.
use Prim.Native.Nat.{ℕ}
use mathlib.Core.Path.{◌≡◌, refl}
use mathlib.Core.List.{List, [], ◌∷◌, map}
use lib.Dec.{T, ltb}
use Rattle.text.specs.Characters.{bytes_of}
use Rattle.text.specs.Decimal.{digits_within, decimal}
use Rattle.answer.specs.declared.Answer.TheVariants.{Done, NotWellFormed, NexusAbove, ChangedByAnotherNexus, ChangedByVendorEvent, ProtocolNotSupported, KeyInstanceChanged, ParametersNotUsable, KeyIncorrect}
use Rattle.recording.specs.Forms.{form_of}
use Rattle.why.specs.declared.Deed.TheVariants.{Untouched, Established, Replaced, Evicted, Released}
use Rattle.sentence.specs.Telling.{kind_words, has_nexus, nexus_words, event_words, deed_words, touch_words, block_words, allowed_words, unsupported_words, sentence_by, stopper_words, first_line, second_line, reason_text}
use Rattle.sentence.specs.Claims.{Worded, stops, stands, worded_so}

-- docs/REASONS.md, "The lines": its table
unfoldable pub table : List Worded
table =
    stands Done 1 2 "0\nnothing stops this write: its block goes down encrypted under the set in place 1\n"
    ∷ stands NotWellFormed 0 0 "1\nthe device record is not well formed\n"
    ∷ stands NexusAbove 0 0 "2\nthe drive has no nexus of that number\n"
    ∷ stops ChangedByAnotherNexus 4 2 6 Replaced 0 "3\na unit attention is pending: event 4 (SECURITY PROTOCOL OUT, nexus 6) replaced the set in place 0, which this nexus used\n"
    ∷ stops ChangedByVendorEvent 5 5 0 Released 1 "4\na unit attention is pending: event 5 (demount) released the set in place 1, which this nexus used\n"
    ∷ stops KeyInstanceChanged 7 5 0 Released 1 "11 5 7\nthe nexus is locked: event 7 (demount) released the set in place 1, which this nexus used\n"
    ∷ stands ParametersNotUsable 1 2 "12\nthe set in place 1 has encryption mode 2 (ENCRYPT), and the volume doesn't support it\n"
    ∷ []

-- "A block goes down clear under encryption mode 0, external under 1, encrypted under any other."
unfoldable pub modes : List Worded
modes =
    stands Done 0 0 "0\nnothing stops this write: its block goes down clear under the set in place 0\n"
    ∷ stands Done 0 1 "0\nnothing stops this write: its block goes down external under the set in place 0\n"
    ∷ stands Done 4 2 "0\nnothing stops this write: its block goes down encrypted under the set in place 4\n"
    ∷ stands Done 4 3 "0\nnothing stops this write: its block goes down encrypted under the set in place 4\n"
    ∷ []

-- every kind, those with a nexus at its ends and above 15; what an event did; large positions
unfoldable pub events : List Worded
events =
    stops KeyInstanceChanged 0 0 9 Released 1 "11 0 0\nthe nexus is locked: event 0 (power-on) released the set in place 1, which this nexus used\n"
    ∷ stops KeyInstanceChanged 9 1 0 Replaced 0 "11 1 9\nthe nexus is locked: event 9 (SECURITY PROTOCOL IN, nexus 0) replaced the set in place 0, which this nexus used\n"
    ∷ stops KeyInstanceChanged 10 2 15 Evicted 4 "11 2 10\nthe nexus is locked: event 10 (SECURITY PROTOCOL OUT, nexus 15) evicted the set in place 4, which this nexus used\n"
    ∷ stops KeyInstanceChanged 99 3 16 Replaced 2 "11 3 99\nthe nexus is locked: event 99 (write, nexus 16) replaced the set in place 2, which this nexus used\n"
    ∷ stops ChangedByVendorEvent 100 4 9 Released 1 "4\na unit attention is pending: event 100 (logical unit reset) released the set in place 1, which this nexus used\n"
    ∷ stops KeyInstanceChanged 255 5 9 Released 3 "11 5 255\nthe nexus is locked: event 255 (demount) released the set in place 3, which this nexus used\n"
    ∷ stops KeyInstanceChanged 256 6 100 Released 3 "11 6 256\nthe nexus is locked: event 256 (nexus reservation loss, nexus 100) released the set in place 3, which this nexus used\n"
    ∷ stops ChangedByVendorEvent 999 7 9 Released 1 "4\na unit attention is pending: event 999 (device reservation loss) released the set in place 1, which this nexus used\n"
    ∷ stops KeyInstanceChanged 1000 8 255 Released 4 "11 8 1000\nthe nexus is locked: event 1000 (preempt, nexus 255) released the set in place 4, which this nexus used\n"
    ∷ stops ChangedByVendorEvent 4095 9 9 Released 0 "4\na unit attention is pending: event 4095 (microcode) released the set in place 0, which this nexus used\n"
    ∷ stops ChangedByVendorEvent 8188 10 9 Released 4 "4\na unit attention is pending: event 8188 (vendor release) released the set in place 4, which this nexus used\n"
    ∷ stops KeyInstanceChanged 8189 11 255 Released 4 "11 11 8189\nthe nexus is locked: event 8189 (read, nexus 255) released the set in place 4, which this nexus used\n"
    ∷ stops ChangedByAnotherNexus 3 2 1 Established 0 "3\na unit attention is pending: event 3 (SECURITY PROTOCOL OUT, nexus 1) established a set in place 0, which this nexus used\n"
    ∷ []

-- what no reason of a recorded session has is told too: the function is total
unfoldable pub others : List Worded
others =
    stands ProtocolNotSupported 1 2 "5\nthe answer is not a write's\n"
    ∷ stands KeyIncorrect 1 2 "17\nthe answer is not a write's\n"
    ∷ stands KeyInstanceChanged 1 2 "11 0 0\nthe nexus is locked: event 0 (power-on) left the set in place 1, which this nexus used\n"
    ∷ stops KeyInstanceChanged 18446744073709551615 12 7 Untouched 18446744073709551615 "11 12 18446744073709551615\nthe nexus is locked: event 18446744073709551615 (unknown) left the set in place 18446744073709551615, which this nexus used\n"
    ∷ []

pub table-told : T (worded_so table)
unfolding worded_so table bytes_of digits_within decimal kind_words nexus_words event_words deed_words touch_words block_words allowed_words unsupported_words sentence_by stopper_words first_line second_line reason_text
table-told = tt

pub modes-told : T (worded_so modes)
unfolding worded_so modes bytes_of digits_within decimal kind_words nexus_words event_words deed_words touch_words block_words allowed_words unsupported_words sentence_by stopper_words first_line second_line reason_text
modes-told = tt

pub events-told : T (worded_so events)
unfolding worded_so events bytes_of digits_within decimal kind_words nexus_words event_words deed_words touch_words block_words allowed_words unsupported_words sentence_by stopper_words first_line second_line reason_text
events-told = tt

pub others-told : T (worded_so others)
unfolding worded_so others bytes_of digits_within decimal kind_words nexus_words event_words deed_words touch_words block_words allowed_words unsupported_words sentence_by stopper_words first_line second_line reason_text
others-told = tt

-- the kinds that are told with a nexus are those that may be recorded with one
pub nexuses-recorded : (let kinds : List ℕ = 0 ∷ 1 ∷ 2 ∷ 3 ∷ 4 ∷ 5 ∷ 6 ∷ 7 ∷ 8 ∷ 9 ∷ 10 ∷ 11 ∷ 12 ∷ [] in map has_nexus kinds ≡ map (λ kind. ltb 0 (form_of kind).nexus) kinds)
unfolding form_of
nexuses-recorded = refl
