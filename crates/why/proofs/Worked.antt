-- Reasons, by computing: verdict, answer, position, kind, nexus, place, what was done there, mode.
-- Assumes nothing.
use Prim.Native.Nat.{ℕ, ◌*◌}
use mathlib.Core.Bool.{◌&&◌}
use mathlib.Core.List.{List, [], ◌∷◌, ◌++◌}
use lib.Dec.{T}
use Rattle.wire.specs.Parts.{parts}
use Rattle.answer.specs.declared.Answer.TheVariants.{Done, NexusAbove, ChangedByAnotherNexus, ChangedByVendorEvent, KeyInstanceChanged, ParametersNotUsable}
use Rattle.kad.specs.Reading.{descriptor_rules, listed}
use Rattle.page.specs.Fields.{list_of}
use Rattle.page.specs.Rules.{open_rules, mode_rules, plain_rules, key_rules, set_rules, match_rules, end_rules, supplemental_rules}
use Rattle.page.specs.Check.{public_page, supplemental_page, set_page, checked}
use Rattle.device.specs.Record.{power_on}
use Rattle.device.specs.Selecting.{owned_place, selected}
use Rattle.device.specs.WellFormed.{set_good, nexus_good, owner_is_local, well_formed}
use Rattle.marks.specs.Marks.{changes, flagged}
use Rattle.marks.specs.Reset.{cleared}
use Rattle.places.specs.Actions.{act, acts, releases, own_place, room, page_actions, sender_after, supplemented, taken}
use Rattle.drive.specs.Checks.{checks, answer}
use Rattle.drive.specs.Effects.{effect_by}
use Rattle.drive.specs.After.{actions_of, changed_by, carried_out}
use Rattle.drive.specs.Runs.{run_from}
use Rattle.drive.specs.Claims.{page, page_k, locked, unlocked}
use Rattle.calls.specs.Asking.{event_of, asked_of}
use Rattle.recording.specs.Forms.{form_of}
use Rattle.recording.specs.Entries.{entry_of, sound, call}
use Rattle.recording.specs.Files.{headed, sound_file, file_of}
use Rattle.recording.specs.Claims.{event}
use Rattle.recording.specs.declared.Verdict.TheVariants as verdicts
use Rattle.recording.specs.declared.Verdict.TheVariants.{EventsAbove, RecordingWrong}
use Rattle.history.specs.History.{hits, bare, full, reads, read_from, followed, trail_over, trail}
use Rattle.session.specs.Folds.{fold_calls}
use Rattle.why.specs.declared.Deed.TheVariants.{Established, Replaced, Evicted, Released}
use Rattle.why.specs.declared.Reason.{Reason}
use Rattle.why.specs.Touches.{untouched}
use Rattle.why.specs.Causes.{stopper, raised, raiser, cause_of}
use Rattle.why.specs.Reasons.{why_verdict, no_reason, why}
use Rattle.why.specs.Watching.{watched}
use Rattle.why.specs.Claims.{Question, asks, asks_old, by_touch, by_use, reasons_told, reasons_read}

-- pages of 52 bytes, by their number: K, LOCAL and locked; a supplemental key; ALL; PUBLIC and locked; K unlocked; LOCAL, locked, CKORP and
-- CKORL; ALL, locked, CKORL
abbrev pages : List ℕ
pages =
    page_k locked ++ page 0x30 unlocked 0x08 [] ++ page 0x30 0x40 0x44 [] ++ page 0x30 0x01 0x44 [] ++ page_k unlocked ++ page 0x30 locked 0x43 []
    ++ page 0x30 0x41 0x41 []

abbrev sends : (n page : ℕ) → List ℕ
sends n page = event 2 n 0x10 (52 * page) 52

abbrev writes : ℕ → List ℕ
writes n = event 3 n 1 0 0

abbrev demount : List ℕ
demount = event 5 0 0 0 0

abbrev file : List ℕ → List ℕ
file events = file_of events pages

-- P7: the demount released nexus 3's set
abbrev p7 : List ℕ
p7 = file (sends 3 0 ++ writes 3 ++ demount ++ writes 3)

-- P8: nexus 6's ALL page established a set where nexus 5 used the default set, and nexus 7's replaced it
abbrev p8 : List ℕ
p8 = file (sends 5 3 ++ writes 5 ++ sends 6 2 ++ writes 5 ++ sends 7 2 ++ writes 5)

-- nexus 3 isn't registered when the volume is taken out, so it isn't told; registered again, it is told of nexus 6's page
abbrev untold : List ℕ
untold = file (sends 3 0 ++ event 4 0 0 0 0 ++ demount ++ event 1 3 0x20 0 0 ++ sends 6 2 ++ writes 3)

-- a page sent again, and its set released
abbrev again : List ℕ
again = file (sends 3 0 ++ demount ++ writes 3 ++ sends 3 0 ++ event 10 0 1 0 0 ++ writes 3)

-- a supplemental key, then new microcode
abbrev extended : List ℕ
extended = file (sends 3 0 ++ sends 3 1 ++ event 9 0 0 0 0 ++ writes 3)

-- refused pages after the demount: a supplemental key of a nexus that is PUBLIC by then, and a page code that isn't known
abbrev refused : List ℕ
refused = file (sends 3 0 ++ demount ++ writes 3 ++ sends 3 1 ++ event 2 3 0x20 0 52)

-- four nexuses fill the places, and nexus 5 needs one
abbrev full-house : List ℕ
full-house = file (sends 1 4 ++ sends 2 4 ++ sends 3 4 ++ sends 4 4 ++ sends 5 4)

-- power-on in the middle
abbrev parted : List ℕ
parted = file (sends 3 0 ++ demount ++ event 0 0 0 0 0 ++ sends 2 0 ++ sends 3 0 ++ demount ++ writes 3)

-- reservations lost, and a preempt
abbrev lost : List ℕ
lost = file (sends 3 5 ++ event 6 3 0 0 0 ++ writes 3)

abbrev preempted : List ℕ
preempted = file (sends 3 5 ++ event 8 4 0 0 0 ++ writes 3)

abbrev unreserved : List ℕ
unreserved = file (sends 5 6 ++ event 7 0 0 0 0 ++ writes 5)

-- a nexus that the drive hasn't
abbrev above : Reason
above = record { verdict = verdicts.Done; cause = record { answer = NexusAbove; touch = untouched; mode = 0 }; kind = 0; nexus = 0 }

-- of recordings that are taken
unfoldable pub table : List Question
table =
    asks p7 0 3 (by_use Done 0 0)
    ∷ asks p7 1 3 (by_use Done 1 2)
    ∷ asks_old p7 1 3 (by_use ParametersNotUsable 1 2)
    ∷ asks p7 3 3 (by_touch ChangedByVendorEvent 2 5 0 1 Released)
    ∷ asks p7 4 3 (by_touch KeyInstanceChanged 2 5 0 1 Released)
    ∷ asks_old p7 4 3 (by_touch KeyInstanceChanged 2 5 0 1 Released)
    ∷ asks p7 4 15 (by_use Done 0 0)
    -- "after 22 and before 2": the nexus is asked last
    ∷ asks p7 4 16 above
    ∷ asks p7 0 255 above
    -- the flag was raised by nexus 6's page, and again by nexus 7's; the first call that touched the set stays the first
    ∷ asks p8 2 5 (by_use Done 0 0)
    ∷ asks p8 3 5 (by_touch ChangedByAnotherNexus 2 2 6 0 Established)
    ∷ asks p8 4 5 (by_touch KeyInstanceChanged 2 2 6 0 Established)
    ∷ asks p8 5 5 (by_touch ChangedByAnotherNexus 4 2 7 0 Replaced)
    ∷ asks p8 6 5 (by_touch KeyInstanceChanged 2 2 6 0 Established)
    ∷ asks p8 6 6 (by_touch ChangedByAnotherNexus 4 2 7 0 Replaced)
    ∷ asks p8 6 7 (by_use Done 0 2)
    -- not the event that raised the flag, but the one that touched the set
    ∷ asks untold 3 3 (by_touch KeyInstanceChanged 2 5 0 1 Released)
    ∷ asks untold 5 3 (by_touch ChangedByAnotherNexus 4 2 6 0 Established)
    ∷ asks untold 6 3 (by_touch KeyInstanceChanged 2 5 0 1 Released)
    -- what came before the lock doesn't count
    ∷ asks again 4 3 (by_use Done 1 2)
    ∷ asks again 5 3 (by_touch ChangedByVendorEvent 4 10 0 1 Released)
    ∷ asks again 6 3 (by_touch KeyInstanceChanged 4 10 0 1 Released)
    -- neither a supplemental key nor a refused page is the lock
    ∷ asks extended 2 3 (by_use Done 1 2)
    ∷ asks extended 4 3 (by_touch KeyInstanceChanged 2 9 0 1 Released)
    ∷ asks refused 5 3 (by_touch KeyInstanceChanged 1 5 0 1 Released)
    -- nexus 1's set made room; it isn't locked, so its next write but one passes
    ∷ asks full-house 5 1 (by_touch ChangedByAnotherNexus 4 2 5 1 Evicted)
    ∷ asks full-house 5 2 (by_use Done 2 2)
    -- "positions count from 0" in the whole recording
    ∷ asks parted 3 3 (by_use Done 0 0)
    ∷ asks parted 6 3 (by_touch ChangedByVendorEvent 5 5 0 2 Released)
    ∷ asks parted 7 3 (by_touch KeyInstanceChanged 5 5 0 2 Released)
    -- every kind that can be the reason
    ∷ asks lost 3 3 (by_touch KeyInstanceChanged 1 6 3 1 Released)
    ∷ asks preempted 2 3 (by_touch ChangedByAnotherNexus 1 8 4 1 Released)
    ∷ asks preempted 3 3 (by_touch KeyInstanceChanged 1 8 4 1 Released)
    ∷ asks unreserved 2 5 (by_touch ChangedByVendorEvent 1 7 0 0 Released)
    ∷ asks unreserved 3 5 (by_touch KeyInstanceChanged 1 7 0 0 Released)
    ∷ []

-- "a number above the event count gets 19, after 22"
unfoldable pub refusals : List Question
refusals =
    asks p7 5 3 (no_reason EventsAbove)
    ∷ asks p7 65536 3 (no_reason EventsAbove)
    ∷ asks p7 5 16 (no_reason EventsAbove)
    ∷ asks (file_of [] []) 1 3 (no_reason EventsAbove)
    ∷ asks (file_of (event 12 0 0 0 0) []) 0 3 (no_reason RecordingWrong)
    ∷ asks (file_of (event 12 0 0 0 0) []) 2 3 (no_reason RecordingWrong)
    ∷ asks [] 1 16 (no_reason RecordingWrong)
    ∷ []

pub worked : T (reasons_told table && reasons_told refusals && reasons_read table)
unfolding reasons_told reasons_read table refusals parts form_of entry_of sound call headed sound_file event_of asked_of run_from fold_calls watched stopper raised raiser cause_of why_verdict why hits bare full reads read_from followed trail_over trail checks answer effect_by actions_of changed_by carried_out changes flagged cleared act acts releases own_place room page_actions sender_after supplemented taken set_good nexus_good owner_is_local well_formed owned_place selected power_on public_page supplemental_page set_page checked open_rules mode_rules plain_rules key_rules set_rules match_rules end_rules supplemental_rules list_of descriptor_rules listed
worked = tt
