-- Batches, by computing: verdict, each byte of the lent buffer, and the whole record at the end, its words included.
-- Assumes nothing.
use Prim.Native.Nat.{ℕ, zero, suc, ◌+◌, ◌-◌, ◌*◌}
use mathlib.Core.Bool.{true, false}
use mathlib.Core.List.{List, [], ◌∷◌, ◌++◌}
use mathlib.Core.Path.{◌≡◌, refl}
use lib.Dec.{T}
use lib.ListN.{take}
use Rattle.wire.specs.Parts.{joined, parts}
use Rattle.kad.specs.Reading.{descriptor_rules, listed}
use Rattle.parameters.specs.Codes.{local_scope}
use Rattle.page.specs.Fields.{list_of}
use Rattle.page.specs.Rules.{open_rules, mode_rules, plain_rules, key_rules, set_rules, match_rules, end_rules, supplemental_rules}
use Rattle.page.specs.Check.{public_page, supplemental_page, set_page, checked}
use Rattle.device.specs.Record.{power_on}
use Rattle.device.specs.Selecting.{owned_place, selected}
use Rattle.device.specs.WellFormed.{set_good, nexus_good, owner_is_local, well_formed}
use Rattle.device.specs.Words.{words, Worded, with_words, keeping, formed}
use Rattle.device.specs.Updates.{with_scope, at_nexus}
use Rattle.marks.specs.Marks.{changes, flagged}
use Rattle.marks.specs.Reset.{cleared}
use Rattle.places.specs.Actions.{act, acts, releases, own_place, room, page_actions, sender_after, supplemented, taken}
use Rattle.places.specs.declared.Event.TheVariants.{Demount}
use Rattle.drive.specs.Calls.{Call, security_in, write, happens}
use Rattle.drive.specs.Restoring.{under_mode}
use Rattle.drive.specs.Checks.{checks, answer, known_answer, answer_where}
use Rattle.drive.specs.Effects.{effect_by}
use Rattle.drive.specs.After.{actions_of, changed_by, carried_out}
use Rattle.drive.specs.Runs.{run_from}
use Rattle.drive.specs.Records.{after_all}
use Rattle.drive.specs.Claims.{page_k, locked, command, sends, since, same_record}
use Rattle.calls.specs.Asking.{event_of, asked_of}
use Rattle.recording.specs.Forms.{form_of}
use Rattle.recording.specs.Entries.{entry_of, sound, call}
use Rattle.recording.specs.Claims.{event}
use Rattle.session.specs.Records.{answers_of}
use Rattle.batch.specs.Joining.{moved}
use Rattle.batch.specs.Claims.{Batch, takes, refuses, batched}

-- four bytes of an answer
abbrev four : ℕ → ℕ → ℕ → ℕ → List ℕ
four number key asc ascq = number ∷ key ∷ asc ∷ ascq ∷ []

abbrev done : List ℕ
done = four 0 0 0 0

-- so many times the same bytes
abbrev times : ℕ → List ℕ → List ℕ
times zero bytes = []
times (suc n) bytes = bytes ++ times n bytes

-- page K from nexus 3
abbrev K : List ℕ
K = page_k locked

abbrev sends_k : List ℕ
sends_k = event 2 3 0x10 0 52

abbrev writes : List ℕ
writes = event 3 3 1 0 0

abbrev powers : List ℕ
powers = event 0 0 0 0 0

-- n events: nexus 3 sends K, then writes
abbrev several : ℕ → List ℕ
several n = sends_k ++ times (n - 1) writes

-- ---- starting records

-- after calls since power-on
abbrev made : List Call → Worded
made calls = with_words (since calls)

abbrev fresh : Worded
fresh = made []

-- nexus 3 has sent K
abbrev used : Worded
used = made (sends 3 K ∷ [])

-- it, and again
abbrev again : Worded
again = made (sends 3 K ∷ sends 3 K ∷ [])

-- a bit away from well formed: nexus 7 is LOCAL and has no place
abbrev unformed : Worded
unformed = with_words (at_nexus 7 (with_scope local_scope) used.state)

-- its words alone are: the bit of nexus 7 stands beside place 1, where only that of nexus 3 belongs
abbrev misworded : Worded
misworded = keeping (0xFF77 ∷ 0x0088 ∷ 0 ∷ 0 ∷ 0 ∷ []) used.state

-- ---- the limits: a buffer that is a byte short, one that just holds the answers, and one with a byte beyond

abbrev limits : ℕ → Worded → (events answers : List ℕ) → (end : Worded) → List Batch → List Batch
limits n r events answers end more =
    refuses r events K (4 * n - 1) 18 ∷ takes r events K (4 * n) answers 0 end ∷ takes r events K (4 * n + 1) answers 1 end ∷ more

-- more than 64 events, whatever the buffer
abbrev above : ℕ → Worded → (events : List ℕ) → List Batch → List Batch
above n r events more = refuses r events K (4 * n - 1) 18 ∷ refuses r events K (4 * n) 18 ∷ refuses r events K (4 * n + 1) 18 ∷ more

unfoldable pub formed-table : List Batch
formed-table =
    takes used [] K 0 [] 0 used
    ∷ takes used [] K 1 [] 1 used
    ∷ limits 1 used (several 1) done again
    (limits 63 used (several 63) (times 63 done) again
    (limits 64 used (several 64) (times 64 done) again
    (above 65 used (several 65)
    [])))

-- "each event answers 1 until a power-on"
unfoldable pub unformed-table : List Batch
unformed-table =
    takes unformed [] K 0 [] 0 unformed
    ∷ takes unformed [] K 1 [] 1 unformed
    ∷ limits 1 unformed (several 1) (four 1 0 0 0) unformed
    (limits 63 unformed (several 63) (times 63 (four 1 0 0 0)) unformed
    (limits 64 unformed (several 64) (times 64 (four 1 0 0 0)) unformed
    (above 65 unformed (several 65)
    (limits 3 misworded (several 3) (times 3 (four 1 0 0 0)) misworded
    []))))

-- a power-on first, in the middle, and last
unfoldable pub mended-table : List Batch
mended-table =
    limits 1 unformed powers done fresh
    (limits 63 unformed (several 30 ++ powers ++ several 32) (times 30 (four 1 0 0 0) ++ times 33 done) used
    (limits 64 unformed (powers ++ several 63) (times 64 done) used
    (limits 64 unformed (several 63 ++ powers) (times 63 (four 1 0 0 0) ++ done) fresh
    (above 65 unformed (powers ++ several 64)
    (limits 3 misworded (several 2 ++ powers) (times 2 (four 1 0 0 0) ++ done) (keeping (0xFFFF ∷ 0 ∷ 0 ∷ 0 ∷ 0 ∷ []) (since []))
    (limits 4 misworded (several 2 ++ powers ++ several 1) (times 2 (four 1 0 0 0) ++ times 2 done) (keeping (0xFFF7 ∷ 0x0008 ∷ 0 ∷ 0 ∷ 0 ∷ []) (since (sends 3 K ∷ [])))
    []))))))

-- ---- the rules

abbrev wrongs : List ℕ
wrongs = event 12 0 0 0 0

-- P7: nexus 3 sends K, its volume is taken out; it is told, its write is stopped
abbrev p7 : List ℕ
p7 = sends_k ++ writes ++ event 3 3 0 0 0 ++ event 5 0 0 0 0 ++ writes ++ writes

abbrev p7-told : List ℕ
p7-told = done ++ done ++ four 12 7 0x74 0x07 ++ done ++ four 4 6 0x2A 0x12 ++ four 11 7 0x2A 0x13

abbrev p7-made : List Call
p7-made = sends 3 K ∷ write 3 true ∷ write 3 false ∷ happens Demount ∷ write 3 true ∷ write 3 true ∷ []

unfoldable pub rules-table : List Batch
rules-table =
    -- "it must equal the same events sent one by one, refused ones included"; "bytes beyond kept"
    takes fresh p7 K 24 p7-told 0 (made p7-made)
    ∷ takes fresh p7 K 40 p7-told 16 (made p7-made)
    ∷ takes used p7 K 24 p7-told 0 (made (sends 3 K ∷ p7-made))
    ∷ takes fresh (event 3 16 1 0 0 ++ event 1 3 0x77 0 0 ++ event 2 3 0x10 1 51 ++ event 10 0 5 0 0 ++ event 11 3 0x300 0 0) K 20
    (four 2 0 0 0 ++ four 6 5 0x24 0 ++ four 7 5 0x1A 0 ++ four 13 0 0 0 ++ four 14 0 0 0) 0 (made (security_in (command 3 0x20) ∷ []))
    -- "An empty batch changes nothing"
    ∷ takes fresh [] [] 0 [] 0 fresh
    ∷ takes fresh [] [] 7 [] 7 fresh
    -- "a wrong field or page": in the first event, between and in the last, "before any event runs"
    ∷ refuses fresh (wrongs ++ sends_k ++ writes) K 12 22
    ∷ refuses fresh (sends_k ++ wrongs ++ writes) K 12 22
    ∷ refuses fresh (sends_k ++ writes ++ wrongs) K 12 22
    ∷ refuses fresh (sends_k ++ event 3 3 2 0 0) K 8 22
    ∷ refuses fresh (sends_k ++ event 5 1 0 0 0) K 8 22
    ∷ refuses fresh (event 2 3 0x10 0 53) K 4 22
    ∷ refuses fresh (event 2 3 0x10 1 52) K 4 22
    ∷ refuses fresh sends_k (take 51 K) 4 22
    ∷ refuses unformed (sends_k ++ wrongs) K 8 22
    ∷ refuses misworded (sends_k ++ wrongs) K 8 22
    -- "or a part event left over"
    ∷ refuses fresh (sends_k ++ take 1 writes) K 4 22
    ∷ refuses fresh (sends_k ++ take 7 writes) K 8 22
    ∷ refuses fresh (take 1 powers) [] 0 22
    ∷ refuses fresh (take 7 powers) [] 4 22
    ∷ refuses fresh (times 64 powers ++ take 1 powers) [] 256 22
    -- "18 comes first"
    ∷ refuses fresh (sends_k ++ wrongs) K 7 18
    ∷ refuses fresh (sends_k ++ take 7 writes) K 3 18
    ∷ refuses fresh (times 64 powers ++ wrongs) [] 4096 18
    ∷ refuses fresh (times 65 powers ++ take 1 powers) [] 4096 18
    ∷ []

pub limits-worked : T (batched (formed-table ++ unformed-table ++ mended-table))
unfolding batched formed-table unformed-table mended-table joined parts form_of entry_of sound call event_of asked_of answers_of after_all same_record run_from checks answer known_answer answer_where effect_by actions_of changed_by carried_out changes flagged cleared act acts releases own_place room page_actions sender_after supplemented taken set_good nexus_good owner_is_local well_formed words formed owned_place selected power_on public_page supplemental_page set_page checked open_rules mode_rules plain_rules key_rules set_rules match_rules end_rules supplemental_rules list_of descriptor_rules listed under_mode
limits-worked = tt

pub rules-worked : T (batched rules-table)
unfolding batched rules-table joined parts form_of entry_of sound call event_of asked_of answers_of after_all same_record run_from checks answer known_answer answer_where effect_by actions_of changed_by carried_out changes flagged cleared act acts releases own_place room page_actions sender_after supplemented taken set_good nexus_good owner_is_local well_formed words formed owned_place selected power_on public_page supplemental_page set_page checked open_rules mode_rules plain_rules key_rules set_rules match_rules end_rules supplemental_rules list_of descriptor_rules listed under_mode
rules-worked = tt

-- events joined to a batch with 52 page bytes: the page of OUT stands 52 bytes further on, and every other field as it was
pub moved-computed : moved 52 (event 2 4 0x10 1 51 ++ event 3 4 1 0 0 ++ event 1 9 0x20 0 0) ≡ event 2 4 0x10 53 51 ++ event 3 4 1 0 0 ++ event 1 9 0x20 0 0
unfolding joined parts form_of entry_of
moved-computed = refl
