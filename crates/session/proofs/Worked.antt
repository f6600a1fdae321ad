-- Recordings replayed, by computing: verdict, each byte of the lent buffer, and the whole record at the end.
-- Assumes nothing.
use Prim.Native.Nat.{ℕ}
use mathlib.Core.Bool.{true, false}
use mathlib.Core.List.{List, [], ◌∷◌, ◌++◌, map}
use mathlib.Core.Path.{◌≡◌, refl}
use lib.Dec.{T}
use lib.ListN.{replicate}
use Rattle.wire.specs.Parts.{joined, parts}
use Rattle.answer.specs.Printed.{printed, every_answer}
use Rattle.answer.specs.declared.Row.{Row}
use Rattle.kad.specs.Reading.{descriptor_rules, listed}
use Rattle.page.specs.Fields.{list_of}
use Rattle.page.specs.Rules.{open_rules, mode_rules, plain_rules, key_rules, set_rules, match_rules, end_rules, supplemental_rules}
use Rattle.page.specs.Check.{public_page, supplemental_page, set_page, checked}
use Rattle.device.specs.Record.{power_on}
use Rattle.device.specs.Selecting.{owned_place, selected}
use Rattle.device.specs.WellFormed.{set_good, nexus_good, owner_is_local, well_formed}
use Rattle.marks.specs.Marks.{changes, flagged}
use Rattle.marks.specs.Reset.{cleared}
use Rattle.places.specs.Actions.{act, acts, releases, own_place, room, page_actions, sender_after, supplemented, taken}
use Rattle.places.specs.declared.Event.TheVariants.{Demount, NexusLoss, Preempt, VendorRelease}
use Rattle.drive.specs.Calls.{Call, security_in, write, read, unit_reset, happens}
use Rattle.drive.specs.Restoring.{under_mode}
use Rattle.drive.specs.Checks.{checks, answer}
use Rattle.drive.specs.Effects.{effect_by}
use Rattle.drive.specs.After.{actions_of, changed_by, carried_out}
use Rattle.drive.specs.Runs.{run_from}
use Rattle.drive.specs.Claims.{page_k, locked, command, sends, block, same_record}
use Rattle.calls.specs.Asking.{event_of, asked_of}
use Rattle.recording.specs.Forms.{form_of}
use Rattle.recording.specs.Entries.{entry_of, sound, call}
use Rattle.recording.specs.Files.{headed, sound_file, file_of}
use Rattle.recording.specs.Claims.{event, under}
use Rattle.session.specs.Answers.{four_of, answers_from}
use Rattle.session.specs.Claims.{Replay, replays, refuses, replayed}

-- four bytes of an answer
abbrev four : ℕ → ℕ → ℕ → ℕ → List ℕ
four number key asc ascq = number ∷ key ∷ asc ∷ ascq ∷ []

abbrev done : List ℕ
done = four 0 0 0 0

-- page K from nexus 3; the pages of K and of K with PUBLIC's byte 4 one after another
abbrev K : List ℕ
K = page_k locked

-- nexus 3 sends K, its volume is taken out; it is told, its write is stopped, it reads
abbrev p7 : List ℕ
p7 = event 2 3 0x10 0 52 ++ event 3 3 1 0 0 ++ event 3 3 0 0 0 ++ event 5 0 0 0 0 ++ event 3 3 1 0 0 ++ event 3 3 1 0 0 ++ event 11 3 0x0FF 0 0

abbrev p7-told : List ℕ
p7-told = done ++ done ++ four 12 7 0x74 0x07 ++ done ++ four 4 6 0x2A 0x12 ++ four 11 7 0x2A 0x13 ++ done

abbrev p7-made : List Call
p7-made = sends 3 K ∷ write 3 true ∷ write 3 false ∷ happens Demount ∷ write 3 true ∷ write 3 true ∷ read 3 (block 0 255) ∷ []

unfoldable pub table : List Replay
table =
    -- "The file 00 01 00 08 00 10 00 10 05 00 00 00 00 00 00 00 gives 00 00 00 00."
    replays (0x00 ∷ 0x01 ∷ 0x00 ∷ 0x08 ∷ 0x00 ∷ 0x10 ∷ 0x00 ∷ 0x10 ∷ 0x05 ∷ replicate 7 0x00) 5 (0x00 ∷ 0x00 ∷ 0x00 ∷ 0x00 ∷ 0xA5 ∷ []) (happens Demount ∷ [])
    -- a session; bytes beyond stay; a shorter buffer gets as many bytes as it holds, and one of none gets none
    ∷ replays (file_of p7 K) 28 p7-told p7-made
    ∷ replays (file_of p7 K) 30 (p7-told ++ 0xA5 ∷ 0xA5 ∷ []) p7-made
    ∷ replays (file_of p7 K) 10 (done ++ done ++ 12 ∷ 7 ∷ []) p7-made
    ∷ replays (file_of p7 K) 0 [] p7-made
    -- the same, with a wrong event in the end, in the beginning, and a total that lies: nothing of it is replayed
    ∷ refuses (file_of (p7 ++ event 12 0 0 0 0) K)
    ∷ refuses (file_of (event 0 1 0 0 0 ++ p7) K)
    ∷ refuses (under 7 8 64 117 (p7 ++ K))
    ∷ refuses []
    -- no event
    ∷ replays (file_of [] []) 3 (replicate 3 0xA5) []
    -- "IN gives no page here"; it registers its nexus
    ∷ replays (file_of (event 1 3 0x20 0 0 ++ event 1 3 0x77 0 0) []) 8 (done ++ four 6 5 0x24 0x00) (security_in (command 3 0x20) ∷ [])
    -- left to the calls: a page of no bytes 7, a read of block kind 3 14, a nexus above 15 2, a place above 4 13
    ∷ replays (file_of (event 2 3 0x10 0 0 ++ event 11 3 0x300 0 0) []) 8 (four 7 5 0x1A 0x00 ++ four 14 0 0 0) (security_in (command 3 0x20) ∷ [])
    ∷ replays (file_of (event 3 16 1 0 0 ++ event 1 16 0x20 0 0 ++ event 6 255 0 0 0 ++ event 8 16 0 0 0 ++ event 11 16 0 0 0) []) 20
    (four 2 0 0 0 ++ four 2 0 0 0 ++ four 2 0 0 0 ++ four 2 0 0 0 ++ four 2 0 0 0) []
    ∷ replays (file_of (event 10 0 5 0 0 ++ event 10 0 65535 0 0) []) 8 (four 13 0 0 0 ++ four 13 0 0 0) []
    -- pages that overlap, pages in another order, page bytes that no event uses: offsets count from the page bytes
    ∷ replays (file_of (event 2 4 0x10 2 52 ++ event 2 3 0x10 2 52) (0xAA ∷ 0xBB ∷ (K ++ 0xCC ∷ []))) 8 (done ++ done) (sends 4 K ∷ sends 3 K ∷ [])
    ∷ replays (file_of (event 2 4 0x10 0 51) (K ++ 0xCC ∷ [])) 4 (four 7 5 0x1A 0x00) (security_in (command 4 0x20) ∷ [])
    -- power-on in the middle; a reset; a preempt that the sender's set survives; a vendor release and a reservation loss
    ∷ replays (file_of (event 2 3 0x10 0 52 ++ event 0 0 0 0 0 ++ event 3 3 1 0 0) K) 12 (done ++ done ++ done) []
    ∷ replays (file_of (event 2 3 0x10 0 52 ++ event 8 4 0 0 0 ++ event 4 0 0 0 0 ++ event 10 0 1 0 0 ++ event 6 3 0 0 0) K) 20 (done ++ done ++ done ++ done ++ done)
    (sends 3 K ∷ happens (Preempt 4) ∷ unit_reset ∷ happens (VendorRelease 1) ∷ happens (NexusLoss 3) ∷ [])
    ∷ []

pub worked : T (replayed table)
unfolding replayed table joined parts form_of entry_of sound call headed sound_file event_of asked_of answers_from same_record run_from checks answer effect_by actions_of changed_by carried_out changes flagged cleared act acts releases own_place room page_actions sender_after supplemented taken set_good nexus_good owner_is_local well_formed owned_place selected power_on public_page supplemental_page set_page checked open_rules mode_rules plain_rules key_rules set_rules match_rules end_rules supplemental_rules list_of descriptor_rules listed under_mode
worked = tt

-- every answer's four bytes are the number and sense of its row as it is printed, whatever byte 8 carries
pub four-as-printed : (byte : ℕ) → map four_of (every_answer byte) ≡ map (λ (r : Row). four r.number r.sense.key r.sense.asc r.sense.ascq) (printed byte)
four-as-printed byte = refl
