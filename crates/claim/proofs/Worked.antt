-- Claims, by computing: the verdict, and the text to the character.
-- Assumes nothing.
use Prim.Native.Nat.{ℕ}
use mathlib.Core.List.{List, [], ◌∷◌, ◌++◌}
use lib.Dec.{T}
use lib.ListN.{replicate}
use Rattle.wire.specs.Parts.{joined, parts}
use Rattle.text.specs.Characters.{bytes_of}
use Rattle.text.specs.Decimal.{digits_within, decimal}
use Rattle.kad.specs.Reading.{descriptor_rules, listed}
use Rattle.page.specs.Fields.{list_of}
use Rattle.page.specs.Rules.{open_rules, mode_rules, plain_rules, key_rules, set_rules, match_rules, end_rules, supplemental_rules}
use Rattle.page.specs.Check.{public_page, supplemental_page, set_page, checked}
use Rattle.device.specs.Record.{power_on}
use Rattle.device.specs.Selecting.{owned_place, selected}
use Rattle.device.specs.WellFormed.{set_good, nexus_good, owner_is_local, well_formed}
use Rattle.marks.specs.Marks.{changes, flagged}
use Rattle.places.specs.Actions.{act, acts, releases, own_place, room, page_actions, sender_after, supplemented, taken}
use Rattle.drive.specs.Checks.{checks, answer}
use Rattle.drive.specs.Effects.{effect_by}
use Rattle.drive.specs.After.{actions_of, changed_by, carried_out}
use Rattle.drive.specs.Claims.{page_k, modes_page, keyless, locked}
use Rattle.calls.specs.Asking.{event_of, asked_of}
use Rattle.recording.specs.Forms.{form_of}
use Rattle.recording.specs.Entries.{entry_of, sound, call}
use Rattle.recording.specs.Files.{headed, sound_file, file_of}
use Rattle.recording.specs.Claims.{event}
use Rattle.claim.specs.Writes.{writes_from}
use Rattle.claim.specs.Rows.{row_for, rows_from}
use Rattle.claim.specs.Lines.{row_line, row_lines, total_line, claim_lines}
use Rattle.claim.specs.Files.{claim_verdict, claim_text, claim_printed}
use Rattle.claim.specs.Claims.{Priced, claims, refuses, claimed}

-- request 3's example: a demount
abbrev demount : List ℕ
demount = 0x00 ∷ 0x01 ∷ 0x00 ∷ 0x08 ∷ 0x00 ∷ 0x10 ∷ 0x00 ∷ 0x10 ∷ 0x05 ∷ replicate 7 0x00

-- a kind that is no call's
abbrev wrong : List ℕ
wrong = file_of (event 12 0 0 0 0) []

-- a write of nexus n, on a volume that supports the algorithm or not
abbrev writes : ℕ → ℕ → List ℕ
writes n supported = event 3 n supported 0 0

-- a day: nexus 0 writes before anyone sent a page. Nexus 3 sends K, writes, and writes to an old volume. Nexus 4 shares EXTERNAL, and 4 and 0
-- write. The volume is taken out, which releases K's set: nexus 3 is told, and stopped. Nexuses that the drive hasn't write. After power-on
-- nexus 3 writes under the default set.
abbrev day : List ℕ
day =
    writes 0 1 ++ event 2 3 0x10 0 52 ++ writes 3 1 ++ writes 3 0 ++ event 2 4 0x10 52 20 ++ writes 4 1 ++ writes 4 0 ++ writes 0 1
    ++ event 5 0 0 0 0 ++ writes 3 1 ++ writes 3 1 ++ writes 16 1 ++ writes 255 0 ++ event 0 0 0 0 0 ++ writes 3 1

abbrev day-pages : List ℕ
day-pages = page_k locked ++ keyless 0x40 0x00 0x01 0x00

-- nexus 9 shares ENCRYPT; the last nexus writes, it writes, and nexus 10 writes to an old volume
abbrev shared : List ℕ
shared = event 2 9 0x10 0 52 ++ writes 15 1 ++ writes 9 1 ++ writes 10 0

unfoldable pub table : List Priced
table =
    -- "Request 3's example at rate 250 prints 18 lines: "0 0 0 0 0", then "1 0 0 0 0" and so on up to "16 0 0 0 0" .., then "total 0 0 0 0
    -- amount 0""
    claims 250 demount "0 0 0 0 0\n1 0 0 0 0\n2 0 0 0 0\n3 0 0 0 0\n4 0 0 0 0\n5 0 0 0 0\n6 0 0 0 0\n7 0 0 0 0\n8 0 0 0 0\n9 0 0 0 0\n10 0 0 0 0\n11 0 0 0 0\n12 0 0 0 0\n13 0 0 0 0\n14 0 0 0 0\n15 0 0 0 0\n16 0 0 0 0\ntotal 0 0 0 0 amount 0\n"
    -- "a rate from 0 to 1,000,000 pence. A higher rate is refused with 23, after 22, and nothing is printed."
    ∷ claims 0 demount "0 0 0 0 0\n1 0 0 0 0\n2 0 0 0 0\n3 0 0 0 0\n4 0 0 0 0\n5 0 0 0 0\n6 0 0 0 0\n7 0 0 0 0\n8 0 0 0 0\n9 0 0 0 0\n10 0 0 0 0\n11 0 0 0 0\n12 0 0 0 0\n13 0 0 0 0\n14 0 0 0 0\n15 0 0 0 0\n16 0 0 0 0\ntotal 0 0 0 0 amount 0\n"
    ∷ claims 1000000 demount "0 0 0 0 0\n1 0 0 0 0\n2 0 0 0 0\n3 0 0 0 0\n4 0 0 0 0\n5 0 0 0 0\n6 0 0 0 0\n7 0 0 0 0\n8 0 0 0 0\n9 0 0 0 0\n10 0 0 0 0\n11 0 0 0 0\n12 0 0 0 0\n13 0 0 0 0\n14 0 0 0 0\n15 0 0 0 0\n16 0 0 0 0\ntotal 0 0 0 0 amount 0\n"
    ∷ refuses 1000001 demount 23
    ∷ refuses 250 wrong 22
    ∷ refuses 1000001 wrong 22
    ∷ claims 250 (file_of day day-pages) "0 0 1 1 0\n1 0 0 0 0\n2 0 0 0 0\n3 1 0 1 3\n4 0 2 0 0\n5 0 0 0 0\n6 0 0 0 0\n7 0 0 0 0\n8 0 0 0 0\n9 0 0 0 0\n10 0 0 0 0\n11 0 0 0 0\n12 0 0 0 0\n13 0 0 0 0\n14 0 0 0 0\n15 0 0 0 0\n16 0 0 0 2\ntotal 1 3 2 5 amount 250\n"
    ∷ claims 1000000 (file_of shared (modes_page 0x40 2 2)) "0 0 0 0 0\n1 0 0 0 0\n2 0 0 0 0\n3 0 0 0 0\n4 0 0 0 0\n5 0 0 0 0\n6 0 0 0 0\n7 0 0 0 0\n8 0 0 0 0\n9 1 0 0 0\n10 0 0 0 1\n11 0 0 0 0\n12 0 0 0 0\n13 0 0 0 0\n14 0 0 0 0\n15 1 0 0 0\n16 0 0 0 0\ntotal 2 0 0 1 amount 2000000\n"
    -- ten writes and two
    ∷ claims 7 (file_of (joined (λ n. writes n 1) (replicate 12 5)) []) "0 0 0 0 0\n1 0 0 0 0\n2 0 0 0 0\n3 0 0 0 0\n4 0 0 0 0\n5 0 0 12 0\n6 0 0 0 0\n7 0 0 0 0\n8 0 0 0 0\n9 0 0 0 0\n10 0 0 0 0\n11 0 0 0 0\n12 0 0 0 0\n13 0 0 0 0\n14 0 0 0 0\n15 0 0 0 0\n16 0 0 0 0\ntotal 0 0 12 0 amount 0\n"
    ∷ []

pub worked : T (claimed table)
unfolding claimed table joined parts bytes_of digits_within decimal form_of entry_of sound call headed sound_file event_of asked_of writes_from row_for rows_from row_line row_lines total_line claim_lines claim_verdict claim_text claim_printed checks answer effect_by actions_of changed_by carried_out changes flagged act acts releases own_place room page_actions sender_after supplemented taken set_good nexus_good owner_is_local well_formed owned_place selected power_on public_page supplemental_page set_page checked open_rules mode_rules plain_rules key_rules set_rules match_rules end_rules supplemental_rules list_of descriptor_rules listed
worked = tt
