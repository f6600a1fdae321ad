-- Document 01, "Proved examples": P1 to P10 of the definitions, through the calls, as one table under one statement; then further rows.
use Prim.Native.Nat.{ℕ}
use mathlib.Core.Bool.{true, false}
use mathlib.Core.List.{List, [], ◌∷◌, ◌++◌}
use lib.Dec.{T}
use lib.ListN.{take, replicate}
use Rattle.kad.specs.Reading.{descriptor_rules, listed}
use Rattle.kad.specs.Writing.{descriptors}
use Rattle.parameters.specs.Fields.{no_fields}
use Rattle.page.specs.Fields.{list_of}
use Rattle.page.specs.Rules.{open_rules, mode_rules, plain_rules, key_rules, set_rules, match_rules, end_rules, supplemental_rules}
use Rattle.page.specs.Check.{public_page, supplemental_page, set_page, checked}
use Rattle.device.specs.Record.{State, power_on, established}
use Rattle.device.specs.Selecting.{owned_place, selected}
use Rattle.device.specs.WellFormed.{set_good, nexus_good, owner_is_local, well_formed}
use Rattle.device.specs.Updates.{with_marks, with_scope, numbered, at_place, at_nexus, with_counter}
use Rattle.status.specs.Status.{status_bytes}
use Rattle.marks.specs.Marks.{changes, flagged}
use Rattle.marks.specs.Reset.{cleared}
use Rattle.places.specs.Actions.{act, acts, releases, own_place, room, page_actions, sender_after, supplemented, taken}
use Rattle.places.specs.declared.Event.TheVariants.{Demount, NexusLoss, DeviceLoss, Preempt, Microcode, VendorRelease}
use Rattle.drive.specs.declared.Command.{Command}
use Rattle.drive.specs.Calls.{Call, power_up, security_in, security_out, write, unit_reset, happens}
use Rattle.drive.specs.Checks.{checks, answer}
use Rattle.drive.specs.Effects.{effect_by}
use Rattle.drive.specs.After.{actions_of, changed_by, carried_out}
use Rattle.drive.specs.Runs.{run_from}
use Rattle.drive.specs.Outcomes.{response_page}
use Rattle.drive.specs.Claims.{page, page_k, locked, unlocked, with_u_kad, keyless, command, sends, since, same_record, told, wrong_at, done, Claim, answers, makes, leaves, gives, decides, selects, stands, marked, counts, holds, every}

-- what a lent buffer holds before: bytes that no page has
abbrev pub lent : ℕ → List ℕ
lent n = replicate n 0xEE

-- nexus 3 sends K
abbrev pub p2 : List Call
p2 = sends 3 (page_k locked) ∷ []

abbrev pub p5 : List Call
p5 = sends 0 (page_k unlocked) ∷ sends 1 (page_k unlocked) ∷ sends 2 (page_k unlocked) ∷ sends 3 (page_k unlocked) ∷ sends 4 (page_k unlocked) ∷ []

abbrev p6 : List Call
p6 = sends 0 (page_k locked) ∷ sends 1 (page_k locked) ∷ sends 2 (page_k locked) ∷ sends 3 (page_k locked) ∷ []

abbrev pub p7 : List Call
p7 = p2 ++ happens Demount ∷ []

-- nexus 6 sends ALL
abbrev pub shared : Call
shared = sends 6 (page_k 0x40)

-- nexus 5 locks PUBLIC before
abbrev pub p8 : List Call
p8 = sends 5 (page_k 0x01) ∷ shared ∷ []

-- a supplemental key: SDK 1; with its byte 4
abbrev supplemental : ℕ → List ℕ
supplemental b4 = page 0x30 b4 0x08 []

-- nexus 3 sends one
abbrev another : Call
another = sends 3 (supplemental unlocked)

abbrev pub p9 : List Call
p9 = p2 ++ another ∷ []

-- the status page after P2
abbrev status2 : List ℕ
status2 = 0x00 ∷ 0x20 ∷ 0x00 ∷ 0x14 ∷ 0x21 ∷ 0x02 ∷ 0x02 ∷ 0x01 ∷ 0x00 ∷ 0x00 ∷ 0x00 ∷ 0x01 ∷ 0x02 ∷ replicate 11 0x00

-- P1 to P10, in document 01's order
unfoldable pub table : List Claim
table =
    gives (since []) (command 0 0x20) (lent 24) done 24 (0x00 ∷ 0x20 ∷ 0x00 ∷ 0x14 ∷ replicate 20 0x00)  -- P1
    ∷ answers (since []) (sends 3 (page_k locked)) done  -- P2
    ∷ selects (since p2) 3 1 1
    ∷ gives (since p2) (command 3 0x20) (lent 24) done 24 status2
    ∷ answers (since []) (sends 3 (take 51 (page_k locked))) (told 7 5 0x1A 0x00)  -- P3
    ∷ answers (since []) (sends 3 (page_k 0x61)) (wrong_at 4)
    ∷ decides (since p2) 3 true done 2 1 1  -- P4
    ∷ decides (since p2) 3 false (told 12 7 0x74 0x07) 255 0 0
    ∷ selects (since p5) 4 1 6  -- P5
    ∷ marked (since p5) 0 0 true true false
    ∷ answers (since p6) (sends 4 (page_k locked)) (told 10 5 0x55 0x03)  -- P6
    ∷ counts (since p7) 2  -- P7
    ∷ stands (since p7) 1 0 0 2
    ∷ decides (since p7) 3 true (told 4 6 0x2A 0x12) 255 0 0
    ∷ decides (since (p7 ++ write 3 true ∷ [])) 3 true (told 11 7 0x2A 0x13) 255 0 0
    ∷ decides (since p8) 5 true (told 3 6 0x2A 0x11) 255 0 0  -- P8
    ∷ decides (since (p8 ++ write 5 true ∷ [])) 5 true (told 11 7 0x2A 0x13) 255 0 0
    ∷ answers (since p2) another done  -- P9
    ∷ decides (since p9) 3 true done 2 1 1
    ∷ answers (since (p9 ++ another ∷ another ∷ another ∷ [])) another (told 9 5 0x55 0x08)
    ∷ answers (since []) (sends 3 (with_u_kad 32)) done  -- P10
    ∷ answers (since []) (sends 3 (with_u_kad 33)) (wrong_at 54)
    ∷ answers (since []) (sends 3 (with_u_kad 0)) (wrong_at 54)
    ∷ []

pub proved : T (every table)
unfolding every table holds same_record answer checks effect_by actions_of changed_by carried_out changes flagged cleared run_from response_page act acts releases own_place room page_actions sender_after supplemented taken status_bytes set_good nexus_good owner_is_local well_formed owned_place selected power_on public_page supplemental_page set_page checked open_rules mode_rules plain_rules key_rules set_rules match_rules end_rules supplemental_rules list_of descriptor_rules listed descriptors
proved = tt

-- ---- further rules that P1 to P10 don't show

-- a security command of another protocol
abbrev foreign : ℕ → ℕ → Command
foreign n code = record { nexus = n; protocol = 0x21; code = code }

-- power-on's record but for one byte: the owner of an empty place, the scope of a nexus, and the number of an empty place, which may be any
abbrev pub strange_owner : State
strange_owner = at_place 1 (λ set. established 1 0 0 no_fields) (since [])

abbrev strange_scope : State
strange_scope = at_nexus 7 (with_scope 3) (since [])

abbrev other_number : State
other_number = at_place 1 (numbered 9) (since [])

-- power-on's record with the counter before its wrap
abbrev last_number : State
last_number = with_counter 4294967295 (since [])

-- a record with nexus n registered and not told of anything
abbrev pub known : ℕ → State → State
known n = at_nexus n (with_marks (record { registered = true; another = false; vendor = false }))

-- nexus 5 sends PUBLIC; nexus 6 sends ALL with CKOD, and the volume is demounted: both flags are pending for nexus 5
abbrev pub both_flags : List Call
both_flags = sends 5 (page_k 0x00) ∷ shared ∷ happens Demount ∷ []

-- nexus 5 has four supplemental keys in an ALL set; a reset, after which it is not registered
abbrev four_keys : List Call
four_keys = sends 5 (page_k 0x40) ∷ replicate 4 (sends 5 (supplemental 0x40)) ++ unit_reset ∷ []

-- nexus 3 sends K with CKORP
abbrev preemptible : List Call
preemptible = sends 3 (page 0x30 locked 0x46 []) ∷ []

-- nexuses 6, 3 and 2 send ALL, LOCAL and LOCAL with CKORL
abbrev losable : List Call
losable = sends 6 (page 0x30 0x40 0x41 []) ∷ sends 3 (page 0x30 unlocked 0x41 []) ∷ sends 2 (page 0x30 unlocked 0x41 []) ∷ []

-- response pages, and how much of one a buffer gets
abbrev pages : List Claim
pages =
    gives (since []) (command 0 0x00) (lent 12) done 12 (0x00 ∷ 0x00 ∷ 0x00 ∷ 0x08 ∷ 0x00 ∷ 0x00 ∷ 0x00 ∷ 0x01 ∷ 0x00 ∷ 0x12 ∷ 0x00 ∷ 0x20 ∷ [])
    ∷ gives (since []) (command 0 0x01) (lent 6) done 6 (0x00 ∷ 0x01 ∷ 0x00 ∷ 0x02 ∷ 0x00 ∷ 0x10 ∷ [])
    ∷ gives (since []) (command 0 0x12) (lent 16) done 16 (0x00 ∷ 0x12 ∷ 0x00 ∷ 0x0C ∷ 0x01 ∷ 0x07 ∷ 0x00 ∷ 0x07 ∷ replicate 8 0x00)
    ∷ gives (since p2) (command 3 0x20) (lent 10) done 24 (0x00 ∷ 0x20 ∷ 0x00 ∷ 0x14 ∷ 0x21 ∷ 0x02 ∷ 0x02 ∷ 0x01 ∷ 0x00 ∷ 0x00 ∷ [])
    ∷ gives (since p2) (command 3 0x20) [] done 24 []
    ∷ gives (since p2) (command 3 0x20) (lent 30) done 24 (status2 ++ lent 6)
    ∷ gives (since p2) (command 4 0x20) (lent 24) done 24 (0x00 ∷ 0x20 ∷ 0x00 ∷ 0x14 ∷ replicate 20 0x00)
    ∷ gives (since (sends 3 (with_u_kad 2) ∷ [])) (command 3 0x20) (lent 32) done 30
    (0x00 ∷ 0x20 ∷ 0x00 ∷ 0x1A ∷ 0x21 ∷ 0x02 ∷ 0x02 ∷ 0x01 ∷ 0x00 ∷ 0x00 ∷ 0x00 ∷ 0x01 ∷ 0x02 ∷ (replicate 11 0x00 ++ (0x00 ∷ 0x00 ∷ 0x00 ∷ 0x02 ∷ 0x09 ∷ 0x09 ∷ lent 2)))
    ∷ gives strange_owner (command 3 0x20) (lent 24) (told 1 0 0 0) 0 (lent 24)  -- refused: the buffer stays
    ∷ gives (since []) (command 16 0x20) (lent 24) (told 2 0 0 0) 0 (lent 24)
    ∷ gives (since p8) (command 5 0x20) (lent 24) (told 3 6 0x2A 0x11) 0 (lent 24)
    ∷ gives (since p7) (command 3 0x20) (lent 24) (told 4 6 0x2A 0x12) 0 (lent 24)
    ∷ gives (since []) (foreign 3 0x20) (lent 24) (told 5 5 0x24 0x00) 0 (lent 24)
    ∷ gives (since []) (command 3 0x30) (lent 24) (told 6 5 0x24 0x00) 0 (lent 24)
    ∷ []

-- clear, external and encrypted, with place and index; and none of them
abbrev decisions : List Claim
decisions =
    decides (since []) 3 true done 0 0 0
    ∷ decides (since (sends 3 (keyless unlocked 0x00 0x00 0x01) ∷ [])) 3 true done 0 1 1
    ∷ decides (since (sends 3 (keyless unlocked 0x00 0x01 0x00) ∷ [])) 3 true done 1 1 1
    ∷ decides (since (sends 3 (keyless unlocked 0x00 0x01 0x00) ∷ [])) 3 false done 1 1 1
    ∷ decides (since (sends 6 (keyless 0x40 0x00 0x01 0x00) ∷ [])) 3 true done 1 0 1
    ∷ decides (since (shared ∷ [])) 3 true done 2 0 1
    ∷ decides strange_owner 3 true (told 1 0 0 0) 255 0 0
    ∷ decides (since []) 16 true (told 2 0 0 0) 255 0 0
    ∷ decides (since (p2 ++ sends 3 (page_k locked) ∷ [])) 3 true done 2 1 1
    ∷ []

-- "A nexus is registered once check 5 has passed, whatever follows": nexus 5 gets each refusal, then nexus 6 sends ALL
abbrev registering : List Claim
registering =
    makes (since []) (security_in (command 5 0x30)) (told 6 5 0x24 0x00) (known 5 (since []))
    ∷ decides (since (security_in (command 5 0x30) ∷ shared ∷ [])) 5 true (told 3 6 0x2A 0x11) 255 0 0
    ∷ makes (since []) (security_out (command 5 0x11) (page_k locked)) (told 6 5 0x24 0x00) (known 5 (since []))
    ∷ decides (since (security_out (command 5 0x11) (page_k locked) ∷ shared ∷ [])) 5 true (told 3 6 0x2A 0x11) 255 0 0
    ∷ makes (since []) (sends 5 (take 51 (page_k locked))) (told 7 5 0x1A 0x00) (known 5 (since []))
    ∷ decides (since (sends 5 (take 51 (page_k locked)) ∷ shared ∷ [])) 5 true (told 3 6 0x2A 0x11) 255 0 0
    ∷ makes (since []) (sends 5 (page_k 0x61)) (wrong_at 4) (known 5 (since []))
    ∷ decides (since (sends 5 (page_k 0x61) ∷ shared ∷ [])) 5 true (told 3 6 0x2A 0x11) 255 0 0
    ∷ makes (since four_keys) (sends 5 (supplemental 0x40)) (told 9 5 0x55 0x08) (known 5 (since four_keys))
    ∷ decides (since (four_keys ++ sends 5 (supplemental 0x40) ∷ shared ∷ [])) 5 true (told 3 6 0x2A 0x11) 255 0 0
    ∷ makes (since p6) (sends 5 (page_k locked)) (told 10 5 0x55 0x03) (known 5 (since p6))
    ∷ decides (since (p6 ++ sends 5 (page_k locked) ∷ shared ∷ [])) 5 true (told 3 6 0x2A 0x11) 255 0 0
    ∷ makes (since []) (security_in (command 5 0x20)) done (known 5 (since []))  -- done registers too
    ∷ decides (since (security_in (command 5 0x20) ∷ shared ∷ [])) 5 true (told 3 6 0x2A 0x11) 255 0 0
    ∷ decides (since (security_in (foreign 5 0x20) ∷ shared ∷ [])) 5 true done 2 0 1  -- answer 5 does not, nor a write, nor a page before a reset
    ∷ decides (since (security_out (foreign 5 0x10) (page_k locked) ∷ shared ∷ [])) 5 true done 2 0 1
    ∷ decides (since (write 5 true ∷ shared ∷ [])) 5 true done 2 0 1
    ∷ decides (since (sends 5 (page_k 0x00) ∷ unit_reset ∷ shared ∷ [])) 5 true done 2 0 1
    ∷ []

-- flags: "another nexus" first, and each told once
abbrev flags : List Claim
flags =
    marked (since both_flags) 5 0 true true true
    ∷ decides (since both_flags) 5 true (told 3 6 0x2A 0x11) 255 0 0
    ∷ marked (since (both_flags ++ write 5 true ∷ [])) 5 0 true false true
    ∷ decides (since (both_flags ++ write 5 true ∷ [])) 5 true (told 4 6 0x2A 0x12) 255 0 0
    ∷ marked (since (both_flags ++ write 5 true ∷ write 5 true ∷ [])) 5 0 true false false
    ∷ decides (since (both_flags ++ write 5 true ∷ write 5 true ∷ [])) 5 true done 0 0 0
    ∷ answers (since p8) (security_in (foreign 5 0x20)) (told 3 6 0x2A 0x11)
    ∷ marked (since p8) 6 2 true false false  -- the sender isn't told
    ∷ marked (since p8) 7 0 false false false  -- nor one not registered
    ∷ marked (since (p2 ++ shared ∷ [])) 3 1 true false false  -- nor one whose set is another
    ∷ []

-- events
abbrev events : List Claim
events =
    decides (since (preemptible ++ happens (Preempt 6) ∷ [])) 3 true (told 3 6 0x2A 0x11) 255 0 0
    ∷ marked (since (preemptible ++ happens (Preempt 3) ∷ [])) 3 0 true false false
    ∷ leaves (since p2) (happens (Preempt 6)) done
    ∷ decides (since (preemptible ++ happens (VendorRelease 1) ∷ [])) 3 true (told 4 6 0x2A 0x12) 255 0 0
    ∷ leaves (since preemptible) (happens (VendorRelease 2)) done
    ∷ leaves (since losable) (happens Demount) done
    ∷ stands (since (losable ++ happens (NexusLoss 3) ∷ [])) 1 0 0 4
    ∷ stands (since (losable ++ happens (NexusLoss 3) ∷ [])) 2 1 2 3
    ∷ stands (since (losable ++ happens (NexusLoss 6) ∷ [])) 0 2 6 1
    ∷ marked (since (losable ++ happens (NexusLoss 3) ∷ [])) 3 0 true false true
    ∷ stands (since (losable ++ happens DeviceLoss ∷ [])) 0 0 0 4
    ∷ stands (since (losable ++ happens DeviceLoss ∷ [])) 1 1 3 2
    ∷ marked (since (losable ++ happens DeviceLoss ∷ [])) 6 0 true false true
    ∷ leaves (since p8) (happens DeviceLoss) done
    ∷ stands (since (losable ++ happens Microcode ∷ [])) 0 0 0 4
    ∷ stands (since (losable ++ happens Microcode ∷ [])) 1 0 0 5
    ∷ stands (since (losable ++ happens Microcode ∷ [])) 2 0 0 6
    ∷ counts (since (losable ++ happens Microcode ∷ [])) 6
    ∷ makes (since p8) power_up done (since [])
    ∷ []

-- answers 1, 2, 5, 11, 12 and 13 leave the record as it was
abbrev untouched : List Claim
untouched =
    leaves strange_owner (security_in (command 3 0x20)) (told 1 0 0 0)
    ∷ leaves strange_owner (sends 3 (page_k locked)) (told 1 0 0 0)
    ∷ leaves strange_owner (write 3 true) (told 1 0 0 0)
    ∷ leaves strange_owner unit_reset (told 1 0 0 0)
    ∷ leaves strange_owner (happens Demount) (told 1 0 0 0)
    ∷ leaves strange_owner (happens (NexusLoss 3)) (told 1 0 0 0)
    ∷ leaves strange_owner (happens DeviceLoss) (told 1 0 0 0)
    ∷ leaves strange_owner (happens (Preempt 3)) (told 1 0 0 0)
    ∷ leaves strange_owner (happens Microcode) (told 1 0 0 0)
    ∷ leaves strange_owner (happens (VendorRelease 1)) (told 1 0 0 0)
    ∷ leaves strange_scope (security_in (command 16 0x30)) (told 1 0 0 0)
    ∷ leaves strange_scope (write 3 true) (told 1 0 0 0)
    ∷ makes strange_scope power_up done (since [])  -- power-on takes no record
    ∷ leaves other_number (write 3 true) done
    ∷ leaves (since p2) (security_in (foreign 16 0x20)) (told 2 0 0 0)
    ∷ leaves (since p2) (sends 16 (page_k locked)) (told 2 0 0 0)
    ∷ leaves (since p2) (write 16 true) (told 2 0 0 0)
    ∷ leaves (since p2) (happens (NexusLoss 16)) (told 2 0 0 0)
    ∷ leaves (since p2) (happens (Preempt 16)) (told 2 0 0 0)
    ∷ leaves (since p2) (security_in (foreign 5 0x30)) (told 5 5 0x24 0x00)
    ∷ leaves (since p2) (security_out (foreign 5 0x11) (page_k 0x61)) (told 5 5 0x24 0x00)
    ∷ leaves (since (p7 ++ write 3 true ∷ [])) (write 3 true) (told 11 7 0x2A 0x13)
    ∷ leaves (since p2) (write 3 false) (told 12 7 0x74 0x07)
    ∷ leaves (since p2) (happens (VendorRelease 5)) (told 13 0 0 0)
    ∷ leaves (since p2) (write 3 true) done
    ∷ []

-- sets established and released, the wrap, and a PUBLIC page whose other fields are not read
abbrev taking : List Claim
taking =
    stands (since (p2 ++ sends 3 (page_k 0x40) ∷ [])) 1 0 0 2
    ∷ stands (since (p2 ++ sends 3 (page_k 0x40) ∷ [])) 0 2 3 3
    ∷ stands (since (p2 ++ sends 3 (page_k 0x00) ∷ [])) 1 0 0 2
    ∷ selects (since (p2 ++ sends 3 (page_k 0x00) ∷ [])) 3 0 0
    ∷ stands (since (sends 3 (page_k 0x40) ∷ sends 3 (page_k locked) ∷ [])) 0 2 3 1
    ∷ stands (since (sends 3 (page_k 0x40) ∷ sends 3 (page_k locked) ∷ [])) 1 1 3 2
    ∷ marked (since (sends 3 (page_k 0x40) ∷ shared ∷ [])) 3 0 true true false
    ∷ selects (run_from last_number p2) 3 1 0
    ∷ answers (since []) (sends 3 (keyless 0x1E 0xFF 0x09 0x09)) done
    ∷ []

unfoldable pub further : List Claim
further = pages ++ decisions ++ registering ++ flags ++ events ++ untouched ++ taking

pub further-proved : T (every further)
unfolding every further holds same_record answer checks effect_by actions_of changed_by carried_out changes flagged cleared run_from response_page act acts releases own_place room page_actions sender_after supplemented taken status_bytes set_good nexus_good owner_is_local well_formed owned_place selected power_on public_page supplemental_page set_page checked open_rules mode_rules plain_rules key_rules set_rules match_rules end_rules supplemental_rules list_of descriptor_rules listed descriptors
further-proved = tt
