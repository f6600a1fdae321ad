-- Document 02, request 1: its table of modes, kinds and keys by computing, and rows through the calls.
use Prim.Native.Nat.{ℕ}
use mathlib.Core.Bool.{true}
use mathlib.Core.List.{List, [], ◌∷◌, ◌++◌}
use lib.Dec.{T}
use Rattle.kad.specs.Reading.{descriptor_rules, listed}
use Rattle.kad.specs.Writing.{descriptors}
use Rattle.parameters.specs.Codes.{disable, raw, decrypt, mixed}
use Rattle.page.specs.Fields.{list_of}
use Rattle.page.specs.Rules.{open_rules, mode_rules, plain_rules, key_rules, set_rules, match_rules, end_rules, supplemental_rules}
use Rattle.page.specs.Check.{public_page, supplemental_page, set_page, checked}
use Rattle.device.specs.Record.{power_on}
use Rattle.device.specs.Selecting.{owned_place, selected}
use Rattle.device.specs.WellFormed.{set_good, nexus_good, owner_is_local, well_formed}
use Rattle.drive.specs.Checks.{checks, answer}
use Rattle.drive.specs.Runs.{run_from}
use Rattle.drive.specs.Restoring.{under_mode}
use Rattle.marks.specs.Marks.{changes, flagged}
use Rattle.marks.specs.Reset.{cleared}
use Rattle.places.specs.Actions.{act, acts, releases, own_place, room, page_actions, sender_after, supplemented, taken}
use Rattle.drive.specs.Calls.{Call, write, read}
use Rattle.drive.specs.Effects.{effect_by}
use Rattle.drive.specs.After.{actions_of, changed_by, carried_out}
use Rattle.drive.specs.Claims.{modes_page, unlocked, keyless, sends, block, since, same_record, Told, told, done, Claim, makes, leaves, decides, reads, holds, every}
use Rattle.drive.proofs.Table.{p2, p5, p7, shared, p8, p9, strange_owner, both_flags}
use Rattle.drive.specs.RestoringClaims.{Kind, kind_row, Holding, holding, agrees}

-- each kind, with a key that the set has and with none: 0 plain, 1 raw, 2 decrypted, or the number of a refusal

-- "Under DISABLE plain passes and others get 15"
abbrev under_disable : List Kind
under_disable = kind_row 0 0 0 ∷ kind_row 1 15 15 ∷ kind_row 2 15 15 ∷ kind_row 3 14 14 ∷ kind_row 255 14 14 ∷ []

-- "RAW passes all, kinds 1 and 2 as raw"
abbrev under_raw : List Kind
under_raw = kind_row 0 0 0 ∷ kind_row 1 1 1 ∷ kind_row 2 1 1 ∷ kind_row 3 14 14 ∷ kind_row 255 14 14 ∷ []

-- "DECRYPT gives 16 for plain .. kind 1 is decrypted if a key opened it, else 17; kind 2 gives 15"
abbrev under_decrypt : List Kind
under_decrypt = kind_row 0 16 16 ∷ kind_row 1 2 17 ∷ kind_row 2 15 15 ∷ kind_row 3 14 14 ∷ kind_row 255 14 14 ∷ []

-- "MIXED passes it"
abbrev under_mixed : List Kind
under_mixed = kind_row 0 0 0 ∷ kind_row 1 2 17 ∷ kind_row 2 15 15 ∷ kind_row 3 14 14 ∷ kind_row 255 14 14 ∷ []

-- sets of an encryption mode, with 0 to 4 supplemental keys: no key is theirs
abbrev without_keys : ℕ → List Holding
without_keys encryption =
    holding encryption 0 0 ∷ holding encryption 1 0 ∷ holding encryption 2 0 ∷ holding encryption 3 0 ∷ holding encryption 4 0 ∷ []

-- the main key is, and each supplemental key
abbrev with_keys : ℕ → List Holding
with_keys encryption =
    holding encryption 0 1 ∷ holding encryption 1 2 ∷ holding encryption 2 3 ∷ holding encryption 3 4 ∷ holding encryption 4 5 ∷ []

-- a set that decrypts nothing holds a main key under ENCRYPT alone
abbrev undecrypting : List Holding
undecrypting = without_keys 0 ++ without_keys 1 ++ with_keys 2

-- one that decrypts always
abbrev decrypting : List Holding
decrypting = with_keys 0 ++ with_keys 1 ++ with_keys 2

pub disable-decided : T (agrees disable undecrypting under_disable)
unfolding agrees answer checks selected owned_place set_good nexus_good owner_is_local well_formed run_from power_on under_mode
disable-decided = tt

pub raw-decided : T (agrees raw undecrypting under_raw)
unfolding agrees answer checks selected owned_place set_good nexus_good owner_is_local well_formed run_from power_on under_mode
raw-decided = tt

pub decrypt-decided : T (agrees decrypt decrypting under_decrypt)
unfolding agrees answer checks selected owned_place set_good nexus_good owner_is_local well_formed run_from power_on under_mode
decrypt-decided = tt

pub mixed-decided : T (agrees mixed decrypting under_mixed)
unfolding agrees answer checks selected owned_place set_good nexus_good owner_is_local well_formed run_from power_on under_mode
mixed-decided = tt

-- ---- rows through the calls

-- nexus 3 sends a LOCAL page with both modes and a key
abbrev keyed3 : ℕ → ℕ → List Call
keyed3 encryption decryption = sends 3 (modes_page unlocked encryption decryption) ∷ []

-- and one without
abbrev keyless3 : ℕ → ℕ → List Call
keyless3 encryption decryption = sends 3 (keyless unlocked 0x00 encryption decryption) ∷ []

abbrev unable : Told
unable = told 15 7 0x74 0x01

-- what each mode gives, kind by kind
abbrev by_mode : List Claim
by_mode =
    reads (since []) 3 (block 0 255) done 0 0  -- DISABLE: the default set
    ∷ reads (since []) 3 (block 1 255) unable 255 0
    ∷ reads (since []) 3 (block 2 255) unable 255 0
    ∷ reads (since (keyless3 1 0)) 3 (block 0 255) done 0 1
    ∷ reads (since (keyless3 1 0)) 3 (block 1 255) unable 255 0
    ∷ reads (since (keyless3 0 1)) 3 (block 0 255) done 0 1  -- RAW
    ∷ reads (since (keyless3 0 1)) 3 (block 1 255) done 1 1
    ∷ reads (since (keyless3 0 1)) 3 (block 2 255) done 1 1
    ∷ reads (since p2) 3 (block 0 255) (told 16 7 0x74 0x02) 255 0  -- DECRYPT
    ∷ reads (since p2) 3 (block 1 0) done 2 1
    ∷ reads (since p2) 3 (block 1 255) (told 17 7 0x74 0x03) 255 0
    ∷ reads (since p2) 3 (block 2 0) unable 255 0
    ∷ reads (since (keyed3 0 3)) 3 (block 0 255) done 0 1  -- MIXED
    ∷ reads (since (keyed3 0 3)) 3 (block 1 0) done 2 1
    ∷ reads (since (keyed3 0 3)) 3 (block 1 255) (told 17 7 0x74 0x03) 255 0
    ∷ reads (since (keyed3 0 3)) 3 (block 2 255) unable 255 0
    ∷ []

-- which keys a set has
abbrev by_key : List Claim
by_key =
    reads (since p2) 3 (block 1 1) (told 14 0 0 0) 255 0  -- before a supplemental page, and after it
    ∷ reads (since p9) 3 (block 1 1) done 2 1
    ∷ reads (since p9) 3 (block 1 2) (told 14 0 0 0) 255 0
    ∷ reads (since p9) 3 (block 1 254) (told 14 0 0 0) 255 0
    ∷ reads (since (keyless3 0 1)) 3 (block 1 0) (told 14 0 0 0) 255 0  -- RAW without ENCRYPT: no main key
    ∷ reads (since (keyed3 2 1)) 3 (block 1 0) done 1 1  -- and with it
    ∷ reads (since (keyed3 2 0)) 3 (block 0 0) done 0 1  -- DISABLE with it
    ∷ reads (since []) 3 (block 0 0) (told 14 0 0 0) 255 0  -- the default set has none
    ∷ reads (since p2) 3 (block 3 0) (told 14 0 0 0) 255 0
    ∷ reads (since p2) 3 (block 255 255) (told 14 0 0 0) 255 0
    ∷ []

-- whose set is used
abbrev by_nexus : List Claim
by_nexus =
    reads (since (shared ∷ [])) 3 (block 1 0) done 2 0
    ∷ reads (since (shared ∷ [])) 6 (block 1 0) done 2 0  -- the ALL nexus itself
    ∷ reads (since (p2 ++ shared ∷ [])) 3 (block 1 0) done 2 1
    ∷ reads (since p5) 4 (block 1 0) done 2 1  -- nexus 0 was evicted: it is told, then reads under the default set
    ∷ reads (since p5) 0 (block 1 0) (told 3 6 0x2A 0x11) 255 0
    ∷ reads (since (p5 ++ read 0 (block 1 0) ∷ [])) 0 (block 1 0) (told 14 0 0 0) 255 0
    ∷ reads (since (p5 ++ read 0 (block 1 0) ∷ [])) 0 (block 1 255) unable 255 0
    ∷ []

-- checks 1 to 4, then 14, then 15 to 17
abbrev in_order : List Claim
in_order =
    leaves strange_owner (read 16 (block 3 0)) (told 1 0 0 0)
    ∷ reads (since p8) 16 (block 3 0) (told 2 0 0 0) 255 0
    ∷ reads (since both_flags) 5 (block 3 0) (told 3 6 0x2A 0x11) 255 0
    ∷ reads (since (both_flags ++ read 5 (block 3 0) ∷ [])) 5 (block 3 0) (told 4 6 0x2A 0x12) 255 0
    ∷ reads (since (both_flags ++ read 5 (block 3 0) ∷ read 5 (block 0 255) ∷ [])) 5 (block 3 0) (told 14 0 0 0) 255 0
    ∷ reads (since p2) 3 (block 0 1) (told 14 0 0 0) 255 0  -- where 16, 15 and 17 were due too
    ∷ reads (since p2) 3 (block 2 1) (told 14 0 0 0) 255 0
    ∷ reads (since []) 3 (block 1 4) (told 14 0 0 0) 255 0
    ∷ []

-- "The lock doesn't stop reads": P7's nexus, locked, is told, its write is stopped, and it reads
abbrev unstopped : List Claim
unstopped =
    reads (since p7) 3 (block 0 255) (told 4 6 0x2A 0x12) 255 0
    ∷ decides (since (p7 ++ read 3 (block 0 255) ∷ [])) 3 true (told 11 7 0x2A 0x13) 255 0 0
    ∷ reads (since (p7 ++ read 3 (block 0 255) ∷ [])) 3 (block 0 255) done 0 0
    ∷ reads (since (p7 ++ read 3 (block 0 255) ∷ [])) 3 (block 1 255) unable 255 0
    ∷ decides (since (p8 ++ write 5 true ∷ [])) 5 true (told 11 7 0x2A 0x13) 255 0 0  -- P8's
    ∷ reads (since (p8 ++ write 5 true ∷ [])) 5 (block 1 0) done 2 0
    ∷ []

-- the record: a pending flag goes, and nothing else; a read registers nobody
abbrev unchanged : List Claim
unchanged =
    leaves (since p2) (read 3 (block 1 0)) done
    ∷ leaves (since p2) (read 16 (block 1 0)) (told 2 0 0 0)
    ∷ leaves (since p2) (read 3 (block 1 1)) (told 14 0 0 0)
    ∷ leaves (since p2) (read 3 (block 2 255)) unable
    ∷ leaves (since p2) (read 3 (block 0 255)) (told 16 7 0x74 0x02)
    ∷ leaves (since p2) (read 3 (block 1 255)) (told 17 7 0x74 0x03)
    ∷ makes (since p8) (read 5 (block 1 0)) (told 3 6 0x2A 0x11) (since (p8 ++ write 5 true ∷ []))
    ∷ makes (since p7) (read 3 (block 0 255)) (told 4 6 0x2A 0x12) (since (p7 ++ write 3 true ∷ []))
    ∷ decides (since (read 5 (block 0 255) ∷ shared ∷ [])) 5 true done 2 0 1
    ∷ []

unfoldable pub restoring : List Claim
restoring = by_mode ++ by_key ++ by_nexus ++ in_order ++ unstopped ++ unchanged

pub restoring-proved : T (every restoring)
unfolding every restoring holds same_record answer checks effect_by actions_of changed_by carried_out changes flagged cleared run_from act acts releases own_place room page_actions sender_after supplemented taken set_good nexus_good owner_is_local well_formed owned_place selected power_on public_page supplemental_page set_page checked open_rules mode_rules plain_rules key_rules set_rules match_rules end_rules supplemental_rules list_of descriptor_rules listed descriptors under_mode
restoring-proved = tt
