-- Document 02, request 2: CEEM with decryption DISABLE, through the calls.
use Prim.Native.Nat.{ℕ}
use mathlib.Core.Bool.{true}
use mathlib.Core.List.{List, [], ◌∷◌, ◌++◌}
use lib.Dec.{T}
use lib.ListN.{replicate}
use Rattle.kad.specs.Reading.{descriptor_rules, listed}
use Rattle.kad.specs.Writing.{descriptors}
use Rattle.parameters.specs.Codes.{all_scope}
use Rattle.page.specs.Fields.{list_of, set_fields}
use Rattle.page.specs.Rules.{open_rules, mode_rules, plain_rules, key_rules, set_rules, match_rules, end_rules, supplemental_rules}
use Rattle.page.specs.Check.{public_page, supplemental_page, set_page, checked}
use Rattle.device.specs.Record.{State, power_on, established}
use Rattle.device.specs.Selecting.{owned_place, selected}
use Rattle.device.specs.WellFormed.{set_good, nexus_good, owner_is_local, well_formed}
use Rattle.device.specs.Updates.{with_scope, at_place, at_nexus, with_counter}
use Rattle.status.specs.Status.{status_bytes}
use Rattle.marks.specs.Marks.{changes, flagged}
use Rattle.places.specs.Actions.{act, acts, releases, own_place, room, page_actions, sender_after, supplemented, taken}
use Rattle.places.specs.declared.Event.TheVariants.{Demount}
use Rattle.drive.specs.Calls.{write, happens}
use Rattle.drive.specs.Checks.{checks, answer}
use Rattle.drive.specs.Effects.{effect_by}
use Rattle.drive.specs.After.{actions_of, changed_by, carried_out}
use Rattle.drive.specs.Runs.{run_from}
use Rattle.drive.specs.Restoring.{under_mode}
use Rattle.drive.specs.Outcomes.{response_page}
use Rattle.drive.specs.Claims.{page, page_k, locked, unlocked, keyless, command, sends, block, since, same_record, Told, told, wrong_at, done, Claim, answers, makes, leaves, gives, decides, reads, stands, holds, every}
use Rattle.drive.proofs.Table.{lent, p2, known}

-- EXTERNAL and decryption DISABLE, without a key; with its bytes 4 and 5
abbrev disabled : ℕ → ℕ → List ℕ
disabled b4 b5 = keyless b4 b5 0x01 0x00

-- "request 2's CEEM to 5"
abbrev field_wrong : Told
field_wrong = wrong_at 5

-- "A certification lab sent CEEM 10b with decryption DISABLE": "for LOCAL and ALL with SDK 0 that is answer 8"; the sender is registered, and nothing else changes
abbrev refused : List Claim
refused =
    makes (since []) (sends 5 (keyless 0x40 0x80 0x00 0x00)) field_wrong (known 5 (since []))
    ∷ makes (since []) (sends 5 (disabled 0x41 0xC0)) field_wrong (known 5 (since []))
    ∷ makes (since []) (sends 5 (disabled unlocked 0x80)) field_wrong (known 5 (since []))
    ∷ leaves (since p2) (sends 3 (disabled locked 0xC0)) field_wrong  -- its set, lock and number stay
    ∷ []

-- other pairs, SDK 1 and PUBLIC
abbrev accepted : List Claim
accepted =
    answers (since []) (sends 5 (disabled 0x40 0x00)) done
    ∷ answers (since []) (sends 5 (disabled 0x40 0x40)) done
    ∷ answers (since []) (sends 5 (keyless 0x40 0x80 0x01 0x01)) done  -- RAW
    ∷ answers (since []) (sends 5 (keyless 0x40 0xC0 0x00 0x01)) done
    ∷ answers (since []) (sends 5 (page 0x30 0x40 0x80 [])) done  -- DECRYPT
    ∷ answers (since []) (sends 5 (page 0x30 0x40 0xC0 [])) done
    ∷ answers (since p2) (sends 3 (page 0x30 unlocked 0x88 [])) done  -- SDK 1
    ∷ answers (since p2) (sends 3 (page 0x30 unlocked 0xC8 [])) done
    ∷ answers (since []) (sends 5 (disabled 0x00 0x80)) done  -- PUBLIC
    ∷ []

-- a set that such a page made before, CEEM 10b and CKOD, which nexus 6 shares
abbrev older : State
older = with_counter 1 (at_place 0 (λ set. established 6 all_scope 1 (set_fields (disabled 0x40 0x84))) (at_nexus 6 (with_scope all_scope) (since [])))

-- it is served as it was; the page is refused if it is sent again
abbrev served : List Claim
served =
    leaves older (write 3 true) done
    ∷ decides older 3 true done 1 0 1
    ∷ reads older 3 (block 0 255) done 0 0
    ∷ reads older 3 (block 1 255) (told 15 7 0x74 0x01) 255 0
    ∷ gives older (command 6 0x20) (lent 24) done 24 (0x00 ∷ 0x20 ∷ 0x00 ∷ 0x14 ∷ 0x42 ∷ 0x01 ∷ 0x00 ∷ 0x01 ∷ 0x00 ∷ 0x00 ∷ 0x00 ∷ 0x01 ∷ 0x04 ∷ replicate 11 0x00)
    ∷ makes older (sends 6 (disabled 0x40 0x84)) field_wrong (known 6 older)
    ∷ stands (run_from older (happens Demount ∷ [])) 0 0 0 2
    ∷ stands (run_from older (sends 6 (page_k 0x40) ∷ [])) 0 2 6 2
    ∷ []

unfoldable pub ceem : List Claim
ceem = refused ++ accepted ++ served

pub ceem-proved : T (every ceem)
unfolding every ceem holds same_record answer checks effect_by actions_of changed_by carried_out changes flagged run_from response_page act acts releases own_place room page_actions sender_after supplemented taken status_bytes set_good nexus_good owner_is_local well_formed owned_place selected power_on public_page supplemental_page set_page checked open_rules mode_rules plain_rules key_rules set_rules match_rules end_rules supplemental_rules list_of descriptor_rules listed descriptors under_mode
ceem-proved = tt
