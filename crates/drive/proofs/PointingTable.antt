-- Document 02, request 6, through the calls: the byte that an answer 8 carries, whoever sends the page; the record after it is as before, but that
-- the sender is registered.
use Prim.Native.Nat.{ℕ}
use mathlib.Core.List.{List, [], ◌∷◌, ◌++◌}
use lib.Dec.{T}
use lib.ListN.{take, set}
use Rattle.kad.specs.Reading.{descriptor_rules, listed}
use Rattle.page.specs.Fields.{list_of}
use Rattle.page.specs.Rules.{open_rules, mode_rules, plain_rules, key_rules, set_rules, match_rules, end_rules, supplemental_rules}
use Rattle.page.specs.Check.{public_page, supplemental_page, set_page, checked}
use Rattle.device.specs.Record.{power_on}
use Rattle.device.specs.Selecting.{owned_place, selected}
use Rattle.device.specs.WellFormed.{set_good, nexus_good, owner_is_local, well_formed}
use Rattle.marks.specs.Marks.{changes, flagged}
use Rattle.places.specs.Actions.{act, acts, releases, own_place, room, page_actions, sender_after, supplemented, taken}
use Rattle.drive.specs.Calls.{Call, security_out}
use Rattle.drive.specs.Checks.{checks, answer}
use Rattle.drive.specs.Effects.{effect_by}
use Rattle.drive.specs.After.{actions_of, changed_by, carried_out}
use Rattle.drive.specs.Runs.{run_from}
use Rattle.drive.specs.Claims.{page, page_k, locked, unlocked, modes_page, command, sends, since, same_record, told, wrong_at, done, Claim, answers, makes, leaves, holds, every}
use Rattle.drive.proofs.Table.{p2, p8, p9, known}

-- page K with another byte
abbrev other : ℕ → ℕ → List ℕ
other i byte = set (page_k locked) i byte

-- a supplemental page with its byte 4 and its decryption mode, of 52 bytes
abbrev more : ℕ → ℕ → List ℕ
more b4 mode = set (page 0x30 b4 0x08 []) 7 mode

-- from a nexus at power-on, which is registered then: a whole field, a reserved byte, two faults, bytes left over
abbrev fresh : List Claim
fresh =
    makes (since []) (sends 3 (other 1 0x11)) (wrong_at 0) (known 3 (since []))
    ∷ makes (since []) (sends 3 (other 14 1)) (wrong_at 14) (known 3 (since []))
    ∷ makes (since []) (sends 3 (other 19 31)) (wrong_at 18) (known 3 (since []))
    ∷ makes (since []) (sends 3 (set (other 19 31) 17 1)) (wrong_at 17) (known 3 (since []))
    ∷ makes (since []) (sends 3 (set (other 4 0x61) 1 0x11)) (wrong_at 0) (known 3 (since []))
    ∷ makes (since []) (sends 3 (set (modes_page unlocked 0 1) 19 0)) (wrong_at 20) (known 3 (since []))
    ∷ makes (since []) (sends 3 (page 0x37 locked 0x44 (0 ∷ 0 ∷ 0 ∷ 4 ∷ 9 ∷ 9 ∷ 9 ∷ []))) (wrong_at 52) (known 3 (since []))
    ∷ []

-- from nexus 3 after P2, whose set decrypts: what a supplemental page is held against is its own scope and set, and no one else's
abbrev held : List Claim
held =
    leaves (since p2) (sends 3 (more 0x40 2)) (wrong_at 4)
    ∷ leaves (since p2) (sends 3 (more unlocked 3)) (wrong_at 7)
    ∷ leaves (since p2) (sends 3 (set (take 51 (more unlocked 2)) 3 0x2F)) (wrong_at 18)
    ∷ leaves (since p2) (sends 3 (page 0x31 unlocked 0x08 (0 ∷ []))) (wrong_at 52)
    ∷ answers (since p2) (sends 3 (more unlocked 2)) done
    ∷ makes (since p2) (sends 4 (more unlocked 2)) (wrong_at 4) (known 4 (since p2))
    ∷ makes (since p2) (sends 4 (more 0x40 0)) (wrong_at 4) (known 4 (since p2))
    ∷ []

-- checks before 8 carry no byte: a pending flag, another page code in the command, a wrong length, no such nexus; nor does 9
abbrev before : List Claim
before =
    answers (since p8) (sends 5 (other 14 1)) (told 3 6 0x2A 0x11)
    ∷ answers (since []) (security_out (command 3 0x11) (other 14 1)) (told 6 5 0x24 0x00)
    ∷ answers (since []) (sends 3 (take 51 (other 14 1))) (told 7 5 0x1A 0x00)
    ∷ answers (since []) (sends 16 (other 14 1)) (told 2 0 0 0)
    ∷ answers (since (p9 ++ again ++ again ++ again)) (sends 3 (more unlocked 2)) (told 9 5 0x55 0x08)
    ∷ answers (since (p9 ++ again ++ again ++ again)) (sends 3 (set (more unlocked 2) 14 1)) (wrong_at 14)
    ∷ []
  where
    again : List Call
    again = sends 3 (more unlocked 2) ∷ []

unfoldable pub pointing : List Claim
pointing = fresh ++ held ++ before

pub pointing-proved : T (every pointing)
unfolding every pointing holds same_record answer checks effect_by actions_of changed_by carried_out changes flagged run_from act acts releases own_place room page_actions sender_after supplemented taken set_good nexus_good owner_is_local well_formed owned_place selected power_on public_page supplemental_page set_page checked open_rules mode_rules plain_rules key_rules set_rules match_rules end_rules supplemental_rules list_of descriptor_rules listed
pointing-proved = tt
