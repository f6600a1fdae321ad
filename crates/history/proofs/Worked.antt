-- Document 01, P7, P8 and P9, and power-on: what the reading of the history notes, and what demand 3 says of the write.
-- Assumes nothing.
use Rattle.std.specs.Prelude.{ℕ, Option, Some, None}
use Prim.Native.Nat.{ℕ, ◌<◌, ◌^◌}
use mathlib.Core.Bool.{Bool, true, false, ◌&&◌}
use mathlib.Core.List.{List, [], ◌∷◌, ◌++◌}
use mathlib.Core.Path.{◌≡◌, refl, ◌∙◌}
use lib.Dec.{T, eqb, lit<}
use lib.ListN.{replicate}
use Rattle.kad.specs.Reading.{descriptor_rules, listed}
use Rattle.page.specs.Fields.{list_of}
use Rattle.page.specs.Rules.{open_rules, mode_rules, plain_rules, key_rules, set_rules, match_rules, end_rules, supplemental_rules}
use Rattle.page.specs.Check.{public_page, supplemental_page, set_page, checked}
use Rattle.device.specs.Record.{State, power_on, nexus_at}
use Rattle.device.specs.Selecting.{owned_place, selected}
use Rattle.device.specs.WellFormed.{set_good, nexus_good, owner_is_local, well_formed}
use Rattle.marks.specs.Marks.{changes, flagged}
use Rattle.marks.specs.Reset.{cleared}
use Rattle.places.specs.Actions.{act, acts, releases, own_place, room, page_actions, sender_after, supplemented, taken}
use Rattle.places.specs.declared.Event.TheVariants.{Demount}
use Rattle.drive.specs.Calls.{Call, power_up, security_out, write, read, happens}
use Rattle.drive.specs.Restoring.{under_mode}
use Rattle.drive.specs.Checks.{checks, answer}
use Rattle.drive.specs.Effects.{effect_by, effect}
use Rattle.drive.specs.After.{actions_of, changed_by, carried_out}
use Rattle.drive.specs.Runs.{run_from, run}
use Rattle.history.specs.History.{accepts, did, silent, touched, is_heard, is_stopped, drew_from, drew, hits, bare, full, reads, read_from, followed, trail_over, trail}
use Rattle.history.proofs.Demand.{demand3-shown}

-- nexus n sends page K with these bytes 4 and 5
abbrev sends : (n b4 b5 : ℕ) → Call
sends n b4 b5 =
    security_out (record { nexus = n; protocol = 0x20; code = 0x10 }) (0x00 ∷ 0x10 ∷ 0x00 ∷ 0x30 ∷ b4 ∷ b5 ∷ 0x02 ∷ 0x02 ∷ 0x01 ∷ 0x00 ∷ 0x00 ∷ (replicate 7 0x00 ++ (0x00 ∷ 0x20 ∷ replicate 32 0xA7)))

-- it sends K, LOCAL and locked
abbrev locks : ℕ → Call
locks n = sends n 0x21 0x44

-- it reads a block that its main key opened
abbrev restores : ℕ → Call
restores n = read n (record { kind = 1; key = 0 })

abbrev same_found : Option ℕ → Option ℕ → Bool
same_found (Some i) (Some j) = eqb i j
same_found (Some i) None = false
same_found None (Some j) = false
same_found None None = true

-- after these calls the reading for nexus n is that place and that first call
pub record Claim : Type 0 where
  pub calls : List Call
  pub n : ℕ
  pub left : ℕ
  pub first : Option ℕ

abbrev claim : List Call → ℕ → ℕ → Option ℕ → Claim
claim calls n left first = record { calls = calls; n = n; left = left; first = first }

unfoldable pub holds : Claim → Bool
holds c = let t = trail 16 5 c.n c.calls in eqb t.left c.left && same_found t.first c.first

unfoldable pub every : List Claim → Bool
every [] = true
every (c ∷ more) = holds c && every more

unfoldable pub table : List Claim
table =
    claim (locks 3 ∷ happens Demount ∷ write 3 true ∷ []) 3 1 (Some 1)  -- P7: the demount
    ∷ claim (locks 3 ∷ happens Demount ∷ write 3 true ∷ locks 3 ∷ []) 3 1 None  -- until it sends a page again
    ∷ claim (sends 5 0x01 0x44 ∷ write 5 true ∷ sends 6 0x40 0x44 ∷ []) 5 0 (Some 2)  -- P8: the ALL page of nexus 6
    ∷ claim (locks 3 ∷ sends 3 0x20 0x08 ∷ []) 3 1 None  -- P9: a supplemental key
    ∷ claim (locks 3 ∷ happens Demount ∷ happens Demount ∷ []) 3 1 (Some 1)  -- the second releases an empty place
    ∷ claim (locks 3 ∷ restores 3 ∷ happens Demount ∷ restores 3 ∷ restores 3 ∷ []) 3 1 (Some 2)  -- a read touches no set
    ∷ claim (locks 3 ∷ power_up ∷ locks 2 ∷ locks 3 ∷ happens Demount ∷ []) 3 2 (Some 4)  -- power-on starts anew
    ∷ []

-- all of them hold
pub worked : T (every table)
unfolding every table holds bare full reads read_from trail hits followed trail_over under_mode answer checks effect_by actions_of changed_by carried_out changes flagged cleared act acts releases own_place room page_actions sender_after supplemented taken set_good nexus_good owner_is_local well_formed owned_place selected power_on public_page supplemental_page set_page checked open_rules mode_rules plain_rules key_rules set_rules match_rules end_rules supplemental_rules list_of descriptor_rules listed
worked = tt

-- ---- demand 3 at work, both ways

-- a drive of 16 nexuses and 5 places at power-on
abbrev fresh : State
fresh = power_on 16 5

-- what the history without numbers says of a nexus whose latest page came first, and what demand 3 asks besides
record Case (n : ℕ) (page : Call) (later : List Call) (stopped : Bool) : Type 0 where
  known : n < 16
  fits : drew 16 5 (page ∷ later) < 2 ^ 32
  heard : is_heard (run 16 5 (page ∷ later)) n ≡ true
  locked : (nexus_at (run 16 5 (page ∷ later)) n).lock ≡ true
  accepted : accepts n (effect (full (bare fresh)) page) ≡ true
  silence : silent n (read_from (reads (bare fresh) page) later) ≡ true
  found : touched (selected (full (reads (bare fresh) page)) n) (read_from (reads (bare fresh) page) later) ≡ stopped

-- demand 3 then says what the write is answered
decided : (n : ℕ) (page : Call) (later : List Call) (stopped : Bool) → Case n page later stopped → is_stopped (run 16 5 (page ∷ later)) n true ≡ stopped
unfolding read_from
decided n page later stopped c =
    demand3-shown 16 5 (lit< tt) (page ∷ later) c.fits n c.known true c.heard c.locked
    (record {
      before = [];
      page = did (full (bare fresh)) page (full (reads (bare fresh) page));
      later = read_from (reads (bare fresh) page) later;
      parts = refl;
      accepted = c.accepted;
      silence = c.silence;
    })
    ∙ c.found

-- the calls after the page, in P7, P8 and P9, before the write in question
abbrev after_p7 : List Call
after_p7 = happens Demount ∷ write 3 true ∷ []

abbrev after_p8 : List Call
after_p8 = write 5 true ∷ sends 6 0x40 0x44 ∷ write 5 true ∷ []

abbrev after_p9 : List Call
after_p9 = sends 3 0x20 0x08 ∷ write 3 true ∷ []

cases : Case 3 (locks 3) after_p7 true × Case 5 (sends 5 0x01 0x44) after_p8 true × Case 3 (locks 3) after_p9 false
unfolding run_from drew_from silent touched bare full reads read_from hits answer checks effect_by actions_of changed_by carried_out changes flagged cleared act acts releases own_place room page_actions sender_after supplemented taken set_good nexus_good owner_is_local well_formed owned_place selected power_on public_page supplemental_page set_page checked open_rules mode_rules plain_rules key_rules set_rules match_rules end_rules supplemental_rules list_of descriptor_rules listed
cases = (
  record { known = lit< tt; fits = lit< tt; heard = refl; locked = refl; accepted = refl; silence = refl; found = refl },
  record { known = lit< tt; fits = lit< tt; heard = refl; locked = refl; accepted = refl; silence = refl; found = refl },
  record { known = lit< tt; fits = lit< tt; heard = refl; locked = refl; accepted = refl; silence = refl; found = refl },
)

-- P7: the demount released the set, so nexus 3's write is answered 11
pub p7-stopped : is_stopped (run 16 5 (locks 3 ∷ after_p7)) 3 true ≡ true
p7-stopped = decided 3 (locks 3) after_p7 true cases.0

-- P8: nexus 6's ALL page replaced the default set, so nexus 5's is
pub p8-stopped : is_stopped (run 16 5 (sends 5 0x01 0x44 ∷ after_p8)) 5 true ≡ true
p8-stopped = decided 5 (sends 5 0x01 0x44) after_p8 true cases.1

-- P9: a supplemental key is no action, so nexus 3's is not
pub p9-passes : is_stopped (run 16 5 (locks 3 ∷ after_p9)) 3 true ≡ false
p9-passes = decided 3 (locks 3) after_p9 false cases.2
