-- The call that each kind of event records, over every byte: "kind, nexus, argument (16 bits), page offset from the page bytes, page length".
-- Assumes nothing.
use Prim.Native.Nat.{ℕ}
use mathlib.Core.Path.{◌≡◌, refl}
use mathlib.Core.List.{List, [], ◌∷◌, map}
use lib.Dec.{eqb}
use lib.ListN.{take, drop}
use Rattle.wire.specs.Numbers.{word}
use Rattle.places.specs.declared.Event.TheVariants.{Demount, NexusLoss, DeviceLoss, Preempt, Microcode, VendorRelease}
use Rattle.drive.specs.Restoring.{block_of}
use Rattle.drive.specs.declared.Command.{Command}
use Rattle.drive.specs.Claims as claims
use Rattle.drive.specs.Calls.{Call, power_up, security_in, security_out, write, read, unit_reset, happens}
use Rattle.calls.specs.Asking.{event_of, asked_of}
use Rattle.recording.specs.Entries.{entry_of, call}
use Rattle.recording.specs.Verdicts.{verdict_number}
use Rattle.recording.specs.declared.Verdict.TheVariants.{Done, BatchNotTaken, EventsAbove, NotSalvageable, RecordingWrong, RateAbove}

-- an event's bytes after its kind, the bytes that follow it, and the page bytes
module _ (n a₁ a₀ o₁ o₀ l₁ l₀ : ℕ) (rest pages : List ℕ) where
  abbrev argument : ℕ
  argument = word a₁ a₀

  -- "IN and OUT events use protocol 20h"
  abbrev command : Command
  command = claims.command n argument

  abbrev page : List ℕ
  page = take (word l₁ l₀) (drop (word o₁ o₀) pages)

  -- an event of that kind, with any bytes, records the call
  abbrev Records : ℕ → Call → Type 0
  Records kind recorded = call pages (entry_of (kind ∷ n ∷ a₁ ∷ a₀ ∷ o₁ ∷ o₀ ∷ l₁ ∷ l₀ ∷ rest)) ≡ recorded

  -- 0 power-on
  pub event-0 : Records 0 (power_up)
  unfolding entry_of call asked_of
  event-0 = refl

  -- 1 SECURITY PROTOCOL IN
  pub event-1 : Records 1 (security_in command)
  unfolding entry_of call asked_of
  event-1 = refl

  -- 2 OUT
  pub event-2 : Records 2 (security_out command page)
  unfolding entry_of call asked_of
  event-2 = refl

  -- 3 write
  pub event-3 : Records 3 (write n (eqb argument 1))
  unfolding entry_of call asked_of
  event-3 = refl

  -- 4 logical unit reset
  pub event-4 : Records 4 (unit_reset)
  unfolding entry_of call asked_of
  event-4 = refl

  -- 5 demount
  pub event-5 : Records 5 (happens Demount)
  unfolding entry_of call asked_of event_of
  event-5 = refl

  -- 6 nexus reservation loss
  pub event-6 : Records 6 (happens (NexusLoss n))
  unfolding entry_of call asked_of event_of
  event-6 = refl

  -- 7 device reservation loss
  pub event-7 : Records 7 (happens DeviceLoss)
  unfolding entry_of call asked_of event_of
  event-7 = refl

  -- 8 preempt
  pub event-8 : Records 8 (happens (Preempt n))
  unfolding entry_of call asked_of event_of
  event-8 = refl

  -- 9 microcode
  pub event-9 : Records 9 (happens Microcode)
  unfolding entry_of call asked_of event_of
  event-9 = refl

  -- 10 vendor release
  pub event-10 : Records 10 (happens (VendorRelease argument))
  unfolding entry_of call asked_of event_of
  event-10 = refl

  -- 11 read
  pub event-11 : Records 11 (read n (block_of argument))
  unfolding entry_of call asked_of
  event-11 = refl

-- document 02's numbers of a session as a whole
pub verdicts-as-printed : map verdict_number (Done ∷ BatchNotTaken ∷ EventsAbove ∷ NotSalvageable ∷ RecordingWrong ∷ RateAbove ∷ []) ≡ 0 ∷ 18 ∷ 19 ∷ 21 ∷ 22 ∷ 23 ∷ []
verdicts-as-printed = refl
