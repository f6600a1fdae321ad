-- What is claimed of every call that has a sender (proofs/Due): when each answer is due. The lines of a table exclude each other, and there
-- is one for every case.
use Rattle.std.specs.Prelude.{ℕ, ◌≤◌, ◌<◌, ◌≡◌, Bool, true, false, length}
use Rattle.arrays.specs.Base.{Exactly}
use Rattle.answer.specs.declared.Answer.{Answer}
use Rattle.answer.specs.declared.Answer.TheVariants.{Done, NotWellFormed, NexusAbove, ChangedByAnotherNexus, ChangedByVendorEvent, ProtocolNotSupported, PageNotSupported, KeyInstanceChanged, ParametersNotUsable}
use Rattle.parameters.specs.Codes.{disable, external, encrypt}
use Rattle.device.specs.Record.{State, nexus_at}
use Rattle.device.specs.Selecting.{selected_set}
use Rattle.device.specs.WellFormed.{well_formed}
use Rattle.drive.specs.declared.Command.{Command}
use Rattle.drive.specs.declared.Decision.{Decision}
use Rattle.drive.specs.declared.Decision.TheVariants.{Clear, External, Encrypted}
use Rattle.drive.specs.Calls.{write}
use Rattle.drive.specs.Checks.{answer}
use Rattle.drive.specs.Outcomes.{decision}

-- ---- whoever sends

-- neither answer 1 nor 2 is due
pub record Admitted (s : State) (n : ℕ) : Type 0 where
  pub formed : well_formed s ≡ true
  pub within : n < length s.nexuses

-- nor 3 and 4: no flag of the nexus is pending
pub record Heard (s : State) (n : ℕ) : Type 0 where
  pub known : Admitted s n
  pub another : (nexus_at s n).marks.another ≡ false
  pub vendor : (nexus_at s n).marks.vendor ≡ false

-- answers 1 to 4
pub record SentDue (s : State) (n : ℕ) (a : Answer) : Type 0 where
  pub unformed : well_formed s ≡ false → a ≡ NotWellFormed
  pub above : well_formed s ≡ true → length s.nexuses ≤ n → a ≡ NexusAbove
  pub another : Admitted s n → (nexus_at s n).marks.another ≡ true → a ≡ ChangedByAnotherNexus
  pub vendor : Admitted s n → (nexus_at s n).marks.another ≡ false → (nexus_at s n).marks.vendor ≡ true → a ≡ ChangedByVendorEvent

-- ---- a security command

-- answers 5 and 6, of one whose page is supported or not
pub record CommandDue (s : State) (command : Command) (supported : Bool) (a : Answer) : Type 0 where
  pub protocol : Heard s command.nexus → (command.protocol ≡ 0x20 → ⊥) → a ≡ ProtocolNotSupported
  pub page : Heard s command.nexus → command.protocol ≡ 0x20 → supported ≡ false → a ≡ PageNotSupported

-- SECURITY PROTOCOL IN has no check after these
pub record InDue (s : State) (command : Command) (supported : Bool) (a : Answer) : Type 0 where
  pub refused : CommandDue s command supported a
  pub done : Heard s command.nexus → command.protocol ≡ 0x20 → supported ≡ true → a ≡ Done

-- ---- a write

-- a locked nexus uses the set that has the number saved at lock
abbrev pub Held : State → ℕ → Type 0
Held s n = (nexus_at s n).lock ≡ true → (nexus_at s n).saved ≡ (selected_set s n).number

-- the mode of the set that the nexus uses
abbrev pub mode_of : State → ℕ → ℕ
mode_of s n = (selected_set s n).fields.encryption

-- answers 11, 12 and 0
pub record WriteDue (s : State) (n : ℕ) (supported : Bool) (a : Answer) : Type 0 where
  pub changed : Heard s n → (nexus_at s n).lock ≡ true → ((nexus_at s n).saved ≡ (selected_set s n).number → ⊥) → a ≡ KeyInstanceChanged
  pub unusable : Heard s n → Held s n → mode_of s n ≡ encrypt → supported ≡ false → a ≡ ParametersNotUsable
  pub done : Heard s n → Held s n → (mode_of s n ≡ encrypt → supported ≡ true) → a ≡ Done

-- ---- what becomes of a block

-- a write that nothing stops, under a set of that mode
pub record Passes (s : State) (n : ℕ) (supported : Bool) (mode : ℕ) : Type 0 where
  pub heard : Heard s n
  pub held : Held s n
  pub under : mode_of s n ≡ mode
  pub usable : mode ≡ encrypt → supported ≡ true

-- what becomes of nexus n's block
abbrev pub becomes : State → ℕ → Bool → Decision
becomes s n supported = decision s n (answer s (write n supported))

-- each of them exactly if the write passes under the mode of its name
pub record Becomes (s : State) (n : ℕ) (supported : Bool) : Type 0 where
  pub as_encrypted : Exactly (becomes s n supported ≡ Encrypted) (Passes s n supported encrypt)
  pub as_external : Exactly (becomes s n supported ≡ External) (Passes s n supported external)
  pub as_clear : Exactly (becomes s n supported ≡ Clear) (Passes s n supported disable)
