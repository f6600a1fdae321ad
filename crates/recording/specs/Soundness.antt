-- What is claimed of a file that replay takes (proofs/Exactly): document 02, request 3, in numbers and without a test.
use Rattle.std.specs.Prelude.{ℕ, ◌+◌, ◌*◌, ◌≤◌, ◌≡◌, List, length}
use Rattle.arrays.specs.Base.{when◌then◌else◌}
use Rattle.wire.specs.Parts.{Each}
use Rattle.recording.specs.declared.Entry.{Entry}
use Rattle.recording.specs.Forms.{form_of}
use Rattle.recording.specs.Entries.{entries}
use Rattle.recording.specs.Files.{header, event_bytes, page_bytes}

-- an event: its kind is one of 0 to 11, each field holds what the kind's row allows, and its page ends by the end of the page bytes
pub record SoundEvent (page_count : ℕ) (e : Entry) : Type 0 where
  pub kind : e.kind ≤ 11
  pub nexus : e.nexus ≤ (form_of e.kind).nexus
  pub argument : e.argument ≤ (form_of e.kind).argument
  pub page : e.page_offset + e.page_length ≤ (when (form_of e.kind).page then page_count else 0)

-- a header: the total is the file's length, the first event stands at 8, the page bytes just after the last event and within the file
pub record Headed (file : List ℕ) : Type 0 where
  pub whole : (header file).total ≡ length file
  pub begins : (header file).first_event ≡ 8
  pub counted : (header file).pages_from ≡ 8 + 8 * (header file).event_count
  pub within : (header file).pages_from ≤ length file

-- a file
pub record SoundFile (file : List ℕ) : Type 0 where
  pub headed : Headed file
  pub events : Each (SoundEvent (length (page_bytes file))) (entries (event_bytes file))
