-- Two batches, each with page bytes of its own, as one batch (proofs/Joined): the page bytes one after the other, and the pages of the later
-- events as much further on. This is how a sender joins them, and no rule.
use Rattle.std.specs.Prelude.{ℕ, ◌+◌, List, map}
use Rattle.arrays.specs.Base.{when◌then◌else◌}
use Rattle.wire.specs.Parts.{joined}
use Rattle.recording.specs.Forms.{form_of}
use Rattle.recording.specs.Entries.{entries}
use Rattle.recording.specs.Claims.{event}
use Rattle.recording.specs.declared.Entry.{Entry}

-- an event whose page, if it has one, stands k bytes further on
abbrev pub moved_entry : (k : ℕ) → Entry → Entry
moved_entry k e = record {
  kind = e.kind;
  nexus = e.nexus;
  argument = e.argument;
  page_offset = when (form_of e.kind).page then k + e.page_offset else e.page_offset;
  page_length = e.page_length;
}

-- an event's 8 bytes
abbrev pub entry_bytes : Entry → List ℕ
entry_bytes e = event e.kind e.nexus e.argument e.page_offset e.page_length

-- events whose pages stand k bytes further on
abbrev pub moved : (k : ℕ) (events : List ℕ) → List ℕ
moved k events = joined entry_bytes (map (moved_entry k) (entries events))
