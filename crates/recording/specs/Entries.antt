-- Document 02, request 3: "Each event has 8 bytes: kind, nexus, argument (16 bits), page offset from the page bytes, page length."
use Rattle.std.specs.Prelude.{ℕ, suc, ◌+◌, ◌/◌, Bool, ◌&&◌, List, [], ◌∷◌, map, leb, length, take, drop}
use Rattle.arrays.specs.Base.{when◌then◌else◌}
use Rattle.arrays.specs.Arrays.{all}
use Rattle.wire.specs.Numbers.{byte_at, word_at}
use Rattle.wire.specs.Parts.{parts}
use Rattle.drive.specs.Calls.{Call}
use Rattle.calls.specs.Kinds.{is_call}
use Rattle.calls.specs.Asking.{asked_of, call_of}
use Rattle.calls.specs.declared.Asked.{Asked}
use Rattle.recording.specs.declared.Entry.{Entry}
use Rattle.recording.specs.Forms.{form_of}

abbrev pub entry_size : ℕ
entry_size = 8

-- the event that a run of bytes begins with
unfoldable pub entry_of : List ℕ → Entry
entry_of bytes = record {
  kind = byte_at bytes 0;
  nexus = byte_at bytes 1;
  argument = word_at bytes 2;
  page_offset = word_at bytes 4;
  page_length = word_at bytes 6;
}

-- the whole events of a run of bytes
abbrev pub entries : List ℕ → List Entry
entries bytes = parts entry_of entry_size (length bytes / entry_size) bytes

-- where there are that many page bytes: no "wrong field (.. kind, support flag, unused field not zero)", and no "page with offset plus
-- length past the page bytes"; an event without a page has offset and length 0
unfoldable pub sound : (page_count : ℕ) → Entry → Bool
sound page_count e =
    let form = form_of e.kind in
    is_call e.kind && leb e.nexus form.nexus && leb e.argument form.argument
    && leb (e.page_offset + e.page_length) (when form.page then page_count else 0)

abbrev pub all_sound : (page_count : ℕ) → List Entry → Bool
all_sound page_count = all (sound page_count)

-- how many are sound, up to one that isn't
unfoldable pub sound_run : (page_count : ℕ) → List Entry → ℕ
sound_run page_count [] = 0
sound_run page_count (e ∷ more) = when sound page_count e then suc (sound_run page_count more) else 0

-- "IN and OUT events use protocol 20h"
abbrev pub event_asked : Entry → Asked
event_asked e = asked_of e.kind e.nexus e.argument 0x20

-- an event's page
abbrev pub event_page : (pages : List ℕ) → Entry → List ℕ
event_page pages e = take e.page_length (drop e.page_offset pages)

-- the call that it records
unfoldable pub call : (pages : List ℕ) → Entry → Call
call pages e = call_of (event_asked e) (event_page pages e)

-- the calls of events and page bytes
abbrev pub calls : (events pages : List ℕ) → List Call
calls events pages = map (call pages) (entries events)
