-- Document 02, request 12: "Report the old and new values of each header number and how many whole events before the stored page offset were
-- dropped." Its five lines, to the character, as docs/SALVAGE.md has them.
use Rattle.std.specs.Prelude.{ℕ, List, [], ◌∷◌, ◌++◌}
use Rattle.wire.specs.Parts.{joined}
use Rattle.text.specs.Characters.{bytes_of}
use Rattle.text.specs.Decimal.{decimal}
use Rattle.salvage.specs.declared.Salvaged.{Salvaged}

-- a header number's line, in parts: its name, the old value and the new one
abbrev pub change : (name : List ℕ) → (old new : ℕ) → List (List ℕ)
change name old new = name ∷ decimal old ∷ bytes_of " -> " ∷ decimal new ∷ bytes_of "\n" ∷ []

-- the lines, in parts
unfoldable pub report_parts : Salvaged → List (List ℕ)
report_parts s =
    change (bytes_of "events ") s.old.event_count s.new.event_count
    ++ change (bytes_of "first event ") s.old.first_event s.new.first_event
    ++ change (bytes_of "page bytes ") s.old.pages_from s.new.pages_from
    ++ change (bytes_of "total ") s.old.total s.new.total
    ++ bytes_of "dropped " ∷ decimal s.dropped ∷ bytes_of "\n" ∷ []

-- and as they are printed
unfoldable pub report_text : Salvaged → List ℕ
report_text s = joined (λ part. part) (report_parts s)
