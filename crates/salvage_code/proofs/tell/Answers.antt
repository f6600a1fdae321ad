use Prim.Native.Nat.{ℕ, ◌≤◌}
use mathlib.Core.Path.{◌≡◌, ap, sym, ◌∙◌}
use native.Mathlib.Omega.{arith}
use lib.ListN.{length}
use mathlib.Core.List.{List, [], ◌∷◌, ◌++◌, append_assoc, append-nil}
use Rattle.wire.specs.Parts.{joined}
use Rattle.text.specs.Characters.{bytes_of}
use Rattle.text.specs.Decimal.{decimal}
use Rattle.salvage.specs.declared.Salvaged.{Salvaged}
use Rattle.text.specs.Making.{lines_most, size_of}
use Rattle.text.proofs.Making.{joined-size, joined-append}
use Rattle.text_code.specs.Telling.{and_text, told_lines}
use Rattle.text_code.proofs.Telling.{and-then, told}
use Rattle.salvage.specs.Reports.{change, report_parts, report_text}
use Rattle.salvage_code.proofs.tell.Goals as goal

abbrev whole : List (List ℕ) → List ℕ
whole = joined (λ part. part)

-- the last line
last : (x y z : List ℕ) → x ++ (y ++ z) ≡ whole (x ∷ y ∷ z ∷ [])
unfolding joined
last x y z = ap (λ t. x ++ (y ++ t)) (sym (append-nil z))

-- four lines and the last one, part by part
lines-joined : (a b c d : List (List ℕ)) (x y z : List ℕ) → whole a ++ whole b ++ whole c ++ whole d ++ x ++ y ++ z ≡ whole (a ++ b ++ c ++ d ++ x ∷ y ∷ z ∷ [])
lines-joined a b c d x y z = simp (joined-append, append_assoc) (ap (λ t. whole a ++ (whole b ++ (whole c ++ (whole d ++ t)))) (last x y z))

-- the report, line by line
report-is : (s : Salvaged) → let was = s.old in let is = s.new in
    whole (change (bytes_of "events ") was.event_count is.event_count)
    ++ whole (change (bytes_of "first event ") was.first_event is.first_event)
    ++ whole (change (bytes_of "page bytes ") was.pages_from is.pages_from)
    ++ whole (change (bytes_of "total ") was.total is.total)
    ++ bytes_of "dropped " ++ decimal s.dropped ++ bytes_of "\n"
    ≡ report_text s
unfolding report_parts report_text
report-is s =
    lines-joined (change (bytes_of "events ") s.old.event_count s.new.event_count) (change (bytes_of "first event ") s.old.first_event s.new.first_event)
    (change (bytes_of "page bytes ") s.old.pages_from s.new.pages_from) (change (bytes_of "total ") s.old.total s.new.total)
    (bytes_of "dropped ") (decimal s.dropped) (bytes_of "\n")

size-is : (s : Salvaged) → length (report_text s) ≡ size_of (report_parts s)
unfolding report_text
size-is s = joined-size (report_parts s)

pub returns : goal.returns
unfolding bytes_of told_lines report_parts
returns c =
    let s = c.args.salvaged in
    let size : length (report_text s) ≤ lines_most =
    omega (arith, size-is s, c.put_change.ensures.1, c.put_change-2.ensures.1, c.put_change-3.ensures.1, c.put_change-4.ensures.1, c.put_number.ensures.1) in
    let is : c.put_words-2.new.self ≡ told_lines (report_text s) =
    simp (c.put_words-2.ensures, c.put_number.ensures.0, c.put_words.ensures, c.put_change-4.ensures.0, c.put_change-3.ensures.0, c.put_change-2.ensures.0, c.put_change.ensures.0, and-then)
    (ap (λ (t : List ℕ). and_text (told_lines []) t) (report-is s) ∙ told (report_text s) size) in
    (is, rw is size)
