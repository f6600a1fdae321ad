-- The report's lines, cut at their ends and their spaces, have the numbers.
-- Assumes nothing.
use Prim.Native.Nat.{ℕ}
use mathlib.Core.Path.{◌≡◌, refl, sym, ap, ap₂, ◌∙◌}
use mathlib.Core.Bool.{true}
use mathlib.Core.List.{List, [], ◌∷◌, ◌++◌, map, append_assoc}
use lib.Dec.{lit<}
use Rattle.wire.specs.Parts.{joined}
use Rattle.text.specs.Characters.{bytes_of}
use Rattle.text.specs.Decimal.{decimal}
use Rattle.text.specs.Pieces.{pieces, is_whole, lines_of, words_of}
use Rattle.text.proofs.Pieces.{whole_append, decimal-whole, cut-after, cut-never}
use Rattle.salvage.specs.declared.Salvaged.{Salvaged}
use Rattle.salvage.specs.Reports.{change, report_parts, report_text}
use Rattle.salvage.specs.Saved.{ReportReads}

-- texts one after another
abbrev text : List (List ℕ) → List ℕ
text = joined (λ part. part)

-- a name that stands before its numbers: its words, and then those of the rest
abbrev Names : (name : List ℕ) → (words : List (List ℕ)) → Type 0
Names name words = (rest : List ℕ) → words_of (name ++ rest) ≡ words ++ words_of rest

module _ (name : List ℕ) (words : List (List ℕ)) (whole : is_whole 10 name ≡ true) (named : Names name words) where
  -- a name and a number
  number-line : (n : ℕ) (more : List (List ℕ)) → map words_of (lines_of (text (name ∷ decimal n ∷ bytes_of "\n" ∷ more))) ≡ (words ++ decimal n ∷ []) ∷ map words_of (lines_of (text more))
  unfolding joined bytes_of
  number-line n more =
      let line = name ++ decimal n in
      ap (λ (l : List ℕ). map words_of (lines_of l)) (sym (append_assoc name (decimal n) (10 ∷ text more)))
      ∙ ap (map words_of) (cut-after 10 line (text more) (whole_append 10 name (decimal n) whole (decimal-whole 10 (lit< tt) n)))
      ∙ ap (λ (l : List (List ℕ)). l ∷ map words_of (lines_of (text more))) (named (decimal n) ∙ ap (λ (l : List (List ℕ)). words ++ l) (cut-never 32 (decimal n) (decimal-whole 32 (lit< tt) n)))

  -- a name, the old number and the new one
  change-line : (old new : ℕ) (more : List (List ℕ)) {later : List (List (List ℕ))} → map words_of (lines_of (text more)) ≡ later
      → map words_of (lines_of (text (change name old new ++ more))) ≡ (words ++ decimal old ∷ bytes_of "->" ∷ decimal new ∷ []) ∷ later
  unfolding joined bytes_of pieces
  change-line old new more e =
      let arrow = bytes_of " -> " in
      let rest : List ℕ = 10 ∷ text more in
      let line = name ++ (decimal old ++ (arrow ++ decimal new)) in
      let parts : name ++ (decimal old ++ (arrow ++ (decimal new ++ rest))) ≡ line ++ rest =
      sym (append_assoc name (decimal old ++ (arrow ++ decimal new)) rest ∙ ap (λ (l : List ℕ). name ++ l) (append_assoc (decimal old) (arrow ++ decimal new) rest)) in
      let none = decimal-whole 10 (lit< tt) in
      let clean = whole_append 10 name (decimal old ++ (arrow ++ decimal new)) whole (whole_append 10 (decimal old) (arrow ++ decimal new) (none old) (whole_append 10 arrow (decimal new) refl (none new))) in
      let last : words_of (decimal old ++ (arrow ++ decimal new)) ≡ decimal old ∷ bytes_of "->" ∷ decimal new ∷ [] =
      cut-after 32 (decimal old) (bytes_of "-> " ++ decimal new) (decimal-whole 32 (lit< tt) old)
      ∙ ap (λ (l : List (List ℕ)). decimal old ∷ l) (cut-after 32 (bytes_of "->") (decimal new) refl ∙ ap (λ (l : List (List ℕ)). bytes_of "->" ∷ l) (cut-never 32 (decimal new) (decimal-whole 32 (lit< tt) new))) in
      ap (λ (l : List ℕ). map words_of (lines_of l)) parts
      ∙ ap (map words_of) (cut-after 10 line (text more) clean)
      ∙ ap₂ (λ (l : List (List ℕ)) (m : List (List (List ℕ))). l ∷ m) (named (decimal old ++ (arrow ++ decimal new)) ∙ ap (λ (l : List (List ℕ)). words ++ l) last) e

-- The report's lines, read word by word: each header number's name, its old and its new value, then how many were dropped, and nothing after.
pub report-reads : (s : Salvaged) → ReportReads s
unfolding joined bytes_of pieces report_parts report_text
report-reads s =
    let last : List (List ℕ) = bytes_of "dropped " ∷ decimal s.dropped ∷ bytes_of "\n" ∷ [] in
    let fourth = change (bytes_of "total ") s.old.total s.new.total ++ last in
    let third = change (bytes_of "page bytes ") s.old.pages_from s.new.pages_from ++ fourth in
    let second = change (bytes_of "first event ") s.old.first_event s.new.first_event ++ third in
    let dropped = number-line (bytes_of "dropped ") (bytes_of "dropped" ∷ []) refl (λ rest. refl) s.dropped [] in
    let total = change-line (bytes_of "total ") (bytes_of "total" ∷ []) refl (λ rest. refl) s.old.total s.new.total last dropped in
    let pages = change-line (bytes_of "page bytes ") (bytes_of "page" ∷ bytes_of "bytes" ∷ []) refl (λ rest. refl) s.old.pages_from s.new.pages_from fourth total in
    let first = change-line (bytes_of "first event ") (bytes_of "first" ∷ bytes_of "event" ∷ []) refl (λ rest. refl) s.old.first_event s.new.first_event third pages in
    record { words = change-line (bytes_of "events ") (bytes_of "events" ∷ []) refl (λ rest. refl) s.old.event_count s.new.event_count second first }
