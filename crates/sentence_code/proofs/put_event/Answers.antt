use Rattle.sentence.specs.Telling.{has_nexus, kind_words, event_words, nexus_words}
use Rattle.sentence_code.proofs.put_event.Goals.{then-has_nexus, else-has_nexus}
use Prim.Native.Nat.{ℕ}
use mathlib.Core.Bool.{true, false}
use mathlib.Core.List.{List, [], ◌++◌, append_assoc}
use mathlib.Core.Path.{◌≡◌, sym, ◌∙◌}
use Rattle.arrays.proofs.Base.{if-true, if-false}
use Rattle.text.specs.Decimal.{decimal}
use Rattle.text.specs.Characters.{bytes_of}
use Rattle.text_code.proofs.Telling.{and-then}
use Rattle.sentence_code.proofs.put_event.Goals as goal

with-nexus : (kind nexus : ℕ) → has_nexus kind ≡ true → nexus_words kind nexus ≡ bytes_of ", nexus " ++ decimal nexus
unfolding nexus_words
with-nexus kind nexus e = if-true (has_nexus kind) (bytes_of ", nexus " ++ decimal nexus) [] e

with-none : (kind nexus : ℕ) → has_nexus kind ≡ false → nexus_words kind nexus ≡ []
unfolding nexus_words
with-none kind nexus e = if-false (has_nexus kind) (bytes_of ", nexus " ++ decimal nexus) [] e

-- an event, its words one after another
event-is : (position kind nexus : ℕ) (words : List ℕ) → nexus_words kind nexus ≡ words
    → event_words position kind nexus ≡ bytes_of "event " ++ (decimal position ++ (bytes_of " (" ++ (kind_words kind ++ (words ++ bytes_of ")"))))
unfolding event_words
event-is position kind nexus words e = simp (e, append_assoc)

pub returns : goal.returns
unfolding bytes_of
returns c =
    elim c.if-has_nexus.branch [
      | then-has_nexus w ↦
          let nexus : nexus_words c.args.kind c.args.nexus ≡ bytes_of ", nexus " ++ decimal c.args.nexus = with-nexus c.args.kind c.args.nexus (sym c.has_nexus.ensures ∙ w.if-has_nexus.true) in
          let told = event-is c.args.position c.args.kind c.args.nexus (bytes_of ", nexus " ++ decimal c.args.nexus) nexus in
          simp (c.put_words-4.ensures, w.lines-is, w.put_number-then-has_nexus.ensures.0, w.put_words-then-has_nexus.ensures, c.put_words-3.ensures, c.kind_name.ensures, c.put_words-2.ensures, c.put_number.ensures.0, c.put_words.ensures, told, and-then, append_assoc)
      | else-has_nexus w ↦
          let nexus : nexus_words c.args.kind c.args.nexus ≡ [] = with-none c.args.kind c.args.nexus (sym c.has_nexus.ensures ∙ w.if-has_nexus.false) in
          let told = event-is c.args.position c.args.kind c.args.nexus [] nexus in
          simp (c.put_words-4.ensures, w.lines-is, c.put_words-3.ensures, c.kind_name.ensures, c.put_words-2.ensures, c.put_number.ensures.0, c.put_words.ensures, told, and-then, append_assoc)
    ]
