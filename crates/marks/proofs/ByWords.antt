-- Unit attentions from the words are those of document 01's sentence.
-- Assumes nothing.
use Rattle.std.specs.Prelude.{ℕ, Option}
use Prim.Native.Nat.{ℕ, ◌<◌}
use mathlib.Core.Path.{◌≡◌, refl, sym, ap, ◌∙◌}
use mathlib.Core.Bool.{Bool, not, ◌||◌}
use mathlib.Core.List.{List}
use native.Mathlib.Omega.{arith}
use borrow.Author.Tests.{eqb-true}
use lib.Dec.{eqb}
use lib.ListN.{length, get_or, length-set, length-map}
use Rattle.arrays.specs.Arrays.{word_of}
use Rattle.arrays.specs.Words.{bit_of, some_below}
use Rattle.arrays.proofs.Base.{cases}
use Rattle.arrays.proofs.Algebra.{word_same, word-bit}
use Rattle.arrays.proofs.Joining.{joined, differs_at, some-changes, word-changes}
use Rattle.arrays.proofs.Laws.{length-map_from, map_from-same}
use Rattle.device.specs.Record.{State, set_at, new_nexus, nexus_at}
use Rattle.device.specs.Selecting.{selected}
use Rattle.device.specs.Updates.{with_nexuses}
use Rattle.device.specs.Words.{words, with_words}
use Rattle.device.specs.declared.Nexus.{Nexus}
use Rattle.device.proofs.Selecting.{selected-within}
use Rattle.device.proofs.Scopes.{mapped-scopes, remade-scopes, set-scopes}
use Rattle.words.specs.Changes.{changed_at, changed_word}
use Rattle.words.proofs.Words.{word-at, words-kept}
use Rattle.answer.specs.declared.Change.{Change}
use Rattle.marks.specs.Marks.{remarked, changed, changes, differs, told, alerted, flagged}
use Rattle.marks.specs.Reset.{unmarked, cleared}
use Rattle.marks.specs.Parts.{told_by}

module _ (s t : State) (some : 0 < length s.sets) (places : length t.sets ≡ length s.sets) (nexuses : length t.nexuses ≡ length s.nexuses) where
  -- a place's number differs
  abbrev renumbered : ℕ → Bool
  renumbered place = not (eqb (set_at s place).number (set_at t place).number)

  -- what a nexus uses differs where its place does or its old place is renumbered
  differs-by : (n : ℕ) → (not (eqb (selected s n) (selected t n)) || renumbered (selected s n)) ≡ differs s t n
  differs-by n =
      cases (eqb (selected s n) (selected t n))
      (λ e. rw (← eqb-true (selected s n) (selected t n) e))
      (λ e. rw e)

  old : (place : ℕ) → place < length s.sets → get_or (words s) place 0 ≡ word_of (λ n (x : Nexus). eqb (selected s n) place) t.nexuses
  old place h =
      word-at s place h
      ∙ word_same (λ n (x : Nexus). eqb (selected s n) place) (λ n (x : Nexus). eqb (selected s n) place) new_nexus new_nexus s.nexuses t.nexuses (sym nexuses) (λ n l. refl)

  at : (place : ℕ) → place < length s.sets → changed_at s.sets t.sets (words s) (words t) place ≡ word_of (λ n (x : Nexus). differs_at renumbered (selected s n) (selected t n) place) t.nexuses
  at place h =
      rw (old place h, word-at t place (omega (arith, places)))
      (word-changes (renumbered place) (λ n (x : Nexus). eqb (selected s n) place) (λ n (x : Nexus). eqb (selected t n) place) t.nexuses)

  -- the word formed from words and numbers has the bits of those whose selected place or its number differs
  changed-word : changed_word (length s.sets) s.sets t.sets (words s) (words t) ≡ word_of (λ n (x : Nexus). differs s t n) t.nexuses
  unfolding changed_word
  changed-word =
      joined (λ place n (x : Nexus). differs_at renumbered (selected s n) (selected t n) place) t.nexuses (changed_at s.sets t.sets (words s) (words t)) (length s.sets) at
      ∙ word_same (λ n (x : Nexus). some_below (length s.sets) (differs_at renumbered (selected s n) (selected t n))) (λ n (x : Nexus). differs s t n) new_nexus new_nexus t.nexuses t.nexuses refl
      (λ n l. some-changes renumbered (length s.sets) (selected s n) (selected t n) (selected-within s n some) ∙ differs-by n)

  -- so the flags are the same
  pub same_flags : (actor : Option ℕ) → flagged (bit_of (changed_word (length t.sets) s.sets t.sets (words s) (words t))) actor s t ≡ flagged (differs s t) actor s t
  unfolding flagged
  same_flags actor =
      let word = changed_word (length t.sets) s.sets t.sets (words s) (words t) in
      let is : word ≡ word_of (λ n (x : Nexus). differs s t n) t.nexuses = ap (λ (k : ℕ). changed_word k s.sets t.sets (words s) (words t)) places ∙ changed-word in
      ap (λ (l : List Nexus). with_nexuses l t)
      (map_from-same (λ n. remarked (alerted actor (told (bit_of word) s actor n))) (λ n. remarked (alerted actor (told (differs s t) s actor n))) t.nexuses
      (λ n x h. rw (is, word-bit (λ k (y : Nexus). differs s t k) new_nexus t.nexuses n h)))

-- ---- what changes no word

-- flags
flagged-words : (differ : ℕ → Bool) (actor : Option ℕ) (s t : State) → words (flagged differ actor s t) ≡ words t
unfolding flagged
flagged-words differ actor s t =
    let f : ℕ → Nexus → Nexus = λ n. remarked (alerted actor (told differ s actor n)) in
    words-kept t (flagged differ actor s t) refl (length-map_from f 0 t.nexuses) (mapped-scopes f (λ i x. refl) t)

-- a nexus's marks
pub changes-words : (s : State) (n : ℕ) (change : Change) → words (changes s n change) ≡ words s
unfolding changes
changes-words s n change =
    let x = remarked (changed change) (nexus_at s n) in
    words-kept s (changes s n change) refl (length-set s.nexuses n x) (set-scopes n x s refl)

-- the reset
pub cleared-words : (s : State) → words (cleared s) ≡ words s
unfolding cleared
cleared-words s = words-kept s (cleared s) refl (length-map s.nexuses unmarked) (remade-scopes unmarked (λ x. refl) s)

-- "Unit attentions are then given from the words, with the same flags as before", and the words are what the scopes say
pub told-by-words : (actor : Option ℕ) (s t : State) → 0 < length s.sets → length t.sets ≡ length s.sets → length t.nexuses ≡ length s.nexuses
    → told_by actor (with_words s) t ≡ with_words (flagged (differs s t) actor s t)
unfolding told_by
told-by-words actor s t some places nexuses =
    λ i. record {
      state = same_flags s t some places nexuses actor i;
      words = (sym (flagged-words (differs s t) actor s t)) i;
    }
