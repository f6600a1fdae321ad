-- Document 02, request 7: "Keep beside each place one word whose bit n says that nexus n selects this place."
use Rattle.std.specs.Prelude.{ℕ, Bool, true, false, ◌&&◌, List, [], ◌∷◌, eqb}
use Rattle.arrays.specs.Words.{words_by}
use Rattle.device.specs.Record.{State}
use Rattle.device.specs.Selecting.{selected}
use Rattle.device.specs.WellFormed.{well_formed}

-- the words, as the scopes say: the bit of each nexus in the word of the place that it selects
unfoldable pub words : State → List ℕ
words s = words_by (λ n nexus. selected s n) s.nexuses s.sets

-- "The record gains these words"
pub record Worded : Type 0 where
  pub state : State
  pub words : List ℕ

-- the record whose words are what the scopes say
abbrev pub with_words : State → Worded
with_words s = record { state = s; words = words s }

-- a record with words that it had before
abbrev pub keeping : List ℕ → State → Worded
keeping had s = record { state = s; words = had }

-- the same words, one by one
abbrev pub same_words : List ℕ → List ℕ → Bool
same_words [] [] = true
same_words [] (y ∷ ys) = false
same_words (x ∷ xs) [] = false
same_words (x ∷ xs) (y ∷ ys) = eqb x y && same_words xs ys

-- "a record where they differ is not well formed"
unfoldable pub formed : Worded → Bool
formed r = well_formed r.state && same_words r.words (words r.state)
