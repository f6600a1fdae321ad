-- Document 02, request 6: "Answer 8 now carries the number of the faulty byte: the lowest-numbered byte of the page at which a rule of 01 first
-- breaks." What an answer a to page p says of the page's rules, in whatever order they stand; asked is that no earlier answer is due.
use Rattle.std.specs.Prelude.{ℕ, ◌^◌, ◌<◌, ◌≡◌, ◌⊎◌, List, length}
use Rattle.wire.specs.Rules.{Rule, BreaksAt, Lowest}
use Rattle.answer.specs.declared.Answer.{Answer}
use Rattle.answer.specs.declared.Answer.TheVariants.{Done, FieldWrong, FifthSupplementalKey, NoPlaceForLocal}

-- nothing is wrong with the page: it is taken, or there is no room for its key or its set
abbrev pub Taken : Answer → Type 0
Taken a = (a ≡ Done) ⊎ ((a ≡ FifthSupplementalKey) ⊎ (a ≡ NoPlaceForLocal))

pub record Judged (asked : Type 0) (rules : List Rule) (p : List ℕ) (a : Answer) : Type 0 where
  -- answer 8 with byte b: a rule breaks at b, and none at a lower byte
  pub lowest : (b : ℕ) → a ≡ FieldWrong b → Lowest b rules
  -- b is a byte "of the page"
  pub within : (b : ℕ) → a ≡ FieldWrong b → b < length p
  -- whose number fits the two bytes of a field pointer
  pub fits : (b : ℕ) → a ≡ FieldWrong b → b < 2 ^ 16
  -- and so a page is answered, where it is asked about, wherever a rule breaks
  pub told : (b : ℕ) → asked → Lowest b rules → a ≡ FieldWrong b
  -- answer 0, and answers 9 and 10: none breaks
  pub none : Taken a → (i : ℕ) → BreaksAt i rules → ⊥
  -- and so a page is answered, where it is asked about, wherever none does
  pub right : asked → ((i : ℕ) → BreaksAt i rules → ⊥) → Taken a
