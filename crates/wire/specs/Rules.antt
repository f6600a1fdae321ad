-- Rules of pages.
use Rattle.std.specs.Prelude.{ℕ, suc, ◌+◌, ◌≤◌, ◌≡◌, Bool, false, not, ◌||◌, ◌⊎◌, List, [], ◌∷◌, ltb, eqb, length}
use Rattle.arrays.specs.Base.{when◌then◌else◌}
use Rattle.wire.specs.Numbers.{word_at}

-- a page's bytes 2–3 are "the count of bytes after byte 3": it has fewer bytes than the least, or not as many as it says
abbrev pub length_wrong : ℕ → List ℕ → Bool
length_wrong least p = ltb (length p) least || not (eqb (word_at p 2 + 4) (length p))

-- the same in plain relations: it has its least bytes, and as many as it says
abbrev pub RightLength : ℕ → List ℕ → Type 0
RightLength least p = (least ≤ length p) × (word_at p 2 + 4 ≡ length p)

-- a rule: the byte that a breach of it points to, and whether it holds
pub record Rule : Type 0 where
  pub at : ℕ
  pub holds : Bool

-- the rule that points to byte i, and holds where ok is true
abbrev pub rule : ℕ → Bool → Rule
rule i ok = record { at = i; holds = ok }

-- the byte of the first rule that breaks; top where none does
abbrev pub breach : List Rule → ℕ → ℕ
breach [] top = top
breach (r ∷ rs) top = when r.holds then breach rs top else r.at

-- a rule that points to byte i breaks
abbrev pub BreaksAt : ℕ → List Rule → Type 0
BreaksAt i [] = ⊥
BreaksAt i (r ∷ rs) = ((r.at ≡ i) × (r.holds ≡ false)) ⊎ BreaksAt i rs

-- a rule breaks at byte i, and none at a lower byte
pub record Lowest (i : ℕ) (rules : List Rule) : Type 0 where
  pub broken : BreaksAt i rules
  pub least : (j : ℕ) → BreaksAt j rules → i ≤ j

-- each of these bytes, of which the first stands at byte i, is zero, and is a field of its own
abbrev pub zero_rules : ℕ → List ℕ → List Rule
zero_rules i [] = []
zero_rules i (b ∷ bytes) = rule i (eqb b 0) ∷ zero_rules (suc i) bytes
