-- How many bytes texts have.
-- Assumes nothing.
use Prim.Native.Nat.{ℕ, ◌+◌}
use mathlib.Core.Path.{◌≡◌, refl, sym, ap, ◌∙◌}
use mathlib.Core.List.{List, [], ◌∷◌, ◌++◌, append_assoc}
use lib.ListN.{length, length-append}
use Rattle.wire.specs.Parts.{joined}
use Rattle.text.specs.Making.{size_of}

-- their size is that of the whole
pub joined-size : (texts : List (List ℕ)) → length (joined (λ t. t) texts) ≡ size_of texts
unfolding joined
joined-size [] = refl
joined-size (text ∷ more) = length-append text (joined (λ t. t) more) ∙ ap (λ n. length text + n) (joined-size more)

-- texts after others
pub joined-append : (texts more : List (List ℕ)) → joined (λ t. t) (texts ++ more) ≡ joined (λ t. t) texts ++ joined (λ t. t) more
unfolding joined
joined-append [] more = refl
joined-append (text ∷ texts) more = ap (λ t. text ++ t) (joined-append texts more) ∙ sym (append_assoc text (joined (λ t. t) texts) (joined (λ t. t) more))
