-- Laws of a text that is cut.
-- Assumes nothing.
use Prim.Native.Nat.{ℕ, ◌<◌}
use mathlib.Core.Path.{◌≡◌, refl, sym, ap, ◌∙◌}
use mathlib.Core.Bool.{Bool, true, not}
use mathlib.Core.List.{List, [], ◌∷◌, ◌++◌}
use native.Mathlib.Omega.{arith}
use borrow.Author.Tests.{eq-eqb, ne_eqb, leb-true, not-true}
use lib.Dec.{eqb, leb}
use Rattle.arrays.specs.Arrays.{all}
use Rattle.arrays.proofs.Base.{both, and_both}
use Rattle.arrays.proofs.Laws.{all_cons, all_append}
use Rattle.text.specs.Decimal.{zero_digit, digit, decimal, is_digit}
use Rattle.text.specs.Pieces.{extended, pieces, is_whole}
use Rattle.text.proofs.Decimal.{all_digits}

-- what passes one test at each element passes another that follows from it
all-also : (p q : ℕ → Bool) → ((x : ℕ) → p x ≡ true → q x ≡ true) → (xs : List ℕ) → all p xs ≡ true → all q xs ≡ true
all-also p q f [] e = refl
all-also p q f (x ∷ xs) e =
    let h = and_both (p x) (all p xs) (sym (all_cons p x xs) ∙ e) in
    all_cons q x xs ∙ both (q x) (all q xs) (f x h.0) (all-also p q f xs h.1)

-- a number in decimal is cut by no character below its digits
pub decimal-whole : (cut : ℕ) → cut < zero_digit → (n : ℕ) → is_whole cut (decimal n) ≡ true
decimal-whole cut low n =
    all-also is_digit (λ c. not (eqb c cut))
    (λ c d. let h = leb-true zero_digit c (and_both (leb zero_digit c) (leb c (digit 9)) d).0 in ap not (ne_eqb c cut (λ e. absurd (omega (arith, h, low, e)))))
    (decimal n) (all_digits n)

-- texts without a cut, one after the other
pub whole_append : (cut : ℕ) (a b : List ℕ) → is_whole cut a ≡ true → is_whole cut b ≡ true → is_whole cut (a ++ b) ≡ true
whole_append cut a b v w = all_append (λ c. not (eqb c cut)) a b ∙ both (is_whole cut a) (is_whole cut b) v w

-- a cut, and the text before it
pub cut-after : (cut : ℕ) (text rest : List ℕ) → is_whole cut text ≡ true → pieces cut (text ++ cut ∷ rest) ≡ text ∷ pieces cut rest
unfolding pieces
cut-after cut [] rest w = rw (eq-eqb cut cut refl) refl
cut-after cut (c ∷ text) rest w =
    let h = and_both (not (eqb c cut)) (is_whole cut text) (sym (all_cons (λ c. not (eqb c cut)) c text) ∙ w) in
    rw (not-true (eqb c cut) h.0) (ap (extended c) (cut-after cut text rest h.1))

-- no cut
pub cut-never : (cut : ℕ) (text : List ℕ) → is_whole cut text ≡ true → pieces cut text ≡ text ∷ []
unfolding pieces
cut-never cut [] w = refl
cut-never cut (c ∷ text) w =
    let h = and_both (not (eqb c cut)) (is_whole cut text) (sym (all_cons (λ c. not (eqb c cut)) c text) ∙ w) in
    rw (not-true (eqb c cut) h.0) (ap (extended c) (cut-never cut text h.1))
