-- Runs of zeros.
-- Assumes nothing.
use mathlib.Core.Path.{◌≡◌, refl, sym, ap, ◌∙◌}
use mathlib.Core.Bool.{true}
use mathlib.Core.List.{List, [], ◌∷◌}
use Prim.Native.Nat.{ℕ, zero, suc}
use borrow.Author.Tests.{eqb-true}
use lib.Dec.{eqb}
use lib.ListN.{length, replicate}
use Rattle.arrays.proofs.Base.{and_left, and_right}
use Rattle.arrays.proofs.Laws.{all_cons}
use Rattle.wire.specs.Buffers.{all_zero}

-- the first byte is zero
pub all-zero-first : (b : ℕ) (l : List ℕ) → all_zero (b ∷ l) ≡ true → b ≡ 0
all-zero-first b l e = eqb-true b 0 (and_left (eqb b 0) (all_zero l) (sym (all_cons (λ (x : ℕ). eqb x 0) b l) ∙ e))

-- and so are the others
pub all-zero-rest : (b : ℕ) (l : List ℕ) → all_zero (b ∷ l) ≡ true → all_zero l ≡ true
all-zero-rest b l e = and_right (eqb b 0) (all_zero l) (sym (all_cons (λ (x : ℕ). eqb x 0) b l) ∙ e)

-- zeros and nothing else are zeros as many
pub zeros-are : (l : List ℕ) → all_zero l ≡ true → l ≡ replicate (length l) 0
zeros-are [] e = refl
zeros-are (b ∷ l) e = rw (all-zero-first b l e) (ap (λ (r : List ℕ). 0 ∷ r) (zeros-are l (all-zero-rest b l e)))

-- and back
pub are-zeros : (n : ℕ) → all_zero (replicate n 0) ≡ true
are-zeros zero = refl
are-zeros (suc n) = all_cons (λ (x : ℕ). eqb x 0) 0 (replicate n 0) ∙ are-zeros n
