-- The library's tests of a list, in the words of the definitions of lists here.
-- Assumes nothing.
use Prim.Native.Nat.{ℕ, suc}
use mathlib.Core.Path.{◌≡◌, refl, ap}
use mathlib.Core.Bool.{Bool, true, ◌&&◌}
use mathlib.Core.List.{List, [], ◌∷◌}
use Rattle.std.specs.List.{list_all}
use Rattle.arrays.specs.Arrays.{fold_from, all}

module _ {A : Type 0} (p : A → Bool) where
  -- from any index on
  all-from : (xs : List A) (k : ℕ) → list_all p xs ≡ fold_from (λ i x r. p x && r) true k xs
  all-from [] k = refl
  all-from (x ∷ xs) k = ap (λ (r : Bool). p x && r) (all-from xs (suc k))

  -- what the library's `all` answers
  pub all-chain : (xs : List A) → list_all p xs ≡ all p xs
  all-chain xs = all-from xs 0
