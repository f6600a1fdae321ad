-- The numbers of the sets, read one by one.
-- Assumes nothing.
use Prim.Native.Nat.{ℕ, suc, ◌<◌}
use native.Mathlib.Numerals.{add-one}
use mathlib.Core.Bool.{Bool}
use Rattle.std.specs.Prelude.{Some, None}
use Rattle.std.specs.List.{position, position_from}
use Rattle.std.proofs.lemmas.Iterator.Adapters.{position_from-zero}
use Rattle.arrays.specs.Base.{when◌then◌else◌}
use Rattle.arrays.specs.Arrays.{fold_from, find}
use Rattle.arrays.proofs.Base.{cases}
use mathlib.Core.Path.{◌≡◌, refl, ap, ◌∙◌}
use mathlib.Core.List.{List, [], ◌∷◌}
use lib.ListN.{get_or, replicate}
use Rattle.arrays.proofs.Laws.{get_d-map_from}
use Rattle.device.specs.Record.{no_set}
use Rattle.device.specs.declared.Set.{Set}
use Rattle.sizes_16.specs.Sizes.{place_count}
use Rattle.device_16.specs.Model.{numbers_of}

-- the number of a place
pub number_read : (sets : List Set) (numbers : List ℕ) (p q : ℕ) → numbers ≡ numbers_of sets → p ≡ q → p < place_count → get_or numbers p 0 ≡ (get_or sets q no_set).number
number_read sets numbers p q e f h =
    ap (λ (l : List ℕ). get_or l p 0) e ∙ get_d-map_from {A = ℕ} (λ place zero. (get_or sets place no_set).number) (replicate place_count 0) p 0 0 h
    ∙ ap (λ (k : ℕ). (get_or sets k no_set).number) f

-- the library's search from index k on
found_from : {A : Type 0} (p : A → Bool) (k : ℕ) (xs : List A) → position_from p k xs ≡ fold_from (λ j x r. when p x then Some j else r) None k xs
found_from p k [] = refl
found_from p k (x ∷ xs) =
    cases (p x)
    (λ t. simp t)
    (λ f. simp (f, add-one k, found_from p (suc k) xs))

-- the lowest that passes, as the library finds it
pub position-found : {A : Type 0} (p : A → Bool) (xs : List A) → position p xs ≡ find Some None (λ k. p) xs
position-found p xs = position_from-zero p xs ∙ found_from p 0 xs
