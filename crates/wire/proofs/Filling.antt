-- A buffer filled from its start by runs of stores, one after another.
-- Assumes nothing.
use Prim.Native.Nat.{ℕ, ◌+◌}
use mathlib.Core.Path.{◌≡◌, refl, sym, ap₂, ◌∙◌}
use mathlib.Core.List.{List, [], ◌++◌, append-nil}
use native.Mathlib.Nat.{zero-add}
use native.Mathlib.Omega.{arith}
use lib.ListN.{length, take, drop, length-append, drop_of_length-le}
use lib.Seq.{sets, take_all}
use Rattle.wire.proofs.Stores.{sets-append, sets-shown}

-- as many stores as there are bytes leave nothing of what was there
pub sets-whole : (l v : List ℕ) → length l ≡ length v → sets l 0 v ≡ v
sets-whole l v h =
    let first : take (length l) v ≡ v = take_all (length l) v (omega arith) in
    let last : drop (length v) l ≡ [] = drop_of_length-le l {i = length v} (omega arith) in
    sets-shown v l ∙ ap₂ (λ (x y : List ℕ). x ++ y) first last ∙ append-nil v

-- the buffer b is z with the n bytes v stored from its start on
pub record Filled (z : List ℕ) (n : ℕ) (v b : List ℕ) : Type 0 where
  pub stored : b ≡ sets z 0 v
  pub sized : length v ≡ n

-- nothing is stored yet
pub fill-starts : (z : List ℕ) → Filled z 0 [] z
fill-starts z = record { stored = refl; sized = refl }

module _ {z : List ℕ} where
  -- one run more
  pub fill_more : {i : ℕ} {v b : List ℕ} → Filled z i v b → (w : List ℕ) {c : List ℕ} → c ≡ sets b i w → (n : ℕ) → i + length w ≡ n → Filled z n (v ++ w) c
  fill_more {i} {v} {b} f w e n h =
      record { stored = e ∙ rw (f.stored, sym f.sized) (rw zero-add at (sets-append z 0 v w)); sized = omega (arith, length-append v w, f.sized) }

  -- all is stored
  pub fill-ends : {n : ℕ} {v b : List ℕ} → Filled z n v b → length z ≡ n → b ≡ v
  fill-ends {n} {v} f h = f.stored ∙ sets-whole z v (omega (arith, f.sized))
