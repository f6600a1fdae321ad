-- Bytes of a list read, and as they stand in it.
-- Assumes nothing.
use Prim.Native.Nat.{ℕ, zero, suc, ◌+◌, ◌^◌, ◌≤◌, ◌<◌}
use mathlib.Core.Path.{◌≡◌, refl, sym, ap, ap₂, ◌∙◌}
use mathlib.Core.Bool.{Bool, true, false}
use mathlib.Core.List.{List, [], ◌∷◌, ◌++◌, append-nil}
use native.Mathlib.Omega.{arith}
use borrow.Author.Tests.{eqb-true, eqb-false, leb-true, ltb-true, ltb-false}
use lib.Dec.{eqb, leb, ltb}
use lib.ListN.{length, take, drop, replicate, length-replicate, length-append, drop_of_length-le, get_or-eq_default}
use lib.Seq.{drop-cons, drop-append-add, take_at, get_or-drop}
use Rattle.arrays.specs.Base.{bit}
use Rattle.arrays.proofs.Base.{cases}
use Rattle.arrays.proofs.Laws.{each_at}
use Rattle.wire.specs.Numbers.{byte_at, number, number_at, four, wide, eight, flag_at, yes_or_no, are_bytes}
use Rattle.wire.specs.Buffers.{padded}
use Rattle.wire.proofs.Numbers.{number-below, four-number, eight-halves}

-- ---- n bytes

-- where there are as many, they are the first
pub padded-first : (n : ℕ) (d : List ℕ) → n ≤ length d → padded n d ≡ take n d
padded-first n d h =
    let none : drop {A = ℕ} (length d) (replicate n 0) ≡ [] = drop_of_length-le (replicate n 0) {i = length d} (omega (arith, length-replicate {A = ℕ} n 0)) in
    ap₂ (λ (k : ℕ) (r : List ℕ). take k d ++ r) (length-replicate n 0) none ∙ append-nil (take n d)

-- an array of n bytes is the first n, whatever follows
pub padded-at : (n : ℕ) (u rest : List ℕ) → length u ≡ n → padded n (u ++ rest) ≡ u
padded-at n u rest h = padded-first n (u ++ rest) (omega (arith, length-append u rest)) ∙ take_at u rest n h

-- past it and one byte more
pub drop_past : (n : ℕ) (u : List ℕ) (x : ℕ) (rest : List ℕ) → length u ≡ n → drop (n + 1) (u ++ x ∷ rest) ≡ rest
drop_past n u x rest h = ap (λ (k : ℕ). drop (k + 1) (u ++ x ∷ rest)) (sym h) ∙ drop-append-add u (x ∷ rest) 1

-- n bytes from an index on, one by one
abbrev pub run : List ℕ → ℕ → ℕ → List ℕ
run l k zero = []
run l k (suc n) = byte_at l k ∷ run l (suc k) n

pub take-run : (n k : ℕ) (l : List ℕ) → k + n ≤ length l → take n (drop k l) ≡ run l k n
take-run zero k l h = refl
take-run (suc n) k l h =
    rw (drop-cons l k 0 (omega arith)) (ap (λ (r : List ℕ). byte_at l k ∷ r) (take-run n (suc k) l (omega arith)))

-- ---- yes or no

-- a flag's byte tells the flag
pub flag-back : (f : Bool) → eqb (bit f) 1 ≡ f
flag-back true = refl
flag-back false = refl

-- it is 0 or 1
pub flag-low : (f : Bool) → leb (bit f) 1 ≡ true
flag-low true = refl
flag-low false = refl

-- and a byte that is 0 or 1 is that of its flag
pub flag-again : (part : List ℕ) (at : ℕ) → yes_or_no part at ≡ true → bit (flag_at part at) ≡ byte_at part at
flag-again part at h =
    let b = byte_at part at in
    cases (eqb b 1) (λ e. rw e (sym (eqb-true b 1 e))) (λ e. let z : 0 ≡ b = omega (arith, eqb-false b 1 e, leb-true b 1 h) in rw e z)

-- ---- bytes are below 256

-- at each index; past the end is 0
abbrev pub Below : List ℕ → Type 0
Below l = (i : ℕ) → byte_at l i < 256

pub below : (l : List ℕ) → are_bytes l ≡ true → Below l
below l e i =
    cases (ltb i (length l))
    (λ h. ltb-true (byte_at l i) 256 (each_at (λ k b. ltb b 256) 0 l e i (ltb-true i (length l) h)))
    (λ h. omega (arith, get_or-eq_default l 0 {n = i} (ltb-false i (length l) h)))

-- so are those from an index on
pub below-drop : (l : List ℕ) (k : ℕ) → Below l → Below (drop k l)
below-drop l k h i = rw (get_or-drop k l i 0) (h (k + i))

-- four of them and their number
pub four-again : (l : List ℕ) (a b c d : ℕ) → Below l → four (number (byte_at l a) (byte_at l b) (byte_at l c) (byte_at l d)) ≡ byte_at l a ∷ byte_at l b ∷ byte_at l c ∷ byte_at l d ∷ []
four-again l a b c d h = four-number (byte_at l a) (byte_at l b) (byte_at l c) (byte_at l d) (h a) (h b) (h c) (h d)

-- a number of four bytes has 32 bits
pub number-bits : (l : List ℕ) (at : ℕ) → Below l → number_at l at < 2 ^ 32
number-bits l at b = number-below _ _ _ _ (b at) (b (at + 1)) (b (at + 2)) (b (at + 3))

-- one of eight has 64
pub wide-bits : (l : List ℕ) → Below l → wide l < 2 ^ 64
wide-bits l b = omega (arith, number-bits l 0 b, number-bits l 4 b)

-- eight of them and their number
pub wide-again : (l : List ℕ) → Below l → 8 ≤ length l → eight (wide l) ≡ take 8 l
wide-again l b h =
    eight-halves (number_at l 0) (number_at l 4) (number-bits l 4 b) ∙ ap₂ (λ (x y : List ℕ). x ++ y) (four-again l 0 1 2 3 b) (four-again l 4 5 6 7 b)
    ∙ sym (take-run 8 0 l h)
