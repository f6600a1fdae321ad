-- Laws of a run of stores, `sets`: one after another, past the end, over zeros.
-- Assumes nothing.
use mathlib.Core.Path.{◌≡◌, refl, sym, ap, ◌∙◌}
use mathlib.Core.Bool.{true}
use mathlib.Core.List.{List, [], ◌∷◌, ◌++◌, append_assoc, append-nil}
use Prim.Native.Nat.{ℕ, zero, suc, ◌+◌, ◌-◌, ◌≤◌, min}
use native.Mathlib.Nat.{add-zero, add-suc, suc-add, sub-zero, zero-sub, suc-sub-suc}
use native.Mathlib.Omega.{arith}
use borrow.Author.Tests.{leb-true, leb-false}
use lib.Dec.{leb}
use lib.ListN.{length, take, drop, set, replicate, length-append, length-drop, length-replicate, take-append-drop, drop_of_length-le}
use lib.Seq.{sets, sets-eq, length-sets, set_out, take_all, take_at, drop_at, take-append-le, take-take, drop-drop, length-take-le}
use Rattle.arrays.proofs.Base.{cases}
use Rattle.wire.specs.Buffers.{shown, padded, all_zero}
use Rattle.wire.proofs.Zeros.{zeros-are, are-zeros}

-- nothing is stored past the end
pub sets-out : (v l : List ℕ) (i : ℕ) → length l ≤ i → sets l i v ≡ l
sets-out [] l i h = refl
sets-out (x ∷ v) l i h = rw (set_out l i x h) (sets-out v l (suc i) (omega arith))

-- two runs are one
pub sets-append : (l : List ℕ) (i : ℕ) (v w : List ℕ) → sets (sets l i v) (i + length v) w ≡ sets l i (v ++ w)
sets-append l i [] w = rw add-zero refl
sets-append l i (x ∷ v) w = rw (add-suc, ← suc-add i (length v)) (sets-append (set l i x) (suc i) v w)

-- a run from the second element on keeps the first
sets-cons : (y : ℕ) (l : List ℕ) (i : ℕ) (v : List ℕ) → sets (y ∷ l) (suc i) v ≡ y ∷ sets l i v
sets-cons y l i [] = refl
sets-cons y l i (x ∷ v) = sets-cons y (set l i x) (suc i) v

-- a run from the first element on is the page shown
pub sets-shown : (page buffer : List ℕ) → sets buffer 0 page ≡ shown page buffer
sets-shown [] [] = refl
sets-shown [] (y ∷ b) = refl
sets-shown (x ∷ p) [] = sets-out p [] 1 (omega arith)
sets-shown (x ∷ p) (y ∷ b) = sets-cons x b 0 p ∙ ap (λ (t : List ℕ). x ∷ t) (sets-shown p b)

-- showing keeps a buffer's length
pub length-shown : (page buffer : List ℕ) → length (shown page buffer) ≡ length buffer
length-shown page buffer = rw sets-shown at (length-sets buffer 0 page)

-- the rest of a list of equal elements
pub drop-replicate : (m n a : ℕ) → drop m (replicate n a) ≡ replicate (n - m) a
drop-replicate zero n a = rw sub-zero refl
drop-replicate (suc m) zero a = rw zero-sub refl
drop-replicate (suc m) (suc n) a = rw suc-sub-suc (drop-replicate m n a)

-- padded to n bytes there are n
pub length-padded : (n : ℕ) (d : List ℕ) → length (padded n d) ≡ n
length-padded n d = length-shown d (replicate n 0) ∙ length-replicate n 0

-- bytes that fit, then zeros
pub padded-is : (n : ℕ) (d : List ℕ) → length d ≤ n → padded n d ≡ d ++ replicate (n - length d) 0
padded-is n d h = rw (length-replicate {A = ℕ} n 0, take_all n d h, drop-replicate (length d) n 0) refl

-- they are told back
pub take-padded : (n : ℕ) (d : List ℕ) → length d ≤ n → take (length d) (padded n d) ≡ d
take-padded n d h = rw (padded-is n d h) (take_at d (replicate (n - length d) 0) (length d) refl)

-- and past them are zeros
pub zero-past : (n : ℕ) (d : List ℕ) → length d ≤ n → all_zero (drop (length d) (padded n d)) ≡ true
zero-past n d h = rw (padded-is n d h, drop_at d (replicate (n - length d) 0) (length d) refl) (are-zeros (n - length d))

-- bytes with zeros past the mth are the first m, padded
pub padded-back : (n m : ℕ) (b : List ℕ) → length b ≡ n → m ≤ n → all_zero (drop m b) ≡ true → padded n (take m b) ≡ b
padded-back n m b l h z =
    let k : length (take m b) ≡ m = length-take-le m b (omega arith) in
    let e : drop m b ≡ replicate (n - m) 0 = rw (length-drop m b, l) at (zeros-are (drop m b) z) in
    padded-is n (take m b) (omega arith) ∙ rw (k, ← e) (take-append-drop m b)

-- a slice to the end is the rest
pub part-rest : (s : List ℕ) (n : ℕ) → take (length s - n) (drop n s) ≡ drop n s
part-rest s n = take_all (length s - n) (drop n s) (omega (arith, length-drop n s))

-- stored just before a part that came back changed, they and it are one run of stores
pub part-stored : (b e v : List ℕ) (at n m : ℕ) → at + length v ≡ m → m + n ≤ length b → length e ≡ n
    → sets (take m b ++ (e ++ drop n (drop m b))) at v ≡ sets b at (v ++ e)
part-stored b e v at n m h k l =
    let front : length (take m b) ≡ m = length-take-le m b (omega arith) in
    let rest : List ℕ = e ++ drop n (drop m b) in
    let whole : List ℕ = take m b ++ rest in
    let size : length whole ≡ m + length rest = length-append (take m b) rest ∙ ap (λ (j : ℕ). j + length rest) front in
    let first : take at whole ≡ take at b = take-append-le at (take m b) rest (omega arith) ∙ take-take at m b (omega arith) in
    let last : drop (at + length v) whole ≡ rest = drop_at (take m b) rest (at + length v) (front ∙ sym h) in
    let both : length (v ++ e) ≡ length v + n = length-append v e ∙ ap (λ (j : ℕ). length v + j) l in
    let there : m + n ≡ at + length (v ++ e) = omega arith in
    let past : drop n (drop m b) ≡ drop (at + length (v ++ e)) b = drop-drop n m b ∙ ap (λ (j : ℕ). drop j b) there in
    let end : List ℕ = drop (at + length (v ++ e)) b in
    let same : take at whole ++ v ++ drop (at + length v) whole ≡ take at b ++ v ++ (e ++ end) = rw (first, last, past) refl in
    let joined : take at b ++ v ++ (e ++ end) ≡ take at b ++ (v ++ e) ++ end =
    sym (append_assoc (take at b ++ v) e end) ∙ ap (λ (t : List ℕ). t ++ end) (append_assoc (take at b) v e) in
    sets-eq v whole at (omega arith) ∙ same ∙ joined ∙ sym (sets-eq (v ++ e) b at (omega arith))

-- as many as fit are stored, from the index or the end on
fitting : (l v : List ℕ) (i from size : ℕ) → from ≡ min i (length l) → size ≡ min (length v) (length l - from) → take from l ++ take size v ++ drop (from + size) l ≡ sets l i v
fitting l v i from size f s =
    let w : List ℕ = take size v in
    let k : length w ≡ size = length-take-le size v (omega arith) in
    let none : (m : List ℕ) → length m ≡ length l → sets m (from + length w) (drop size v) ≡ m =
    λ m e. cases (leb (length v) size)
    (λ t. rw (drop_of_length-le v {i = size} (leb-true (length v) size t)) refl)
    (λ t. let r = leb-false (length v) size t in sets-out (drop size v) m (from + length w) (omega arith)) in
    cases (leb i (length l))
    (λ t.
    let e : from ≡ i = omega (arith, leb-true i (length l) t) in
    let whole : sets l from v ≡ sets l from w = sym (ap (sets l from) (take-append-drop size v)) ∙ sym (sets-append l from w (drop size v)) ∙ none (sets l from w) (length-sets l from w) in
    sym (rw k at (sets-eq w l from (omega arith))) ∙ sym whole ∙ ap (λ (j : ℕ). sets l j v) e)
    (λ t.
    let r = leb-false i (length l) t in
    let z : size ≡ 0 = omega arith in
    rw (z, add-zero from, append-nil, take-append-drop) (sym (sets-out v l i (omega arith))))

-- and in the parts that a slice to be written has
pub sets-fitting : (l v : List ℕ) (i from size : ℕ) → from ≡ min i (length l) → size ≡ min (length v) (length l - from) → take from l ++ (take size v ++ drop size (drop from l)) ≡ sets l i v
sets-fitting l v i from size f s = rw (drop-drop size from l, ← append_assoc (take from l) (take size v) (drop (from + size) l)) (fitting l v i from size f s)
