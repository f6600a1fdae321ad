-- Laws of rule lists: what a breach tells of them, and that it is the lowest where they stand in the order of their bytes.
-- Assumes nothing.
use mathlib.Core.Path.{◌≡◌, refl, sym, subst, ◌∙◌}
use mathlib.Core.Bool.{Bool, true, false, ◌&&◌}
use mathlib.Core.Logic.{◌⊎◌, inl, inr, ⊎_elim}
use mathlib.Core.List.{List, [], ◌∷◌, ◌++◌}
use Prim.Native.Nat.{ℕ, suc, ◌+◌, ◌<◌, ◌≤◌}
use native.Mathlib.Omega.{arith}
use native.Mathlib.Nat.{not-le_of_lt, le_refl, le_trans}
use borrow.Author.Tests.{eq-eqb, ne_eqb}
use lib.Dec.{eqb}
use lib.ListN.{length}
use Rattle.arrays.specs.Base.{when◌then◌else◌}
use Rattle.arrays.proofs.Base.{cases, clash, both, if-elim}
use Rattle.arrays.proofs.Laws.{all_cons}
use Rattle.wire.specs.Buffers.{all_zero}
use Rattle.wire.specs.Rules.{Rule, breach, BreaksAt, zero_rules}
use Rattle.wire.proofs.Zeros.{all-zero-first, all-zero-rest}

-- ---- rules that hold, and the first that breaks

-- every rule holds
abbrev pub AllHold : List Rule → Type 0
AllHold [] = Unit
AllHold (r ∷ rs) = (r.holds ≡ true) × AllHold rs

-- every rule points below m
abbrev pub Under : ℕ → List Rule → Type 0
Under m [] = Unit
Under m (r ∷ rs) = (r.at < m) × Under m rs

-- every rule points below n, where those before it hold
abbrev pub Guarded : ℕ → List Rule → Type 0
Guarded n [] = Unit
Guarded n (r ∷ rs) = (r.at < n) × (r.holds ≡ true → Guarded n rs)

-- where no rule below m breaks, all hold
pub kept : (rs : List Rule) (top m : ℕ) → Under m rs → m ≤ breach rs top → AllHold rs
kept [] top m u l = tt
kept (r ∷ rs) top m u l =
    if-elim (λ (x : ℕ). m ≤ x → (r.holds ≡ true) × AllHold rs) r.holds (λ e k. (e, kept rs top m u.1 k)) (λ e k. absurd (not-le_of_lt u.0 k)) l

-- where all hold, none breaks
pub none : (rs : List Rule) (top : ℕ) → AllHold rs → breach rs top ≡ top
none [] top h = refl
none (r ∷ rs) top h = rw h.0 (none rs top h.1)

-- the first breach lies below n
pub guarded : (rs : List Rule) (top n : ℕ) → Guarded n rs → (breach rs top < n) ⊎ (breach rs top ≡ top)
guarded [] top n g = inr refl
guarded (r ∷ rs) top n g = if-elim (λ (x : ℕ). (x < n) ⊎ (x ≡ top)) r.holds (λ e. guarded rs top n (g.1 e)) (λ e. inl g.0)

-- a breach of the first rules is that of all
pub low : (xs ys : List Rule) (top m q : ℕ) → q ≡ breach xs m → q < m → breach (xs ++ ys) top ≡ q
low [] ys top m q e l = absurd (omega arith)
low (r ∷ xs) ys top m q e l = cases r.holds (λ t. rw t (low xs ys top m q (rw t at e) l)) (λ t. rw t (sym (rw t at e)))

-- rules that hold decide nothing
all_first : (xs ys : List Rule) (top : ℕ) → AllHold xs → breach (xs ++ ys) top ≡ breach ys top
all_first [] ys top h = refl
all_first (r ∷ xs) ys top h = rw h.0 (all_first xs ys top h.1)

-- where the first rules hold, the others decide
pub high : (xs ys : List Rule) (top m q : ℕ) → Under m xs → q ≡ breach xs m → m ≤ q → breach (xs ++ ys) top ≡ breach ys top
high xs ys top m q u e l = all_first xs ys top (kept xs m m u (rw (← e) l))

-- where no rule below m breaks, none of the last does
pub rest : (xs ys : List Rule) (top m : ℕ) → Under m xs → m ≤ breach (xs ++ ys) top → m ≤ breach ys top
rest [] ys top m u l = l
rest (r ∷ xs) ys top m u l =
    if-elim (λ (x : ℕ). m ≤ x → m ≤ breach ys top) r.holds (λ e k. rest xs ys top m u.1 k) (λ e k. absurd (not-le_of_lt u.0 k)) l

-- so they point below any more
pub under_more : (xs : List Rule) (m n : ℕ) → m ≤ n → Under m xs → Under n xs
under_more [] m n l u = tt
under_more (r ∷ xs) m n l u = (omega arith, under_more xs m n l u.1)

-- ---- two lists joined

-- both point below m
pub under-append : (xs ys : List Rule) (m : ℕ) → Under m xs → Under m ys → Under m (xs ++ ys)
under-append [] ys m u v = v
under-append (r ∷ xs) ys m u v = (u.0, under-append xs ys m u.1 v)

-- both hold
pub hold-append : (xs ys : List Rule) → AllHold xs → AllHold ys → AllHold (xs ++ ys)
hold-append [] ys h k = k
hold-append (r ∷ xs) ys h k = (h.0, hold-append xs ys h.1 k)

-- ---- the lowest byte

-- the rules stand in the order of their bytes, from byte m on
abbrev pub Sorted : ℕ → List Rule → Type 0
Sorted m [] = Unit
Sorted m (r ∷ rs) = (m ≤ r.at) × Sorted r.at rs

-- a rule that breaks points to no byte before the first
above : (rs : List Rule) (m i : ℕ) → Sorted m rs → BreaksAt i rs → m ≤ i
above [] m i s b = absurd b
above (r ∷ rs) m i s b = ⊎_elim (λ h. subst (λ (k : ℕ). m ≤ k) h.0 s.0) (λ h. le_trans s.0 (above rs r.at i s.1 h)) b

-- no rule breaks at a lower byte than the breach
pub lowest : (rs : List Rule) (top m i : ℕ) → Sorted m rs → BreaksAt i rs → breach rs top ≤ i
lowest [] top m i s b = absurd b
lowest (r ∷ rs) top m i s b =
    if-elim (λ (x : ℕ). x ≤ i) r.holds (λ e. ⊎_elim (λ h. clash e h.1) (λ h. lowest rs top r.at i s.1 h) b)
    (λ e. above (r ∷ rs) r.at i (le_refl r.at, s.1) b)

-- and a rule breaks there, or none does
pub breaks : (rs : List Rule) (top : ℕ) → (breach rs top ≡ top) ⊎ BreaksAt (breach rs top) rs
breaks [] top = inl refl
breaks (r ∷ rs) top =
    if-elim (λ (x : ℕ). (x ≡ top) ⊎ (((r.at ≡ x) × (r.holds ≡ false)) ⊎ BreaksAt x rs)) r.holds (λ e. ⊎_elim inl (λ h. inr (inr h)) (breaks rs top))
    (λ e. inr (inl (refl, e)))

-- in order from a byte on, and so from an earlier one
pub sorted-from : (rs : List Rule) (m n : ℕ) → m ≤ n → Sorted n rs → Sorted m rs
sorted-from [] m n l s = tt
sorted-from (r ∷ rs) m n l s = (omega arith, s.1)

-- the bytes of the second list come after those of the first
pub sorted-append : (xs ys : List Rule) (m n : ℕ) → Sorted m xs → Under n xs → m ≤ n → Sorted n ys → Sorted m (xs ++ ys)
sorted-append [] ys m n s u l t = sorted-from ys m n l t
sorted-append (r ∷ xs) ys m n s u l t = (s.0, sorted-append xs ys r.at n s.1 u.1 (omega arith) t)

-- ---- the rules of one byte

-- the rules that point to byte i hold
abbrev pub held_at : ℕ → List Rule → Bool
held_at i [] = true
held_at i (r ∷ rules) = when eqb r.at i then r.holds && held_at i rules else held_at i rules

-- they do where all rules hold
pub held-at : (i : ℕ) (rules : List Rule) → AllHold rules → held_at i rules ≡ true
held-at i [] h = refl
held-at i (r ∷ rules) h =
    if-elim (λ (b : Bool). b ≡ true) (eqb r.at i) (λ e. both r.holds (held_at i rules) h.0 (held-at i rules h.1)) (λ e. held-at i rules h.1)

-- and where all point to later bytes
pub held-later : (i m : ℕ) (rules : List Rule) → i < m → Sorted m rules → held_at i rules ≡ true
held-later i m [] l s = refl
held-later i m (r ∷ rules) l s = rw (ne_eqb r.at i (λ e. omega arith)) (held-later i r.at rules (omega arith) s.1)

-- but not where one breaks there
pub broken-at : (i : ℕ) (rules : List Rule) → BreaksAt i rules → held_at i rules ≡ false
broken-at i [] b = absurd b
broken-at i (r ∷ rules) b =
    if-elim (λ (x : Bool). x ≡ false) (eqb r.at i)
    (λ e. cases r.holds (λ t. rw t (⊎_elim (λ h. clash t h.1) (λ h. broken-at i rules h) b)) (λ t. rw t refl))
    (λ e. ⊎_elim (λ h. clash (eq-eqb r.at i h.0) e) (λ h. broken-at i rules h) b)

-- ---- bytes that are zero

-- they point below the byte after the last
pub zeros-under : (i : ℕ) (bytes : List ℕ) → Under (i + length bytes) (zero_rules i bytes)
zeros-under i [] = tt
zeros-under i (b ∷ bytes) =
    let more : suc i + length bytes ≡ i + length (b ∷ bytes) = omega arith in
    (omega arith, subst (λ (n : ℕ). Under n (zero_rules (suc i) bytes)) more (zeros-under (suc i) bytes))

-- and stand in order
pub zeros-sorted : (m i : ℕ) (bytes : List ℕ) → m ≤ i → Sorted m (zero_rules i bytes)
zeros-sorted m i [] h = tt
zeros-sorted m i (b ∷ bytes) h = (h, zeros-sorted i (suc i) bytes (omega arith))

-- all hold where all bytes are zero
pub zeros-hold : (i : ℕ) (bytes : List ℕ) → all_zero bytes ≡ true → AllHold (zero_rules i bytes)
zeros-hold i [] e = tt
zeros-hold i (b ∷ bytes) e = (eq-eqb b 0 (all-zero-first b bytes e), zeros-hold (suc i) bytes (all-zero-rest b bytes e))

-- and only there
pub hold-zeros : (i : ℕ) (bytes : List ℕ) → AllHold (zero_rules i bytes) → all_zero bytes ≡ true
hold-zeros i [] h = refl
hold-zeros i (b ∷ bytes) h = all_cons (λ (x : ℕ). eqb x 0) b bytes ∙ both (eqb b 0) (all_zero bytes) h.0 (hold-zeros (suc i) bytes h.1)
