-- What the first breach tells of all rules of a page: those before it hold, and where they stand in the order of their bytes it is the lowest.
-- Assumes nothing.
use mathlib.Core.Path.{◌≡◌, refl, sym}
use mathlib.Core.Bool.{Bool, true, false, not}
use mathlib.Core.Logic.{◌⊎◌, inl, inr, ⊎_elim}
use mathlib.Core.List.{List, [], ◌∷◌, ◌++◌}
use Prim.Native.Nat.{ℕ, zero, suc, ◌+◌, ◌<◌, ◌≤◌}
use native.Mathlib.Nat.{le_refl, le_of_eq, le_antisymm, le_of_lt, not-le_of_lt, zero-add}
use native.Mathlib.Omega.{arith}
use borrow.Author.Tests.{eqb-true, eqb-false, ltb-true, ltb-false, le-ltb, eq-eqb, ne_eqb, not-false}
use lib.Dec.{ltb, eqb}
use lib.ListN.{length, take, drop, drop_of_length-le, get_or-eq_default}
use lib.Seq.{drop-cons}
use Rattle.arrays.specs.Base.{Exactly}
use Rattle.arrays.proofs.Base.{cases, clash, exactly-and, or_left_false, or_right_false, if-elim}
use Rattle.wire.specs.Numbers.{byte_at, word_at}
use Rattle.wire.specs.Rules.{length_wrong, RightLength, Rule, breach, BreaksAt, Lowest, zero_rules}
use Rattle.wire.proofs.Rules.{AllHold, Under, Sorted, lowest, breaks, zeros-under}

-- ---- the length

-- a page whose length isn't wrong has its least bytes, and as many as it says
pub right-length : (least : ℕ) (p : List ℕ) → length_wrong least p ≡ false → RightLength least p
right-length least p e =
    let short = ltb (length p) least in
    let other = not (eqb (word_at p 2 + 4) (length p)) in
    (ltb-false _ _ (or_left_false short other e), eqb-true _ _ (not-false _ (or_right_false short other e)))

-- and one that has them isn't of a wrong length
pub length-due : (least : ℕ) (p : List ℕ) → Exactly (length_wrong least p ≡ false) (RightLength least p)
length-due least p = (right-length least p, λ h. rw (le-ltb (length p) least h.0, eq-eqb _ _ h.1) refl)

-- ---- where the first breach lies

-- where no rule below m breaks, the first hold
pub first-hold : (xs ys : List Rule) (top m : ℕ) → Under m xs → m ≤ breach (xs ++ ys) top → AllHold xs
first-hold [] ys top m u l = tt
first-hold (r ∷ xs) ys top m u l =
    if-elim (λ (x : ℕ). m ≤ x → (r.holds ≡ true) × AllHold xs) r.holds (λ e k. (e, first-hold xs ys top m u.1 k)) (λ e k. absurd (not-le_of_lt u.0 k)) l

-- where the rules point below the end, so does the first breach, or it is the end
pub breach-within : (rs : List Rule) (top : ℕ) → Under top rs → breach rs top ≤ top
breach-within [] top u = le_refl top
breach-within (r ∷ rs) top u = if-elim (λ (x : ℕ). x ≤ top) r.holds (λ e. breach-within rs top u.1) (λ e. le_of_lt u.0)

-- where the rules point below m, so does a first breach before the end
pub breach-under : (rs : List Rule) (top m : ℕ) → Under m rs → breach rs top < top → breach rs top < m
breach-under [] top m u l = absurd (omega arith)
breach-under (r ∷ rs) top m u l = if-elim (λ (x : ℕ). x < top → x < m) r.holds (λ e k. breach-under rs top m u.1 k) (λ e k. u.0) l

-- the first byte that is not zero is one of the bytes
pub first-within : (bytes : List ℕ) → breach (zero_rules 0 bytes) (length bytes) ≤ length bytes
first-within bytes = breach-within (zero_rules 0 bytes) (length bytes) (rw zero-add at (zeros-under 0 bytes))

-- ---- the lowest byte

-- the first breach of rules in order, where it lies before the end
pub lowest-of : (rules : List Rule) (top i : ℕ) → Sorted 0 rules → i ≡ breach rules top → i < top → Lowest i rules
lowest-of rules top i s e l = record {
  broken = rw e (⊎_elim (λ t. absurd (omega arith)) (λ b. b) (breaks rules top));
  least = λ j b. rw e (lowest rules top 0 j s b);
}

-- rules that hold break at no byte
pub hold-none : (rules : List Rule) (i : ℕ) → AllHold rules → BreaksAt i rules → ⊥
hold-none [] i h b = b
hold-none (r ∷ rules) i h b = ⊎_elim (λ x. clash h.0 x.1) (λ x. hold-none rules i h.1 x) b

-- there is one lowest byte
pub lowest-one : (i j : ℕ) (rules : List Rule) → Lowest i rules → Lowest j rules → i ≡ j
lowest-one i j rules l m = le_antisymm (l.least j m.broken) (m.least i l.broken)

-- ---- the same rules in another order

-- two lists of rules break at the same bytes
pub record Same (xs ys : List Rule) : Type 0 where
  pub to : (i : ℕ) → BreaksAt i xs → BreaksAt i ys
  pub from : (i : ℕ) → BreaksAt i ys → BreaksAt i xs

-- rules of two lists: a breach of the first's,
pub breaks-left : (i : ℕ) (xs ys : List Rule) → BreaksAt i xs → BreaksAt i (xs ++ ys)
breaks-left i [] ys b = absurd b
breaks-left i (r ∷ xs) ys b = ⊎_elim inl (λ c. inr (breaks-left i xs ys c)) b

-- or of the second's,
pub breaks-right : (i : ℕ) (xs ys : List Rule) → BreaksAt i ys → BreaksAt i (xs ++ ys)
breaks-right i [] ys b = b
breaks-right i (r ∷ xs) ys b = inr (breaks-right i xs ys b)

-- and no other
pub breaks-either : {C : Type 0} (i : ℕ) (xs ys : List Rule) → (BreaksAt i xs → C) → (BreaksAt i ys → C) → BreaksAt i (xs ++ ys) → C
breaks-either i [] ys f g b = g b
breaks-either i (r ∷ xs) ys f g b = ⊎_elim (λ x. f (inl x)) (λ x. breaks-either i xs ys (λ y. f (inr y)) g x) b

-- their lowest byte is the same
pub lowest-same : (i : ℕ) {xs ys : List Rule} → Same xs ys → Lowest i xs → Lowest i ys
lowest-same i s l = record { broken = s.to i l.broken; least = λ j b. l.least j (s.from j b) }

-- the other way round
pub same_back : {xs ys : List Rule} → Same xs ys → Same ys xs
same_back s = record { to = s.from; from = s.to }

-- one after the other
pub same_then : {xs ys zs : List Rule} → Same xs ys → Same ys zs → Same xs zs
same_then s t = record { to = λ i b. t.to i (s.to i b); from = λ i b. s.from i (t.from i b) }

-- two lists, each by its own
pub same-both : (xs ys us vs : List Rule) → Same xs us → Same ys vs → Same (xs ++ ys) (us ++ vs)
same-both xs ys us vs s t = record {
  to = λ i. breaks-either i xs ys (λ x. breaks-left i us vs (s.to i x)) (λ y. breaks-right i us vs (t.to i y));
  from = λ i. breaks-either i us vs (λ x. breaks-left i xs ys (s.from i x)) (λ y. breaks-right i xs ys (t.from i y));
}

pub same_self : (xs : List Rule) → Same xs xs
same_self xs = record { to = λ i b. b; from = λ i b. b }

-- the second
pub same_after : (xs ys zs : List Rule) → Same ys zs → Same (xs ++ ys) (xs ++ zs)
same_after xs ys zs t = same-both xs ys xs zs (same_self xs) t

-- in the other order
swap : (i : ℕ) (xs ys : List Rule) → BreaksAt i (xs ++ ys) → BreaksAt i (ys ++ xs)
swap i xs ys = breaks-either i xs ys (breaks-right i ys xs) (breaks-left i ys xs)

pub same-swap : (xs ys : List Rule) → Same (xs ++ ys) (ys ++ xs)
same-swap xs ys = record { to = λ i. swap i xs ys; from = λ i. swap i ys xs }

-- and before a third
move : (i : ℕ) (xs ys zs : List Rule) → BreaksAt i (xs ++ (ys ++ zs)) → BreaksAt i (ys ++ (xs ++ zs))
move i xs ys zs =
    breaks-either i xs (ys ++ zs) (λ x. breaks-right i ys (xs ++ zs) (breaks-left i xs zs x))
    (breaks-either i ys zs (breaks-left i ys (xs ++ zs)) (λ z. breaks-right i ys (xs ++ zs) (breaks-right i xs zs z)))

pub same_move : (xs ys zs : List Rule) → Same (xs ++ (ys ++ zs)) (ys ++ (xs ++ zs))
same_move xs ys zs = record { to = λ i. move i xs ys zs; from = λ i. move i ys xs zs }

-- ---- rules in plain relations

-- a rule breaks at byte i exactly if it points there and what it asks isn't so
pub rule-due : (i k : ℕ) {b : Bool} {R : Type 0} → Exactly (b ≡ false) R → Exactly ((k ≡ i) × (b ≡ false)) ((i ≡ k) × R)
rule-due i k f = exactly-and (λ e. sym e, λ e. sym e) f

-- of two lists
pub breaks-append : (i : ℕ) (xs ys : List Rule) {A B : Type 0} → Exactly (BreaksAt i xs) A → Exactly (BreaksAt i ys) B → Exactly (BreaksAt i (xs ++ ys)) (A ⊎ B)
breaks-append i xs ys f g =
    (breaks-either i xs ys (λ x. inl (f.0 x)) (λ y. inr (g.0 y)), ⊎_elim (λ a. breaks-left i xs ys (f.1 a)) (λ b. breaks-right i xs ys (g.1 b)))

-- of n bytes from byte k on, each of which is zero: one that isn't
abbrev NotZero : ℕ → ℕ → List ℕ → ℕ → Type 0
NotZero k n p i = (k ≤ i) × ((i < k + n) × (byte_at p i ≡ 0 → ⊥))

zeros-to : (i k n : ℕ) (p : List ℕ) → BreaksAt i (zero_rules k (take n (drop k p))) → NotZero k n p i
zeros-to i k zero p b = absurd b
zeros-to i k (suc n) p b =
    cases (ltb k (length p))
    (λ t.
    let more : BreaksAt i (zero_rules k (byte_at p k ∷ take n (drop (suc k) p))) = rw (drop-cons p k 0 (ltb-true k (length p) t)) at b in
    ⊎_elim (λ h. (le_of_eq h.0, (omega (arith, h.0), rw h.0 at (eqb-false (byte_at p k) 0 h.1))))
    (λ h. let z = zeros-to i (suc k) n p h in (omega (arith, z.0), (omega (arith, z.1.0), z.1.1))) more)
    (λ f. let none : drop k p ≡ [] = drop_of_length-le p {i = k} (ltb-false k (length p) f) in absurd (rw none at b))

zeros-from : (i k n : ℕ) (p : List ℕ) → NotZero k n p i → BreaksAt i (zero_rules k (take n (drop k p)))
zeros-from i k zero p z = absurd (omega (arith, z.0, z.1.0))
zeros-from i k (suc n) p z =
    cases (ltb k (length p))
    (λ t.
    rw (drop-cons p k 0 (ltb-true k (length p) t))
    (cases (eqb k i) (λ e. let same = eqb-true k i e in inl (same, rw (← same) at (ne_eqb (byte_at p i) 0 z.1.1)))
    (λ e. let other = eqb-false k i e in inr (zeros-from i (suc k) n p (omega (arith, z.0), (omega (arith, z.1.0), z.1.1))))))
    (λ f. absurd (z.1.1 (get_or-eq_default p 0 (omega (arith, ltb-false k (length p) f, z.0)))))

pub zeros-due : (i k n : ℕ) (p : List ℕ) → Exactly (BreaksAt i (zero_rules k (take n (drop k p)))) ((k ≤ i) × ((i < k + n) × (byte_at p i ≡ 0 → ⊥)))
zeros-due i k n p = (zeros-to i k n p, zeros-from i k n p)
