-- Laws of `descriptor_rules` and `listed`.
-- Assumes nothing.
use Rattle.std.specs.Prelude.{ℕ, Option, Some}
use mathlib.Core.Path.{◌≡◌, refl}
use mathlib.Core.Logic.{⊎_elim}
use mathlib.Core.List.{List, [], ◌∷◌}
use Prim.Native.Nat.{ℕ, zero, suc, ◌+◌, ◌<◌, ◌≤◌}
use native.Mathlib.Nat.{not-suc-le-zero}
use native.Mathlib.Omega.{arith}
use lib.Dec.{ltb, eqb}
use lib.ListN.{length, drop, length-drop}
use borrow.Author.Tests.{leb-true, ltb-true, ltb-false}
use Rattle.arrays.proofs.Base.{if-elim}
use Rattle.wire.specs.Rules.{breach}
use Rattle.wire.proofs.Rules.{Under, AllHold, kept, guarded}
use Rattle.kad.specs.Kad.{u_most, with_data}
use Rattle.kad.specs.Reading.{descriptor_head, type_of, length_of, data_of, next_of, most, descriptor_rules, one_step, listed}
use Rattle.kad.specs.declared.Kads.{Kads}
use Rattle.kad.specs.declared.Listed.{Listed}

-- ---- the first descriptor

-- no type has more than 32 bytes
pub most-le : (kind : ℕ) → most kind ≤ u_most
most-le kind = if-elim (λ (n : ℕ). n ≤ u_most) (eqb kind 0) (λ e. omega arith) (λ e. omega arith)

-- a descriptor's rules point below its data
pub rules-under : (s : List ℕ) (seen : Option ℕ) → Under descriptor_head (descriptor_rules s seen)
unfolding descriptor_rules
rules-under s seen = omega arith

-- a descriptor without a fault keeps every rule
pub rules-hold : (s : List ℕ) (seen : Option ℕ) → descriptor_head ≤ breach (descriptor_rules s seen) descriptor_head → AllHold (descriptor_rules s seen)
rules-hold s seen l = kept (descriptor_rules s seen) descriptor_head descriptor_head (rules-under s seen) l

-- so it lies within the list, and its data has room
pub room : (s : List ℕ) (seen : Option ℕ) → descriptor_head ≤ breach (descriptor_rules s seen) descriptor_head → (next_of s ≤ length s) × (length_of s ≤ most (type_of s))
unfolding descriptor_rules
room s seen l =
    let all = rules-hold s seen l in
    (leb-true _ _ all.1.1.1.0, leb-true _ _ all.1.1.1.1.1.1.0)

-- a fault lies within the list
pub fault-lt : (s : List ℕ) (seen : Option ℕ) → 0 < length s → breach (descriptor_rules s seen) descriptor_head < descriptor_head → breach (descriptor_rules s seen) descriptor_head < length s
unfolding descriptor_rules
fault-lt s seen l b =
    ⊎_elim (λ p. p) (λ p. absurd (omega arith))
    (guarded (descriptor_rules s seen) descriptor_head (length s) (l, λ _. (l, λ _. (l, λ e. let four = leb-true 4 (length s) e in (l, λ _. (omega arith, λ _. (omega arith, λ _. (omega arith, λ _. tt))))))))

-- ---- the whole list

-- a reader of lists
abbrev Reader : Type 0
Reader = List ℕ → Option ℕ → Kads → Listed

-- `one_step` asks its reader of shorter lists alone
step_same : (f g : Reader) (s : List ℕ) (seen : Option ℕ) (k : Kads) → 0 < length s → ((t : List ℕ) (seen : Option ℕ) (k : Kads) → length t < length s → f t seen k ≡ g t seen k) → one_step f s seen k ≡ one_step g s seen k
step_same f g s seen k l e =
    rw (e (drop (next_of s) s) (Some (type_of s)) (with_data k (type_of s) (data_of s)) (simp length-drop (omega arith))) refl

-- n bytes are enough for a list of at most n
pub enough : (n m : ℕ) (s : List ℕ) (seen : Option ℕ) (k : Kads) → length s ≤ n → length s ≤ m → listed n s seen k ≡ listed m s seen k
unfolding listed
enough zero zero s seen k p q = refl
enough zero (suc m) [] seen k p q = refl
enough (suc n) zero [] seen k p q = refl
enough zero (suc m) (b ∷ s) seen k p q = absurd (not-suc-le-zero p)
enough (suc n) zero (b ∷ s) seen k p q = absurd (not-suc-le-zero q)
enough (suc n) (suc m) [] seen k p q = refl
enough (suc n) (suc m) (b ∷ s) seen k p q =
    step_same (listed n) (listed m) (b ∷ s) seen k (omega arith) (λ t seen k l. enough n m t seen k (omega arith) (omega arith))

-- the reader at a list's own length
abbrev pub reading : List ℕ → Option ℕ → Kads → Listed
reading s seen k = listed (length s) s seen k

-- of an empty list
pub reading-nil : (s : List ℕ) (seen : Option ℕ) (k : Kads) → length s ≡ 0 → reading s seen k ≡ record { good = 0; kads = k }
unfolding listed
reading-nil [] seen k e = refl
reading-nil (b ∷ s) seen k e = absurd (omega arith)

-- and of any other
pub reading-cons : (s : List ℕ) (seen : Option ℕ) (k : Kads) → 0 < length s → reading s seen k ≡ one_step reading s seen k
unfolding listed
reading-cons [] seen k l = absurd (not-suc-le-zero l)
reading-cons (b ∷ s) seen k l =
    step_same (listed (length s)) reading (b ∷ s) seen k l (λ t seen k l. enough (length s) (length t) t seen k (omega arith) (omega arith))

-- the first fault lies within the list, or at its end, where it does so in the rest
step-le : (f : Reader) (s : List ℕ) (seen : Option ℕ) (k : Kads) → 0 < length s → ((t : List ℕ) (seen : Option ℕ) (k : Kads) → length t < length s → (f t seen k).good ≤ length t) → (one_step f s seen k).good ≤ length s
step-le f s seen k l e =
    let fault = breach (descriptor_rules s seen) descriptor_head in
    let t = drop (next_of s) s in
    let rest = f t (Some (type_of s)) (with_data k (type_of s) (data_of s)) in
    let len = length-drop (next_of s) s in
    if-elim (λ (r : Listed). r.good ≤ length s) (ltb fault descriptor_head) {x = record { good = fault; kads = k }} {y = record { good = next_of s + rest.good; kads = rest.kads }}
    (λ b. let lt = fault-lt s seen l (ltb-true _ _ b) in omega arith)
    (λ b. let le = e t (Some (type_of s)) (with_data k (type_of s) (data_of s)) (simp length-drop (omega arith)) in omega (arith, (room s seen (ltb-false _ _ b)).0))

good-le : (n : ℕ) (s : List ℕ) (seen : Option ℕ) (k : Kads) → (listed n s seen k).good ≤ length s
unfolding listed
good-le zero s seen k = omega arith
good-le (suc n) [] seen k = omega arith
good-le (suc n) (b ∷ s) seen k = step-le (listed n) (b ∷ s) seen k (omega arith) (λ t seen k l. good-le n t seen k)

-- no more bytes are good than there are
pub reading-le : (s : List ℕ) (seen : Option ℕ) (k : Kads) → (reading s seen k).good ≤ length s
reading-le s seen k = good-le (length s) s seen k
