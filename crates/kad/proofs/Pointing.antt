-- The rules of a descriptor, and of a list of them, in plain relations.
-- Assumes nothing.
use Rattle.std.specs.Prelude.{ℕ, Option, Some, None}
use mathlib.Core.Path.{◌≡◌, refl, ap}
use mathlib.Core.Bool.{false, not}
use mathlib.Core.Logic.{inl, inr, ⊎_elim}
use mathlib.Core.List.{List, [], ◌∷◌}
use Prim.Native.Nat.{ℕ, zero, suc, ◌+◌, ◌-◌, ◌≤◌}
use native.Mathlib.Omega.{arith}
use borrow.Author.Tests.{eqb-true, eqb-false, leb-false, eq-eqb, ne_eqb, lt-leb, not-false}
use lib.Dec.{leb, eqb}
use lib.ListN.{length, drop}
use Rattle.arrays.specs.Base.{Exactly}
use Rattle.arrays.proofs.Base.{cases, clash, exactly-or, exactly-and, exactly-last, exactly-by, exactly-same, not-most, not-below, not_same}
use Rattle.wire.specs.Numbers.{byte_at}
use Rattle.wire.specs.Rules.{Rule, BreaksAt}
use Rattle.wire.proofs.Lowest.{rule-due, breaks-append}
use Rattle.kad.specs.Reading.{type_of, length_of, next_of, most, rising, descriptor_rules}
use Rattle.kad.specs.Rules.{shifted, list_rules}
use Rattle.kad.specs.Pointing.{NotRising, TooLong, DescriptorFault, ListFault}

-- a type that doesn't rise
not-rising : (seen : Option ℕ) (kind : ℕ) → Exactly (rising seen kind ≡ false) (NotRising seen kind)
not-rising None kind = (λ e. clash refl e, λ x. absurd x)
not-rising (Some before) kind = not-below before kind

-- no bytes
no_bytes : (size : ℕ) → Exactly (not (eqb size 0) ≡ false) (size ≡ 0)
no_bytes size = (λ e. eqb-true size 0 (not-false _ e), λ e. ap not (eq-eqb size 0 e))

-- too many
too_long : (kind size : ℕ) → Exactly (leb size (most kind) ≡ false) (TooLong kind size)
too_long kind size = (
  λ e. cases (eqb kind 0) (λ t. inl (eqb-true kind 0 t, leb-false size 32 (rw t at e))) (λ f. inr (eqb-false kind 0 f, leb-false size 12 (rw f at e))),
  ⊎_elim (λ h. rw (eq-eqb kind 0 h.0) (lt-leb size 32 h.1)) (λ h. rw (ne_eqb kind 0 h.0) (lt-leb size 12 h.1)),
)

-- A rule of a descriptor breaks at a byte exactly if the byte is wrong as document 01 says, and 02 points to it.
pub descriptor-due : (s : List ℕ) (seen : Option ℕ) (i : ℕ) → Exactly (BreaksAt i (descriptor_rules s seen)) (DescriptorFault s seen i)
unfolding descriptor_rules
descriptor-due s seen i =
    exactly-or (rule-due i 0 (not-most (type_of s) 1))
    (exactly-or (rule-due i 0 (not-rising seen (type_of s)))
    (exactly-or (rule-due i 0 (not-most 4 (length s)))
    (exactly-or (rule-due i 0 (not-most (next_of s) (length s)))
    (exactly-or (rule-due i 1 (not_same (byte_at s 1) 0))
    (exactly-or (rule-due i 2 (no_bytes (length_of s))) (exactly-last (rule-due i 2 (too_long (type_of s) (length_of s)))))))))

-- ---- a whole list

-- rules that point k bytes further
shifted-to : (i k : ℕ) (rs : List Rule) → BreaksAt i (shifted k rs) → (k ≤ i) × BreaksAt (i - k) rs
shifted-to i k [] b = absurd b
shifted-to i k (r ∷ rs) b =
    ⊎_elim (λ h. let at : k + r.at ≡ i = h.0 in (omega (arith, at), inl (omega (arith, at), h.1)))
    (λ h. let t = shifted-to i k rs h in (t.0, inr t.1)) b

shifted-from : (i k : ℕ) (rs : List Rule) → k ≤ i → BreaksAt (i - k) rs → BreaksAt i (shifted k rs)
shifted-from i k [] l b = absurd b
shifted-from i k (r ∷ rs) l b = ⊎_elim (λ h. let at : r.at ≡ i - k = h.0 in inl (omega (arith, at, l), h.1)) (λ h. inr (shifted-from i k rs l h)) b

-- A rule of a list of descriptors breaks at a byte of the page exactly if the byte is wrong so in one of them.
pub list-faults : (n k : ℕ) (s : List ℕ) (seen : Option ℕ) (i : ℕ) → Exactly (BreaksAt i (list_rules n k s seen)) (ListFault n k s seen i)
unfolding list_rules ListFault
list-faults zero k s seen i = exactly-same
list-faults (suc n) k [] seen i = exactly-same
list-faults (suc n) k (b ∷ s) seen i =
    let l = b ∷ s in
    let rules = descriptor_rules l seen in
    breaks-append i (shifted k rules) (list_rules n (k + next_of l) (drop (next_of l) l) (Some b))
    (exactly-by (shifted-to i k rules, λ h. shifted-from i k rules h.0 h.1) (exactly-and exactly-same (descriptor-due l seen (i - k))))
    (list-faults n (k + next_of l) (drop (next_of l) l) (Some b) i)
