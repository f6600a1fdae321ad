-- Words joined by `|`, and what two ways to sort the same elements differ in.
-- Assumes nothing.
use Prim.Native.Nat.{ℕ, zero, suc, ◌<◌}
use mathlib.Core.Path.{◌≡◌, refl, sym, ap, ◌∙◌}
use mathlib.Core.List.{List}
use mathlib.Core.Bool.{Bool, true, false, not, ◌||◌, or-true, or-false}
use native.Mathlib.Omega.{arith}
use borrow.Author.Tests.{eqb-true, eqb-false, eq-eqb, ne_eqb}
use lib.Bits.{bit_or, bit_xor}
use lib.Dec.{eqb}
use Rattle.arrays.specs.Base.{when◌then◌else◌}
use Rattle.arrays.specs.Arrays.{runs, word_of}
use Rattle.arrays.specs.Words.{some_below}
use Rattle.arrays.proofs.Base.{cases, clash, if-same}
use Rattle.arrays.proofs.Algebra.{apart, word-or, word-xor, word_none}

-- words joined one after another: the word of those that pass one of the tests
pub joined : {A : Type 0} (q : ℕ → ℕ → A → Bool) (xs : List A) (v : ℕ → ℕ) (m : ℕ) → ((place : ℕ) → place < m → v place ≡ word_of (q place) xs)
    → runs (λ place w. bit_or w (v place)) m 0 ≡ word_of (λ n x. some_below m (λ place. q place n x)) xs
joined q xs v zero f = sym (word_none xs)
joined q xs v (suc m) f =
    rw (joined q xs v m (λ place h. f place (omega arith)), f m (omega arith)) (word-or (λ n x. some_below m (λ place. q place n x)) (q m) xs)

module _ (p : ℕ → Bool) where
  -- it passes at one
  pub some_at : (m k : ℕ) → k < m → p k ≡ true → some_below m p ≡ true
  some_at zero k h e = absurd (omega arith)
  some_at (suc m) k h e =
      cases (eqb k m)
      (λ t. let same : k ≡ m = eqb-true k m t in rw (← same, e) (or-true (some_below k p)))
      (λ t. let ne : k ≡ m → ⊥ = eqb-false k m t in rw (some_at m k (omega (arith, ne)) e))

  -- it passes at none
  some-none : (m : ℕ) → ((k : ℕ) → k < m → p k ≡ false) → some_below m p ≡ false
  some-none zero f = refl
  some-none (suc m) f = rw (some-none m (λ k h. f k (omega arith)), f m (omega arith))

-- where it passes at one, there is one
pub some-found : {C : Type 0} (p : ℕ → Bool) (m : ℕ) → some_below m p ≡ true → ((k : ℕ) → k < m → p k ≡ true → C) → C
some-found p zero e f = clash e refl
some-found p (suc m) e f =
    cases (p m)
    (λ t. f m (omega arith) t)
    (λ t. some-found p m (sym (or-false (some_below m p)) ∙ ap (λ (b : Bool). some_below m p || b) (sym t) ∙ e) (λ k h. f k (omega arith)))

-- What changes at a place for an element that picked a and picks b: at a new place, that it is in either word; else that it is in one of
-- the two alone.
abbrev pub differs_at : (ℕ → Bool) → ℕ → ℕ → ℕ → Bool
differs_at new a b place = when new place then eqb a place || eqb b place else apart (eqb a place) (eqb b place)

-- something changes at one of the places exactly if the element picks another place or its place is new
pub some-changes : (new : ℕ → Bool) (m a b : ℕ) → a < m → some_below m (differs_at new a b) ≡ (not (eqb a b) || new a)
some-changes new m a b h =
    cases (eqb a b)
    (λ t. rw (← eqb-true a b t, eq-eqb a a refl) (cases (new a)
    (λ u. some_at (differs_at new a a) m a h (rw (u, eq-eqb a a refl)) ∙ sym u)
    (λ u. some-none (differs_at new a a) m (λ k l. cases (eqb a k)
    (λ v. rw (v, ← eqb-true a k v, u))
    (λ v. rw v (if-same (new k) false))) ∙ sym u)))
    (λ t. rw t (some_at (differs_at new a b) m a h (rw (eq-eqb a a refl, ne_eqb b a (λ e. eqb-false a b t (sym e))) (if-same (new a) true))))

-- the same of two words of one list
pub word-changes : {A : Type 0} (new : Bool) (p q : ℕ → A → Bool) (xs : List A) → when new then bit_or (word_of p xs) (word_of q xs) else bit_xor (word_of p xs) (word_of q xs) ≡ word_of (λ k x. when new then p k x || q k x else apart (p k x) (q k x)) xs
word-changes true p q xs = word-or p q xs
word-changes false p q xs = word-xor p q xs
