-- Laws of rules tried in turn.
-- Assumes nothing.
use mathlib.Core.Path.{◌≡◌, refl, sym}
use mathlib.Core.List.{List, [], ◌∷◌, ◌++◌}
use Prim.Native.Nat.{ℕ, suc, ◌+◌, ◌<◌}
use native.Mathlib.Omega.{arith}
use native.Mathlib.Numerals.{add-one}
use lib.Dec.{eqb}
use lib.ListN.{length, drop, get_or}
use lib.Seq.{drop-cons}
use Rattle.std.specs.Prelude.{Result, Ok, Err}
use Rattle.std.specs.Result.{IsErrAnd}
use Rattle.std.proofs.lemmas.Result.{err_from_is_err_and}
use Rattle.arrays.proofs.Base.{cases, if-true, if-false}
use mathlib.Core.Bool.{Bool, true, false}
use Rattle.wire.specs.Rules.{Rule, rule, breach, zero_rules}
use Rattle.wire.proofs.Rules.{Under}
use Rattle.answer.specs.declared.Answer.TheVariants.{FieldWrong}
use Rattle.answer.specs.declared.Answer.{Answer}
use Rattle.pointing.specs.Faulted.{faulted}

-- where the first rules hold, the others decide
pub passes : (xs ys : List Rule) → faulted xs ≡ Ok tt → faulted (xs ++ ys) ≡ faulted ys
passes [] ys e = refl
passes (r ∷ xs) ys e = cases r.holds (λ t. rw t (passes xs ys (rw t at e))) (λ t. (cc (rw t at e)))

-- where one of them breaks, it is the first of all
pub stops : (xs ys : List Rule) (a : Answer) → faulted xs ≡ Err a → faulted (xs ++ ys) ≡ Err a
stops [] ys a e = cc
stops (r ∷ xs) ys a e = cases r.holds (λ t. rw t (stops xs ys a (rw t at e))) (λ t. rw t (rw t at e))

-- bytes that are zero, at a loop's index: the byte there is, and the others decide
pub zero_passes : (from i : ℕ) (bytes : List ℕ) → i < length bytes → faulted (rule (from + i) (eqb (get_or bytes i 0) 0) ∷ []) ≡ Ok tt
    → faulted (zero_rules (from + i) (drop i bytes)) ≡ faulted (zero_rules (from + (i + 1)) (drop (i + 1) bytes))
zero_passes from i bytes h e =
    let next : from + (i + 1) ≡ suc (from + i) = omega arith in
    rw (next, add-one i, drop-cons bytes i 0 h) (passes (rule (from + i) (eqb (get_or bytes i 0) 0) ∷ []) (zero_rules (suc (from + i)) (drop (suc i) bytes)) e)

-- ---- the first that breaks, before the page's end

-- a rule that breaks points below n
abbrev pub Within : ℕ → List Rule → Type 0
Within n [] = Unit
Within n (r ∷ rs) = (r.holds ≡ false → r.at < n) × Within n rs

-- as where every rule does
pub within_under : (n : ℕ) (rs : List Rule) → Under n rs → Within n rs
within_under n [] u = tt
within_under n (r ∷ rs) u = (λ _. u.0, within_under n rs u.1)

-- and of two lists joined
pub within-append : (n : ℕ) (xs ys : List Rule) → Within n xs → Within n ys → Within n (xs ++ ys)
within-append n [] ys u v = v
within-append n (r ∷ xs) ys u v = (u.0, within-append n xs ys u.1 v)

-- what is one error is no other
err-same : {r : Result Unit Answer} {a b : Answer} → r ≡ Err a → r ≡ Err b → b ≡ a
err-same d e = cc

-- and no success
err-not-ok : {r : Result Unit Answer} {a : Answer} → r ≡ Err a → r ≡ Ok tt → ⊥
err-not-ok d e = cc

-- the answer carries its byte
pub first-broken : (rs : List Rule) (n : ℕ) (a : Answer) → Within n rs → faulted rs ≡ Err a → (breach rs n < n) × (a ≡ FieldWrong (breach rs n))
first-broken [] n a u e = absurd (cc e)
first-broken (r ∷ rs) n a u e =
    cases r.holds (λ t. rw t (first-broken rs n a u.1 (rw t at e))) (λ t. rw t (u.0 t, err-same refl (rw t at e)))

-- where all hold, none does
pub none-broken : (rs : List Rule) (n : ℕ) → faulted rs ≡ Ok tt → breach rs n ≡ n
none-broken [] n e = refl
none-broken (r ∷ rs) n e = cases r.holds (λ t. rw t (none-broken rs n (rw t at e))) (λ t. absurd (err-not-ok refl (rw t at e)))

-- ---- one rule tried

-- it holds
pub held : (i : ℕ) (b : Bool) → Ok tt ≡ faulted (rule i b ∷ []) → b ≡ true
held i b e = cases b (λ t. t) (λ t. absurd (err-not-ok refl (sym (rw t at e))))

-- or it breaks
pub broken : (i : ℕ) (b : Bool) (a : Answer) → Err a ≡ faulted (rule i b ∷ []) → b ≡ false
broken i b a e = cases b (λ t. absurd (err-not-ok refl (rw t at e))) (λ t. t)

-- and the answer carries its byte
pub broken_is : (i : ℕ) (b : Bool) (a : Answer) → Err a ≡ faulted (rule i b ∷ []) → a ≡ FieldWrong i
broken_is i b a e = cases b (λ t. absurd (err-not-ok refl (rw t at e))) (λ t. err-same refl (rw t at (sym e)))

-- ---- what a `?` passes on

-- the same error
pub left : {T : Type 0} (r : Result T Answer) (a : Answer) → IsErrAnd r (λ y. y ≡ a) → r ≡ Err a
left r a h = let p = err_from_is_err_and r h in rw (p.1, p.2) refl

-- rules tried one after another
pub ruleset tried = (held, broken, if-true, if-false)

-- and lists of them
pub ruleset joined = (passes, stops)
