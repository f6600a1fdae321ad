-- Laws of rules tried in turn.
-- Assumes nothing.
use mathlib.Core.Path.{◌≡◌, refl, sym}
use mathlib.Core.Bool.{Bool, true, false}
use mathlib.Core.List.{List, [], ◌∷◌}
use Prim.Native.Nat.{ℕ, ◌<◌}
use Rattle.std.specs.Prelude.{Result, Ok, Err}
use Rattle.arrays.proofs.Base.{cases, if-true, if-false}
use Rattle.wire.specs.Rules.{Rule, rule, breach}
use Rattle.wire.specs.Tried.{tried}
use Rattle.wire.proofs.Rules.{Under}

-- what is one error is no other
err-same : {r : Result Unit ℕ} {a b : ℕ} → r ≡ Err a → r ≡ Err b → b ≡ a
err-same d e = cc

-- and no success
err-not-ok : {r : Result Unit ℕ} {a : ℕ} → r ≡ Err a → r ≡ Ok tt → ⊥
err-not-ok d e = cc

-- the first that breaks is a breach
pub tried-broken : (rs : List Rule) (n i : ℕ) → Under n rs → tried rs ≡ Err i → (breach rs n ≡ i) × (i < n)
tried-broken [] n i u e = absurd (cc e)
tried-broken (r ∷ rs) n i u e =
    cases r.holds
    (λ t. rw t (tried-broken rs n i u.1 (rw t at e)))
    (λ t. let s : i ≡ r.at = err-same refl (rw t at e) in let r : r.at ≡ i = sym s in rw t (r, rw r at u.0))

-- where all hold, there is none
pub tried-held : (rs : List Rule) (n : ℕ) → tried rs ≡ Ok tt → breach rs n ≡ n
tried-held [] n e = refl
tried-held (r ∷ rs) n e = cases r.holds (λ t. rw t (tried-held rs n (rw t at e))) (λ t. absurd (err-not-ok refl (rw t at e)))

-- one rule tried holds
pub held : (i : ℕ) (b : Bool) → Ok tt ≡ tried (rule i b ∷ []) → b ≡ true
held i b e = cases b (λ t. t) (λ t. absurd (err-not-ok refl (sym (rw t at e))))

-- or it breaks
pub broken : (i : ℕ) (b : Bool) (a : ℕ) → Err a ≡ tried (rule i b ∷ []) → b ≡ false
broken i b a e = cases b (λ t. absurd (err-not-ok refl (rw t at e))) (λ t. t)

-- and the error is its byte
pub broken_is : (i : ℕ) (b : Bool) (a : ℕ) → Err a ≡ tried (rule i b ∷ []) → a ≡ i
broken_is i b a e = cases b (λ t. absurd (err-not-ok refl (rw t at e))) (λ t. err-same refl (rw t at (sym e)))

-- rules tried one after another
pub ruleset in_turn = (held, broken, if-true, if-false)
