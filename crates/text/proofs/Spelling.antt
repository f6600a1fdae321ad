-- A number's digits written from the last to the first.
-- Assumes nothing.
use Prim.Native.Nat.{ℕ, zero, suc, ◌*◌, ◌-◌, ◌/◌, ◌%◌, ◌^◌, ◌≤◌, ◌<◌}
use mathlib.Core.Path.{◌≡◌, refl, sym, ap, subst, ◌∙◌}
use mathlib.Core.List.{List, [], ◌∷◌, ◌++◌, append_assoc}
use native.Mathlib.Nat.{not-suc-le-zero, le_of_suc-le-suc, pow-suc}
use native.Mathlib.Omega.{arith}
use lib.ListN.{length, drop, set, length-set, length-drop}
use Rattle.text.specs.Decimal.{digit, decimal}
use Rattle.text.proofs.Decimal.{decimal-low, decimal-more}

-- what stands from an index on, once a byte is stored there
drop-set : (l : List ℕ) (k v : ℕ) → k < length l → drop k (set l k v) ≡ v ∷ drop (suc k) l
drop-set [] k v h = absurd (not-suc-le-zero h)
drop-set (x ∷ l) zero v h = refl
drop-set (x ∷ l) (suc k) v h = drop-set l k v (le_of_suc-le-suc h)

-- the invariant: the digits of what is left of n, then those from an index of the text on, are n's; and there is room for them
pub record Spelling (n : ℕ) (text : List ℕ) (from rest : ℕ) : Type 0 where
  pub held : length text ≡ 20
  pub within : from ≤ 20
  pub some : 0 < from
  pub fits : rest < 10 ^ from
  pub spelled : decimal rest ++ drop from text ≡ decimal n

-- ten times as much needs a digit more
tens : (rest from : ℕ) → 0 < from → 10 ≤ rest → rest < 10 ^ from → (1 < from) × (rest / 10 < 10 ^ (from - 1))
tens rest zero some h f = absurd (not-suc-le-zero some)
tens rest (suc zero) some h f = absurd (omega (arith, h, f))
tens rest (suc (suc k)) some h f = let p : 10 ^ suc (suc k) ≡ 10 ^ suc k * 10 = pow-suc 10 (suc k) in
    let e : suc k ≡ suc (suc k) - 1 = omega arith in
    let few : rest / 10 < 10 ^ suc k = omega (arith, p, f) in
    (omega arith, subst (λ j. rest / 10 < 10 ^ j) e few)

module _ {n : ℕ} {text : List ℕ} {from rest : ℕ} (l : Spelling n text from rest) where
  stored : (c : ℕ) → drop (from - 1) (set text (from - 1) c) ≡ c ∷ drop from text
  stored c =
      let e : suc (from - 1) ≡ from = omega (arith, l.some) in
      drop-set text (from - 1) c (omega (arith, l.held, l.within, l.some)) ∙ ap (λ k. c ∷ drop k text) e

  -- one digit more
  pub spell-more : 10 ≤ rest → {c : ℕ} → c ≡ digit (rest % 10) → Spelling n (set text (from - 1) c) (from - 1) (rest / 10)
  spell-more h {c} e =
      let t = tens rest from l.some h l.fits in
      record {
        held = length-set text (from - 1) c ∙ l.held;
        within = omega (arith, l.within);
        some = omega (arith, t.0);
        fits = t.1;
        spelled =
            ap (λ r. decimal (rest / 10) ++ r) (stored c ∙ ap (λ x. x ∷ drop from text) e)
            ∙ sym (append_assoc (decimal (rest / 10)) (digit (rest % 10) ∷ []) (drop from text))
            ∙ ap (λ r. r ++ drop from text) (sym (decimal-more rest h))
            ∙ l.spelled;
      }

  -- the first digit, and the last to be written
  pub spell_last : rest < 10 → {c : ℕ} → c ≡ digit rest → drop (from - 1) (set text (from - 1) c) ≡ decimal n
  spell_last h {c} e = stored c ∙ ap (λ x. x ∷ drop from text) e ∙ ap (λ r. r ++ drop from text) (sym (decimal-low rest h)) ∙ l.spelled

  -- how many there are
  pub spell-length : rest < 10 → {c : ℕ} → c ≡ digit rest → 20 - (from - 1) ≡ length (decimal n)
  spell-length h {c} e =
      let d = ap length (spell_last h e) in
      let s = length-drop (from - 1) (set text (from - 1) c) in
      omega (arith, d, s, length-set text (from - 1) c, l.held)
