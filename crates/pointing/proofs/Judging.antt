-- How an answer is judged: by the page's length, by the first rule that breaks, or by all that hold.
-- Assumes nothing.
use mathlib.Core.Path.{◌≡◌, sym, ap, ◌∙◌}
use mathlib.Core.Logic.{⊎_elim}
use mathlib.Core.List.{List}
use Prim.Native.Nat.{ℕ, ◌^◌, ◌<◌}
use native.Mathlib.Omega.{arith}
use lib.ListN.{length}
use Rattle.wire.specs.Rules.{Rule, Lowest}
use Rattle.wire.proofs.Rules.{AllHold}
use Rattle.wire.proofs.Lowest.{hold-none, Same, lowest-same, lowest-one, same_back}
use Rattle.answer.specs.Answers.{number_of, faulty_byte_of}
use Rattle.answer.specs.declared.Answer.{Answer}
use Rattle.answer.specs.declared.Answer.TheVariants.{Done, PageLengthWrong, FieldWrong, FifthSupplementalKey, NoPlaceForLocal}
use Rattle.answer.proofs.Numbers.{differ}
use Rattle.pointing.specs.Judged.{Taken, Judged}

-- an answer other than 0, 9 and 10 is none of them
none_of : {C : Type 0} {a : Answer} (x : Answer) → (number_of x ≡ 0 → ⊥) → (number_of x ≡ 9 → ⊥) → (number_of x ≡ 10 → ⊥) → a ≡ x → Taken a → C
none_of x n m k e t =
    ⊎_elim (λ d. differ x Done n e d) (⊎_elim (λ d. differ x FifthSupplementalKey m e d) (λ d. differ x NoPlaceForLocal k e d)) t

module _ (asked : Type 0) (rules : List Rule) (p : List ℕ) (a : Answer) where
  -- a wrong length
  pub judged-short : (asked → ⊥) → a ≡ PageLengthWrong → Judged asked rules p a
  judged-short t e = record {
    lowest = λ b w. differ PageLengthWrong (FieldWrong b) (λ z. omega arith) e w;
    within = λ b w. differ PageLengthWrong (FieldWrong b) (λ z. omega arith) e w;
    fits = λ b w. differ PageLengthWrong (FieldWrong b) (λ z. omega arith) e w;
    told = λ b f l. absurd (t f);
    none = λ d i b. none_of PageLengthWrong (λ z. omega arith) (λ z. omega arith) (λ z. omega arith) e d;
    right = λ f h. absurd (t f);
  }

  -- a rule that breaks
  pub judged-wrong : (b : ℕ) → Lowest b rules → b < length p → b < 2 ^ 16 → a ≡ FieldWrong b → Judged asked rules p a
  judged-wrong b l before small e = record {
    lowest = λ c w. rw (← same c w) l;
    within = λ c w. rw (← same c w) before;
    fits = λ c w. rw (← same c w) small;
    told = λ c f m. e ∙ ap FieldWrong (lowest-one b c rules l m);
    none = λ d i x. none_of (FieldWrong b) (λ z. omega arith) (λ z. omega arith) (λ z. omega arith) e d;
    right = λ f h. absurd (h b l.broken);
  } where
    same : (c : ℕ) → a ≡ FieldWrong c → b ≡ c
    same c w = ap faulty_byte_of (sym e ∙ w)

  -- rules that hold
  pub judged-right : AllHold rules → Taken a → Judged asked rules p a
  judged-right h t = record {
    lowest = λ b w. none_of (FieldWrong b) (λ z. omega arith) (λ z. omega arith) (λ z. omega arith) w t;
    within = λ b w. none_of (FieldWrong b) (λ z. omega arith) (λ z. omega arith) (λ z. omega arith) w t;
    fits = λ b w. none_of (FieldWrong b) (λ z. omega arith) (λ z. omega arith) (λ z. omega arith) w t;
    told = λ b f l. absurd (hold-none rules b h l.broken);
    none = λ d i b. hold-none rules i h b;
    right = λ f n. t;
  }

-- the same rules in another order
pub judged-same : {asked : Type 0} {xs ys : List Rule} {p : List ℕ} {a : Answer} → Same xs ys → Judged asked xs p a → Judged asked ys p a
judged-same s j = record {
  lowest = λ b w. lowest-same b s (j.lowest b w);
  within = j.within;
  fits = j.fits;
  told = λ b f l. j.told b f (lowest-same b (same_back s) l);
  none = λ d i b. j.none d i (s.from i b);
  right = λ f h. j.right f (λ i b. h i (s.to i b));
}
