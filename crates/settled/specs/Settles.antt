-- What a promise settles: any two outcomes that meet it are equal, the answer and what the caller lent.
use Rattle.std.specs.Prelude.{◌≡◌, List, ℕ}
use Rattle.std.proofs.Common.{sym, ◌∙◌}
use contract.Lifetimes.{Lfts}
use denote.Triple.Clauses.{AtExit}
use borrow.Fn.Kinds.{ParamKind, ResultKind, Dens, Out, ended_of, res_t}

-- A function's promise, as its source states it, at all arguments. `see` is what of the lent parameters at exit is to be settled.
abbrev pub Settles : (n : ℕ) (ps : List (ParamKind n)) (r : ResultKind n) (B : Type 0) → ((κs : Lfts n) → AtExit (ended_of n ps r) κs → B) → Out n ps r → Type 0
Settles n ps r B see P =
    (κs : Lfts n) (a : Dens κs ps) (x y : (res_t r κs).Denot) (s t : AtExit (ended_of n ps r) κs) → P κs a x s → P κs a y t → (x ≡ y) × (see κs s ≡ see κs t)

-- Nothing was lent but to be read: the answer alone is to be settled.
abbrev pub SettlesAnswer : (n : ℕ) (ps : List (ParamKind n)) (r : ResultKind n) → Out n ps r → Type 0
SettlesAnswer n ps r P = (κs : Lfts n) (a : Dens κs ps) (x y : (res_t r κs).Denot) (s t : AtExit (ended_of n ps r) κs) → P κs a x s → P κs a y t → x ≡ y

-- The answer is a part of what was lent to be read: what it holds is to be settled.
abbrev pub SettlesPart : (n : ℕ) (ps : List (ParamKind n)) (r : ResultKind n) (B : Type 0) → ((κs : Lfts n) → (res_t r κs).Denot → B) → Out n ps r → Type 0
SettlesPart n ps r B see P = (κs : Lfts n) (a : Dens κs ps) (x y : (res_t r κs).Denot) (s t : AtExit (ended_of n ps r) κs) → P κs a x s → P κs a y t → see κs x ≡ see κs y

-- The one law: what equals the same thing is equal.
pub same : {A : Type 0} {x y f : A} → x ≡ f → y ≡ f → x ≡ y
same p q = p ∙ sym q

-- The same of an answer and a lent buffer.
pub both-same : {A B : Type 0} {x y f : A} {s t g : B} → x ≡ f → s ≡ g → y ≡ f → t ≡ g → (x ≡ y) × (s ≡ t)
both-same p q p₂ q₂ = (same p p₂, same q q₂)
