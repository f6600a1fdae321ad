-- What actions leave in a place, and so what they did to it.
-- Assumes nothing.
use Rattle.std.specs.Prelude.{ℕ, Option, Some, None}
use Prim.Native.Nat.{ℕ, ◌<◌}
use mathlib.Core.Path.{◌≡◌, refl, sym, ap, subst, ◌∙◌}
use mathlib.Core.Bool.{true, false, not, ◌||◌, or-false}
use mathlib.Core.List.{List, [], ◌∷◌, ◌++◌}
use native.Mathlib.Omega.{arith}
use borrow.Author.Tests.{eqb-true, eq-eqb}
use lib.Dec.{eqb}
use lib.ListN.{length}
use Rattle.arrays.specs.Base.{when◌then◌else◌}
use Rattle.arrays.proofs.Base.{cases, clash, if-true, if-false, if-elim, or-other, or_left_false, or_right_false}
use Rattle.parameters.specs.Codes.{all_scope}
use Rattle.parameters.specs.declared.Fields.{Fields}
use Rattle.device.specs.Record.{State, set_at, empty, used, established}
use Rattle.device.specs.Updates.{numbered}
use Rattle.device.specs.declared.Set.{Set}
use Rattle.places.specs.Actions.{Action, act, acts, releases, release_found, released_by}
use Rattle.places.specs.declared.Event.{Event}
use Rattle.places.proofs.Lengths.{act-size, acts-size}
use Rattle.places.proofs.Releases.{acts-append, releases-elim}
use Rattle.kept.proofs.Near.{act-set-by}
use Rattle.history.specs.History.{hits}
use Rattle.why.specs.declared.Deed.{Deed}
use Rattle.why.specs.declared.Deed.TheVariants.{Untouched, Established, Replaced, Evicted, Released}
use Rattle.why.specs.Touches.{takes_over, deed_of}

-- ---- which actions are on a place

-- one action
pub hit-one : {place k : ℕ} → (eqb place k || false) ≡ true → place ≡ k
hit-one {place = place} {k = k} h = eqb-true place k (sym (or-false (eqb place k)) ∙ h)

-- two actions on one place
pub hit-two : {place k : ℕ} → (eqb place k || (eqb place k || false)) ≡ true → place ≡ k
hit-two {place = place} {k = k} h = cases (eqb place k) (eqb-true place k) (λ f. hit-one (or-other (eqb place k) _ h f))

-- one list of actions, then another
pub hits-append : (place : ℕ) (a b : List Action) → hits place (a ++ b) ≡ (hits place a || hits place b)
unfolding hits
hits-append place [] b = refl
hits-append place (x ∷ a) b = cases (eqb place x.place) (λ t. simp t) (λ f. rw f (hits-append place a b))

-- ---- what a place holds after the actions

-- a place that none of the actions is on holds what it held
pub missed-set : (l : List Action) (s : State) (place : ℕ) → place < length s.sets → hits place l ≡ false → set_at (acts s l) place ≡ set_at s place
unfolding acts hits
missed-set [] s place within h = refl
missed-set (a ∷ l) s place within h =
    missed-set l (act s a) place (rw (act-size s a).places within) (or_right_false (eqb place a.place) _ h)
    ∙ act-set-by s a (λ x. x ≡ set_at s place) place within (λ q. clash (eq-eqb _ _ q) (or_left_false (eqb place a.place) _ h)) (λ f. refl)

-- every action is a release
abbrev pub Releasing : List Action → Type 0
Releasing [] = Unit {0}
Releasing (a ∷ l) = (empty a.contents ≡ true) × Releasing l

-- an event's are
pub event-releasing : (event : Event) (sets : List Set) → Releasing (releases (released_by event) sets)
event-releasing event sets = releases-elim Releasing tt (λ place rest r. (refl, r)) (released_by event) sets

-- and those of a nexus's own place
pub found-releasing : (f : Option ℕ) → Releasing (release_found f)
found-releasing (Some place) = (refl, tt)
found-releasing None = tt

-- they leave a place empty if one of them is on it
pub releasing-empty : (l : List Action) (s : State) (place : ℕ) → Releasing l → place < length s.sets → hits place l ≡ true → empty (set_at (acts s l) place) ≡ true
unfolding acts hits
releasing-empty [] s place r within h = clash h refl
releasing-empty (a ∷ l) s place r within h =
    let within' : place < length (act s a).sets = rw (act-size s a).places within in
    cases (hits place l)
    (releasing-empty l (act s a) place r.1 within')
    (λ f.
    ap empty (missed-set l (act s a) place within' f)
    ∙ act-set-by s a (λ x. empty x ≡ true) place within (λ q. r.0) (λ g. clash h (ap (λ b. b || hits place l) g ∙ f)))

-- the last action's contents stay
pub last_set : (P : Set → Type 0) (l : List Action) (a : Action) (s : State) (place : ℕ) → place < length s.sets → place ≡ a.place → ((number : ℕ) → P (numbered number a.contents)) → P (set_at (acts s (l ++ a ∷ [])) place)
unfolding acts
last_set P l a s place within e p =
    subst (λ (x : State). P (set_at x place)) (sym (acts-append s l (a ∷ [])))
    (act-set-by (acts s l) a P place (rw (acts-size s l).places within) (λ q. p _) (λ f. clash (eq-eqb place a.place e) f))

-- ---- what they did to it

-- releases released it
pub releasing-deed : (old : Set) (l : List Action) (s : State) (place : ℕ) → Releasing l → place < length s.sets → hits place l ≡ true → deed_of old (set_at (acts s l) place) ≡ Released
releasing-deed old l s place r within h = if-true _ _ _ (releasing-empty l s place r within h)

-- an ALL set replaced what it held, or is the first
pub shared-deed : (old : Set) (m number : ℕ) (fields : Fields) → deed_of old (established m all_scope number fields) ≡ when used old then Replaced else Established
shared-deed old m number fields =
    if-elim (λ x. x ≡ when used old then Replaced else Established) (empty old) (λ t. sym (if-false _ _ _ (ap not t))) (λ f. sym (if-true _ _ _ (ap not f)))

-- ---- the deeds told apart

abbrev pub rank : Deed → ℕ
rank Untouched = 0
rank Established = 1
rank Replaced = 2
rank Evicted = 3
rank Released = 4

-- what a place held and holds is never read as untouched
pub deed-some : (old new : Set) → deed_of old new ≡ Untouched → ⊥
deed-some old new e =
    let some : 0 < rank (deed_of old new) =
    if-elim (λ d. 0 < rank d) (empty new) (λ t. omega arith)
    (λ f. if-elim (λ d. 0 < rank d) (empty old) (λ t. omega arith) (λ g. if-elim (λ d. 0 < rank d) (takes_over old new) (λ t. omega arith) (λ h. omega arith))) in
    let none : rank (deed_of old new) ≡ 0 = ap rank e in
    omega (arith, some, none)
