-- Actions one after another, and releases made one place at a time.
-- Assumes nothing.
use Prim.Native.Nat.{ℕ, suc, ◌+◌}
use mathlib.Core.Path.{◌≡◌, refl, sym, ap, ◌∙◌}
use mathlib.Core.Bool.{Bool, true, ◌&&◌}
use mathlib.Core.List.{List, [], ◌∷◌, ◌++◌}
use native.Mathlib.Nat.{zero-add, add-zero, add-suc, suc-add}
use native.Mathlib.Omega.{arith}
use borrow.Author.Tests.{not-true}
use lib.Dec.{eqb}
use lib.ListN.{length, drop}
use lib.Seq.{drop-set-lt}
use Rattle.arrays.specs.Base.{when◌then◌else◌}
use Rattle.arrays.specs.Arrays.{fold_from, each, runs}
use Rattle.arrays.proofs.Base.{cases, and_both, if-elim, if-same, if-false}
use Rattle.arrays.proofs.Laws.{get_d-map_from-kept, first-of, rest_of}
use Rattle.device.specs.Record.{State, no_set, new_nexus, set_at, nexus_at}
use Rattle.device.specs.Selecting.{selected}
use Rattle.device.specs.declared.Set.{Set}
use Rattle.places.specs.Actions.{Action, freed, release, act, acts, due, spared, releases, release_step}

-- one list of actions, then another
pub acts-append : (s : State) (a b : List Action) → acts s (a ++ b) ≡ acts (acts s a) b
unfolding acts
acts-append s [] b = refl
acts-append s (x ∷ a) b = acts-append (act s x) a b

-- each nexus is as it was, or freed
pub act-nexus : (s : State) (a : Action) (n : ℕ) → nexus_at (act s a) n ≡ freed s a.place n (nexus_at s n)
unfolding act
act-nexus s a n =
    get_d-map_from-kept (freed s a.place) new_nexus (λ i. if-same (eqb (selected s i) a.place) new_nexus) 0 s.nexuses n
    ∙ ap (λ (i : ℕ). freed s a.place i (nexus_at s n)) (zero-add n)

-- what holds of no action, and stays with one more release before the others, holds of the releases that a test picks
pub releases-elim : (P : List Action → Type 0) → P [] → ((place : ℕ) (rest : List Action) → P rest → P (release place ∷ rest)) → (picked : ℕ → Set → Bool) (l : List Set) → P (releases picked l)
unfolding releases
releases-elim P none more picked l = from l 0
  where
    from : (l : List Set) (k : ℕ) → P (fold_from (λ place set rest. when due picked place set then release place ∷ rest else rest) [] k l)
    from [] k = none
    from (x ∷ l) k = if-elim P (due picked k x) (λ t. more k _ (from l (suc k))) (λ f. from l (suc k))

-- an action on a place leaves the places after it
act-later : (s : State) (a : Action) → drop (suc a.place) (act s a).sets ≡ drop (suc a.place) s.sets
unfolding act
act-later s a = drop-set-lt (suc a.place) s.sets a.place _ (omega arith)

module _ (test : ℕ → Set → Bool) where
  -- the releases of the places that pass a test, from a place on
  abbrev from : ℕ → List Set → List Action
  from = fold_from (λ place set rest. when test place set then release place ∷ rest else rest) []

  -- one place released if its set passes as it stands
  abbrev step : ℕ → State → State
  step place s = when test place (set_at s place) then act s (release place) else s

  -- a step leaves the places after it
  step-later : (k : ℕ) (s : State) → drop (suc k) (step k s).sets ≡ drop (suc k) s.sets
  step-later k s = cases (test k (set_at s k)) (λ t. rw t (act-later s (release k))) (λ t. rw t refl)

  -- a step does what the releases from its place on begin with
  step-first : (k : ℕ) (s : State) (x : Set) (xs : List Set) → set_at s k ≡ x → acts s (from k (x ∷ xs)) ≡ acts (step k s) (from (suc k) xs)
  unfolding acts
  step-first k s x xs e = cases (test k x) (λ t. rw (e, t) refl) (λ t. rw (e, t) refl)

  -- with k steps done, the rest of the places have the sets that they had
  steps-from : (s : State) (xs : List Set) (k : ℕ) → drop k (runs step k s).sets ≡ xs → acts (runs step k s) (from k xs) ≡ runs step (k + length xs) s
  unfolding acts
  steps-from s [] k e = rw add-zero refl
  steps-from s (x ∷ xs) k e =
      let t = runs step k s in
      step-first k t x xs (first-of t.sets k x xs no_set e)
      ∙ steps-from s xs (suc k) (step-later k t ∙ rest_of t.sets k x xs e)
      ∙ ap (λ (n : ℕ). runs step n s) (suc-add k (length xs) ∙ sym (add-suc k (length xs)))

  -- the places that pass at first are those that pass in their turn
  steps_all : (s : State) → acts s (from 0 s.sets) ≡ runs step (length s.sets) s
  steps_all s = rw zero-add at (steps-from s s.sets 0 refl)

-- the releases that a test picks of the sets as they stood are those that it picks place by place
pub releases-run : (picked : ℕ → Set → Bool) (s : State) → acts s (releases picked s.sets) ≡ runs (release_step picked) (length s.sets) s
unfolding releases
releases-run picked s = steps_all (due picked) s

-- where every place is spared nothing is released
module _ (picked : ℕ → Set → Bool) where
  spared-from : (sets : List Set) (k : ℕ) → fold_from (λ place set rest. spared picked place set && rest) true k sets ≡ true → fold_from (λ place set rest. when due picked place set then release place ∷ rest else rest) [] k sets ≡ []
  spared-from [] k e = refl
  spared-from (set ∷ sets) k e =
      let h = and_both (spared picked k set) _ e in
      if-false (due picked k set) _ _ (not-true _ h.0) ∙ spared-from sets (suc k) h.1

  pub spared-none : (sets : List Set) → each (spared picked) sets ≡ true → releases picked sets ≡ []
  unfolding releases
  spared-none sets e = spared-from sets 0 e
