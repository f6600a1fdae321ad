-- The instance numbers while the counter does not wrap: an action draws one, and the place acted on takes it.
-- Assumes nothing.
use Prim.Native.Nat.{ℕ, zero, suc, ◌+◌, ◌≤◌, ◌<◌, ◌^◌}
use mathlib.Core.Bool.{Bool, true, false, not, ◌&&◌, ◌||◌, or-false}
use mathlib.Core.List.{List, [], ◌∷◌}
use mathlib.Core.Path.{◌≡◌, refl, sym, ◌∙◌, ap}
use native.Mathlib.Omega.{arith}
use lib.Dec.{eqb, ltb}
use lib.ListN.{length, get_or, replicate}
use borrow.Author.Tests.{eqb-true, eq-eqb, ne_eqb, lt-ltb}
use Rattle.arrays.specs.Base.{when◌then◌else◌}
use Rattle.arrays.proofs.Base.{cases, clash, and_left, if-true, if-false, or_left_false, or_right_false}
use Rattle.arrays.proofs.Laws.{get_d_set, read_same}
use Rattle.device.specs.Record.{State, power_on, set_at, no_set, empty_set}
use Rattle.device.specs.Updates.{numbered, with_supplemental}
use Rattle.device.specs.Selecting.{selected}
use Rattle.parameters.specs.declared.Supplemental.{Supplemental}
use Rattle.device.specs.declared.Set.{Set}
use Rattle.device.proofs.Selecting.{selected-within}
use Rattle.marks.specs.Marks.{differs, flagged}
use Rattle.places.specs.Actions.{Action, drawn, act, acts}
use Rattle.places.proofs.Lengths.{act-size}
use Rattle.drive.specs.Effects.{Effect}
use Rattle.drive.specs.After.{actions_of, changed_by, Telling, carried_out}
use Rattle.drive.proofs.Effects.{is_restart, restart-is}
use Rattle.history.specs.History.{hits, place_number, Low}
use Rattle.history.proofs.Left.{changed-same, changed-counter, told_same}

-- that many more draws stay below the wrap
abbrev pub Fits : State → ℕ → Type 0
Fits s k = s.counter + k < 2 ^ 32

-- no number is above the counter, two places never share one that was drawn, and a place that has none was never used
pub record Sound (s : State) : Type 0 where
  pub low : (p : ℕ) → place_number s p ≤ s.counter
  pub apart : (p q : ℕ) → place_number s p ≡ place_number s q → (p ≡ q → ⊥) → place_number s p ≡ 0
  pub born : (p : ℕ) → place_number s p ≡ 0 → (set_at s p).scope ≡ 0

-- ---- actions

module _ (s : State) (a : Action) where
  -- whether the action is on the place
  abbrev pub on : ℕ → Bool
  on place = eqb place a.place && ltb a.place (length s.sets)

  -- the set of a place after the action
  act-set : (place : ℕ) → set_at (act s a) place ≡ when on place then numbered (drawn s.counter) a.contents else set_at s place
  unfolding act
  act-set place = get_d_set s.sets a.place place (numbered (drawn s.counter) a.contents) no_set

  -- elsewhere it stays
  off_set : (place : ℕ) → on place ≡ false → set_at (act s a) place ≡ set_at s place
  off_set place e = act-set place ∙ if-false _ _ _ e

  -- and so does the number
  pub off-number : (place : ℕ) → on place ≡ false → place_number (act s a) place ≡ place_number s place
  off-number place e = ap (λ (x : Set). x.number) (off_set place e)

  module _ (fits : Fits s 1) where
    step : drawn s.counter ≡ suc s.counter
    step = omega arith

    -- the counter steps
    pub act-counter : (act s a).counter ≡ suc s.counter
    unfolding act
    act-counter = step

    -- the place takes the new number
    pub on-number : (place : ℕ) → on place ≡ true → place_number (act s a) place ≡ suc s.counter
    on-number place e = ap (λ (x : Set). x.number) (act-set place ∙ if-true _ _ _ e) ∙ step

    module _ (h : Sound s) where
      low' : (p : ℕ) → place_number (act s a) p ≤ (act s a).counter
      low' p =
          cases (on p)
          (λ e. omega (arith, on-number p e, act-counter))
          (λ e. omega (arith, off-number p e, act-counter, h.low p))

      apart' : (p q : ℕ) → place_number (act s a) p ≡ place_number (act s a) q → (p ≡ q → ⊥) → place_number (act s a) p ≡ 0
      apart' p q e ne =
          cases (on p)
          (λ ep. cases (on q)
          (λ eq. absurd (ne (eqb-true p a.place (and_left _ _ ep) ∙ sym (eqb-true q a.place (and_left _ _ eq)))))
          (λ eq. omega (arith, on-number p ep, off-number q eq, h.low q)))
          (λ ep. cases (on q)
          (λ eq. omega (arith, on-number q eq, off-number p ep, h.low p))
          (λ eq. off-number p ep ∙ h.apart p q (sym (off-number p ep) ∙ e ∙ off-number q eq) ne))

      born' : (p : ℕ) → place_number (act s a) p ≡ 0 → (set_at (act s a) p).scope ≡ 0
      born' p z =
          cases (on p)
          (λ e. omega (arith, on-number p e))
          (λ e. ap (λ (x : Set). x.scope) (off_set p e) ∙ h.born p (sym (off-number p e) ∙ z))

      -- an action keeps what holds of the numbers
      pub act-sound : Sound (act s a)
      act-sound = record { low = low'; apart = apart'; born = born' }

-- so do several
pub acts-sound : (l : List Action) (s : State) → Fits s (length l) → Sound s → Sound (acts s l)
unfolding acts
acts-sound [] s fits h = h
acts-sound (a ∷ l) s fits h =
    let one : Fits s 1 = omega arith in
    acts-sound l (act s a) (omega (arith, act-counter s a one)) (act-sound s a one h)

-- the counter after several actions
acts-counter : (l : List Action) (s : State) → Fits s (length l) → (acts s l).counter ≡ s.counter + length l
unfolding acts
acts-counter [] s fits = omega arith
acts-counter (a ∷ l) s fits =
    let c = act-counter s a (omega arith) in
    omega (arith, c, acts-counter l (act s a) (omega (arith, c)))

-- ---- effects

-- a number that is 0 of the empty set is 0 of every place
blank-set : (g : Set → ℕ) → g (empty_set 0) ≡ 0 → g no_set ≡ 0 → (k place : ℕ) → g (get_or (replicate k (empty_set 0)) place no_set) ≡ 0
blank-set g a b zero place = b
blank-set g a b (suc k) zero = a
blank-set g a b (suc k) (suc place) = blank-set g a b k place

-- at power-on all numbers are 0
pub power-sound : (nexuses places : ℕ) → Sound (power_on nexuses places)
unfolding power_on
power-sound nexuses places =
    let number = blank-set (λ x. x.number) refl refl places in
    record {
      low = λ p. omega (arith, number p);
      apart = λ p q e ne. number p;
      born = λ p e. blank-set (λ x. x.scope) refl refl places p;
    }

-- what holds of the numbers depends on the counter and on each set's number and scope
sound-same : (s t : State) → t.counter ≡ s.counter → ((p : ℕ) → place_number t p ≡ place_number s p) → ((p : ℕ) → (set_at t p).scope ≡ (set_at s p).scope) → Sound s → Sound t
sound-same s t c n o h = record {
  low = λ p. omega (arith, n p, h.low p);
  apart = λ p q e ne. n p ∙ h.apart p q (sym (n p) ∙ e ∙ n q) ne;
  born = λ p z. o p ∙ h.born p (sym (n p) ∙ z);
}

module _ (rule : Telling) (s : State) (e : Effect) where
  -- whatever else than supplemental keys is read of a set is as the effect's actions leave it
  pub left_is : {B : Type 0} (r : Set → B) → ((k : Supplemental) (x : Set) → r (with_supplemental k x) ≡ r x) → is_restart e ≡ false → (p : ℕ) → r (set_at (carried_out rule s e) p) ≡ r (set_at (acts s (actions_of s e)) p)
  unfolding flagged
  left_is r h f p =
      told_same (λ x. r (set_at x p)) (λ differ actor s t. refl) rule s e
      ∙ read_same r (changed_by s e).sets (acts s (actions_of s e)).sets no_set (changed-same r h s e f) p

  -- so is the counter
  counter-is : is_restart e ≡ false → (carried_out rule s e).counter ≡ (acts s (actions_of s e)).counter
  unfolding flagged
  counter-is f = told_same (λ x. x.counter) (λ differ actor s t. refl) rule s e ∙ changed-counter s e f

  -- power-on makes any record anew
  pub anew : is_restart e ≡ true → carried_out rule s e ≡ power_on (length s.nexuses) (length s.sets)
  unfolding carried_out changed_by
  anew t = ap (carried_out rule s) (restart-is e t)

  -- every effect keeps what holds of the numbers
  pub effect-sound : Fits s (length (actions_of s e)) → Sound s → Sound (carried_out rule s e)
  effect-sound fits h =
      cases (is_restart e)
      (λ t. rw (anew t) (power-sound (length s.nexuses) (length s.sets)))
      (λ f. sound-same (acts s (actions_of s e)) (carried_out rule s e) (counter-is f) (left_is (λ x. x.number) (λ k x. refl) f) (left_is (λ x. x.scope) (λ k x. refl) f)
      (acts-sound (actions_of s e) s fits h))

  -- and draws a number for each action
  pub effect-counter : Fits s (length (actions_of s e)) → is_restart e ≡ false → (carried_out rule s e).counter ≡ s.counter + length (actions_of s e)
  effect-counter fits f = counter-is f ∙ acts-counter (actions_of s e) s fits

-- ---- whose number differs

-- a place that no action is on keeps its number
missed : (l : List Action) (s : State) (place : ℕ) → hits place l ≡ false → place_number (acts s l) place ≡ place_number s place
unfolding acts hits
missed [] s place h = refl
missed (a ∷ l) s place h =
    let off : eqb place a.place ≡ false = or_left_false (eqb place a.place) (hits place l) h in
    missed l (act s a) place (or_right_false (eqb place a.place) (hits place l) h) ∙ off-number s a place (simp off)

-- a place that an action is on has a new number
renewed : (l : List Action) (s : State) (place : ℕ) → place < length s.sets → Fits s (length l) → hits place l ≡ true → s.counter < place_number (acts s l) place
unfolding acts hits
renewed [] s place within fits h = clash h refl
renewed (a ∷ l) s place within fits h =
    let one : Fits s 1 = omega arith in
    let c = act-counter s a one in
    cases (hits place l)
    (λ t. let r = renewed l (act s a) place (rw (act-size s a).places within) (omega (arith, c)) t in omega (arith, r, c))
    (λ t.
    let here : eqb place a.place ≡ true = only t in
    omega (arith, missed l (act s a) place t, on-number s a one place (simp (here, there here))))
  where
    only : hits place l ≡ false → eqb place a.place ≡ true
    only t = sym (or-false (eqb place a.place)) ∙ ap (λ b. eqb place a.place || b) (sym t) ∙ h

    there : eqb place a.place ≡ true → ltb a.place (length s.sets) ≡ true
    there e = lt-ltb a.place (length s.sets) (rw (eqb-true place a.place e) at within)

-- so a place's number differs exactly where an action was on it
renumbered : (l : List Action) (s : State) (place : ℕ) → place < length s.sets → Low s (length l) → not (eqb (place_number s place) (place_number (acts s l) place)) ≡ hits place l
renumbered l s place within w =
    cases (hits place l)
    (λ t. ap not (ne_eqb (place_number s place) (place_number (acts s l) place) (λ e. omega (arith, renewed l s place within w.fits t, w.low place, e))) ∙ sym t)
    (λ t. ap not (eq-eqb _ _ (sym (missed l s place t))) ∙ sym t)

-- and what a nexus uses differs exactly where its place does or an action was on it
pub differs-hits : (l : List Action) (s t : State) (n : ℕ) → Low s (length l) → ((place : ℕ) → place_number t place ≡ place_number (acts s l) place)
    → differs s t n ≡ (not (eqb (selected s n) (selected t n)) || hits (selected s n) l)
differs-hits l s t n w same =
    cases (eqb (selected s n) (selected t n))
    (λ e.
    let here : selected t n ≡ selected s n = sym (eqb-true _ _ e) in
    let now : place_number t (selected t n) ≡ place_number (acts s l) (selected s n) = ap (place_number t) here ∙ same (selected s n) in
    ap (λ k. not (eqb (selected s n) (selected t n)) || not (eqb (place_number s (selected s n)) k)) now
    ∙ ap (λ b. not (eqb (selected s n) (selected t n)) || b) (renumbered l s (selected s n) (selected-within s n w.some) w))
    (λ e. simp e)

-- a place has another number after an effect that isn't power-on exactly where an action was on it
pub number-hits : (rule : Telling) (s : State) (e : Effect) (place : ℕ) → place < length s.sets → Low s (length (actions_of s e)) → is_restart e ≡ false
    → not (eqb (place_number s place) (place_number (carried_out rule s e) place)) ≡ hits place (actions_of s e)
number-hits rule s e place within w f =
    ap (λ k. not (eqb (place_number s place) k)) (left_is rule s e (λ x. x.number) (λ k x. refl) f place) ∙ renumbered (actions_of s e) s place within w
