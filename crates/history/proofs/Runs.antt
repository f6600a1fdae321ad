-- Sequences of calls: what holds of the numbers, and that the history read without numbers is the history as it ran.
-- Assumes nothing.
use Prim.Native.Nat.{ℕ, ◌+◌, ◌≤◌, ◌<◌, ◌^◌}
use mathlib.Core.Bool.{true, false}
use mathlib.Core.List.{List, [], ◌∷◌, ◌++◌, append_assoc}
use mathlib.Core.Path.{◌≡◌, refl, ◌∙◌, ap, ap₂}
use native.Mathlib.Omega.{arith}
use lib.ListN.{length}
use Rattle.arrays.proofs.Base.{cases, clash}
use Rattle.device.specs.Record.{State, power_on}
use Rattle.places.specs.Actions.{Action}
use Rattle.places.proofs.Lengths.{SameSize, size-stays, size-then, power-places}
use Rattle.drive.specs.Calls.{Call}
use Rattle.drive.specs.Effects.{Effect, nothing, marks, takes, clears, releasing, restarts, effect}
use Rattle.drive.specs.After.{actions_of, by_number, actions, after}
use Rattle.drive.specs.Runs.{run_from, run}
use Rattle.drive.proofs.Effects.{is_restart, restart-is, effect-size}
use Rattle.history.specs.History.{Did, did, ran_from, Bare, bare, full, reads, read_from, read_to, reading, Low, drew_of, drew_from, drew}
use Rattle.history.proofs.Numbers.{Fits, Sound, power-sound, anew, effect-sound, effect-counter}
use Rattle.history.proofs.Bare.{read_step, read-did}

-- ---- one sequence after another

-- the record
pub run-append : (a b : List Call) (s : State) → run_from s (a ++ b) ≡ run_from (run_from s a) b
unfolding run_from
run-append [] b s = refl
run-append (c ∷ a) b s = run-append a b (after s c)

-- the history
pub ran_append : (a b : List Call) (s : State) → ran_from s (a ++ b) ≡ ran_from s a ++ ran_from (run_from s a) b
unfolding run_from ran_from
ran_append [] b s = refl
ran_append (c ∷ a) b s = ap {B = List Did} (did s c (after s c) ∷◌) (ran_append a b (after s c))

-- the history read without numbers
pub read-append : (a b : List Call) (x : Bare) → read_from x (a ++ b) ≡ read_from x a ++ read_from (read_to x a) b
unfolding read_from read_to
read-append [] b x = refl
read-append (c ∷ a) b x = ap {B = List Did} (did (full x) c (full (reads x c)) ∷◌) (read-append a b (reads x c))

-- as many nexuses and places as before
pub run-size : (l : List Call) (s : State) → SameSize s (run_from s l)
unfolding run_from
run-size [] s = size-stays s
run-size (c ∷ l) s = size-then (effect-size by_number s (effect s c)) (run-size l (after s c))

-- ---- calls whose draws never wrap

-- power-on draws none and starts anew
pub drew-anew : (k : ℕ) (l : List Action) (e : Effect) → is_restart e ≡ true → drew_of k l e ≡ 0
drew-anew k l e t = ap (drew_of k l) (restart-is e t)

-- any other effect draws a number for each action
pub drew-more : (k : ℕ) (l : List Action) (e : Effect) → is_restart e ≡ false → drew_of k l e ≡ k + length l
drew-more k l nothing f = refl
drew-more k l (marks n change) f = refl
drew-more k l (takes n page) f = refl
drew-more k l clears f = refl
drew-more k l (releasing event) f = refl
drew-more k l restarts f = clash refl f

-- where k numbers are drawn already, none of the calls' draws wraps
abbrev pub Calm : ℕ → State → List Call → Type 0
Calm k s l = (before later : List Call) → l ≡ before ++ later → drew_from k s before < 2 ^ 32

-- and the counter is not above that
pub record Steady (k : ℕ) (s : State) (l : List Call) : Type 0 where
  pub counter : s.counter ≤ k
  pub calm : Calm k s l

module _ (k : ℕ) (s : State) (call : Call) (later : List Call) (f : Steady k s (call ∷ later)) where
  -- the first call's draws stay below the wrap
  pub one : Fits s (length (actions s call))
  unfolding drew_from actions_of
  one =
      cases (is_restart (effect s call))
      (λ t. omega (arith, f.counter, f.calm [] (call ∷ later) refl, ap (λ e. length (actions_of s e)) (restart-is (effect s call) t)))
      (λ o. omega (arith, f.counter, f.calm (call ∷ []) later refl, drew-more k (actions s call) (effect s call) o))

  -- and the others' after it
  pub rest : Steady (drew_of k (actions s call) (effect s call)) (after s call) later
  unfolding drew_from power_on
  rest = record {
    counter =
        cases (is_restart (effect s call))
        (λ t. omega (arith, ap (λ (x : State). x.counter) (anew by_number s (effect s call) t)))
        (λ o. omega (arith, f.counter, effect-counter by_number s (effect s call) one o, drew-more k (actions s call) (effect s call) o));
    calm = λ before more e. f.calm (call ∷ before) more (ap {B = List Call} (call ∷◌) e);
  }

-- the first of the calls
pub steady-first : (a b : List Call) (k : ℕ) (s : State) → Steady k s (a ++ b) → Steady k s a
steady-first a b k s f = record {
  counter = f.counter;
  calm = λ before later e. f.calm before (later ++ b) (ap (λ l. l ++ b) e ∙ append_assoc before later b);
}

-- and the others
pub steady-later : (a b : List Call) (k : ℕ) (s : State) → Steady k s (a ++ b) → Steady (drew_from k s a) (run_from s a) b
unfolding run_from drew_from
steady-later [] b k s f = f
steady-later (c ∷ a) b k s f = steady-later a b (drew_of k (actions s c) (effect s c)) (after s c) (rest k s c (a ++ b) f)

-- such calls keep the numbers sound
pub run_sound : (l : List Call) (k : ℕ) (s : State) → Steady k s l → Sound s → Sound (run_from s l)
unfolding run_from
run_sound [] k s f h = h
run_sound (c ∷ l) k s f h =
    run_sound l (drew_of k (actions s c) (effect s c)) (after s c) (rest k s c l f) (effect-sound by_number s (effect s c) (one k s c l f) h)

-- since power-on
pub power-steady : (nexuses places : ℕ) (calls : List Call) → Calm 0 (power_on nexuses places) calls → Steady 0 (power_on nexuses places) calls
unfolding power_on
power-steady nexuses places calls calm = record { counter = omega arith; calm = calm }

-- ---- the reading

-- calls whose draws never wrap are read to do what they did, and to leave the record that they left with its numbers left out
read-ran : (l : List Call) (k : ℕ) (s : State) → 0 < length s.sets → Sound s → Steady k s l → (read_from (bare s) l ≡ ran_from s l) × (read_to (bare s) l ≡ bare (run_from s l))
unfolding read_from ran_from read_to run_from
read-ran [] k s some h f = (refl, refl)
read-ran (c ∷ l) k s some h f =
    let fits : Fits s (length (actions s c)) = one k s c l f in
    let low : Low s (length (actions s c)) = record { some = some; low = h.low; fits = fits } in
    let more = read-ran l (drew_of k (actions s c) (effect s c)) (after s c) (rw (effect-size by_number s (effect s c)).places some) (effect-sound by_number s (effect s c) fits h) (rest k s c l f) in (
      ap₂ {C = List Did} ◌∷◌ (read-did s c low) (ap (λ b. read_from b l) (read_step s c low) ∙ more.0),
      ap (λ b. read_to b l) (read_step s c low) ∙ more.1,
    )

-- Since power-on, of calls whose draws never wrap: the history read without numbers is the history as it ran, call by call, and
-- the record that it leaves is the run's with the numbers left out.
pub reading-is-run : (nexuses places : ℕ) → 0 < places → (calls : List Call) → ((before later : List Call) → calls ≡ before ++ later → drew nexuses places before < 2 ^ 32)
    → (reading nexuses places calls ≡ ran_from (power_on nexuses places) calls) × (read_to (bare (power_on nexuses places)) calls ≡ bare (run nexuses places calls))
reading-is-run nexuses places some calls calm =
    read-ran calls 0 (power_on nexuses places) (rw (power-places nexuses places) some) (power-sound nexuses places) (power-steady nexuses places calls calm)
