-- A sequence of calls cut at its latest power-on.
-- Assumes nothing.
use Prim.Native.Nat.{ℕ, ◌<◌, ◌^◌}
use mathlib.Core.Bool.{true, false}
use mathlib.Core.List.{List, [], ◌∷◌, ◌++◌}
use mathlib.Core.Path.{◌≡◌, refl, ◌∙◌, ap, ap₂, subst, subst₂}
use native.Mathlib.Omega.{arith}
use lib.ListN.{length-map}
use Rattle.arrays.proofs.Base.{cases}
use Rattle.device.specs.Record.{State, power_on}
use Rattle.places.proofs.Lengths.{SameSize, size-stays, size-then, power-places, power-nexuses}
use Rattle.drive.specs.Calls.{Call}
use Rattle.drive.specs.Effects.{Effect, effect}
use Rattle.drive.specs.After.{Telling, carried_out, by_number, actions, after}
use Rattle.drive.specs.Runs.{run_from}
use Rattle.drive.proofs.Effects.{is_restart, restarts-anyway, effect-size}
use Rattle.history.specs.History.{bare_set, bare_nexus, Bare, bare, full_set, full_nexus, full, by_action, reads, read_to, drew_of, drew_from, drew}
use Rattle.history.proofs.Numbers.{anew}
use Rattle.history.proofs.Runs.{Calm, drew-anew, drew-more}

-- the calls up to the latest power-on, and those since: the first leave the record, and what is read of it, as power-on does, and the
-- draws of the others never wrap where the count at the end is below that
pub record Cut (nexuses places : ℕ) (s : State) (b : Bare) (calls : List Call) (k : ℕ) : Type 0 where
  pub before : List Call
  pub since : List Call
  pub parts : calls ≡ before ++ since
  pub ran : run_from s before ≡ power_on nexuses places
  pub read : read_to b before ≡ bare (power_on nexuses places)
  pub calm : k < 2 ^ 32 → Calm 0 (power_on nexuses places) since

-- the record without its numbers is as large
full_size : (s : State) → SameSize s (full (bare s))
unfolding full bare
full_size s = record {
  places = length-map (bare s).sets full_set ∙ length-map s.sets bare_set;
  nexuses = length-map (bare s).nexuses full_nexus ∙ length-map s.nexuses bare_nexus;
}

-- no calls draw nothing
calm-none : (k : ℕ) (s : State) → k < 2 ^ 32 → Calm k s []
unfolding drew_from
calm-none k s h [] later e = h
calm-none k s h (c ∷ before) later e = absurd (let z : ◌≡◌ {A = ℕ} 0 1 = cc in omega arith)

-- a call more, that isn't power-on
calm_more : (k : ℕ) (s : State) (c : Call) (l : List Call) → is_restart (effect s c) ≡ false → Calm (drew_of k (actions s c) (effect s c)) (after s c) l → Calm k s (c ∷ l)
unfolding drew_from
calm_more k s c l f h [] later e = omega (arith, drew-more k (actions s c) (effect s c) f, h [] l refl)
calm_more k s c l f h (d ∷ before) later e =
    let same : c ≡ d = cc in
    let rest : l ≡ before ++ later = cc in
    subst (λ x. drew_from (drew_of k (actions s x) (effect s x)) (after s x) before < 2 ^ 32) same (h before later rest)

module _ (nexuses places : ℕ) where
  -- as large as at power-on
  abbrev Sized : State → Type 0
  Sized s = SameSize (power_on nexuses places) s

  -- power-on makes it anew
  pub restarted : (rule : Telling) (s : State) (e : Effect) → Sized s → is_restart e ≡ true → carried_out rule s e ≡ power_on nexuses places
  restarted rule s e z t = anew rule s e t ∙ ap₂ power_on (z.nexuses ∙ power-nexuses nexuses places) (z.places ∙ power-places nexuses places)

  -- a cut, or no power-on at all
  data Found (s : State) (b : Bare) (calls : List Call) (k : ℕ) : Type 0 where
    none : (drew_from k s calls < 2 ^ 32 → Calm k s calls) → Found s b calls k
    one : Cut nexuses places s b calls (drew_from k s calls) → Found s b calls k

  found : (calls : List Call) (s : State) (b : Bare) (k : ℕ) → Sized s → Sized (full b) → Found s b calls k
  unfolding drew_from run_from read_to reads
  found [] s b k z y = none (calm-none k s)
  found (c ∷ l) s b k z y =
      onward (found l (after s c) (reads b c) (drew_of k (actions s c) (effect s c))
      (size-then z (effect-size by_number s (effect s c)))
      (size-then y (size-then (effect-size by_action (full b) (effect (full b) c)) (full_size (carried_out by_action (full b) (effect (full b) c))))))
    where
      onward : Found (after s c) (reads b c) l (drew_of k (actions s c) (effect s c)) → Found s b (c ∷ l) k
      onward (one x) = one (record {
        before = c ∷ x.before;
        since = x.since;
        parts = ap {B = List Call} (c ∷◌) x.parts;
        ran = x.ran;
        read = x.read;
        calm = x.calm;
      })
      onward (none e) =
          cases (is_restart (effect s c))
          (λ t. one (record {
            before = c ∷ [];
            since = l;
            parts = refl;
            ran = restarted by_number s (effect s c) z t;
            read = ap bare (restarted by_action (full b) (effect (full b) c) y (restarts-anyway (full b) s c ∙ t));
            calm = subst₂ (λ i x. drew_from (drew_of k (actions s c) (effect s c)) (after s c) l < 2 ^ 32 → Calm i x l) (drew-anew k (actions s c) (effect s c) t) (restarted by_number s (effect s c) z t) e;
          }))
          (λ f. none (λ h. calm_more k s c l f (e h)))

  -- every sequence since power-on has one
  pub cut : (calls : List Call) → Cut nexuses places (power_on nexuses places) (bare (power_on nexuses places)) calls (drew nexuses places calls)
  unfolding run_from read_to
  cut calls = choose (found calls (power_on nexuses places) (bare (power_on nexuses places)) 0 (size-stays (power_on nexuses places)) (full_size (power_on nexuses places)))
    where
      choose : Found (power_on nexuses places) (bare (power_on nexuses places)) calls 0 → Cut nexuses places (power_on nexuses places) (bare (power_on nexuses places)) calls (drew nexuses places calls)
      choose (one x) = x
      choose (none e) = record { before = []; since = calls; parts = refl; ran = refl; read = refl; calm = e }
