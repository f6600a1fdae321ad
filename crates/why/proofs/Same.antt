-- A session read for one nexus as the code reads it, by the numbers of places, is what the definitions read, which look at none.
-- Assumes nothing.
use Rattle.std.specs.Prelude.{ℕ, Option, Some, None}
use Prim.Native.Nat.{ℕ, suc, ◌+◌, ◌*◌, ◌≤◌, ◌<◌, ◌^◌}
use mathlib.Core.Path.{◌≡◌, refl, sym, ap, ap₂, ◌∙◌}
use mathlib.Core.Bool.{Bool, true, false, not, ◌&&◌}
use mathlib.Core.List.{List, [], ◌∷◌, ◌++◌, append_assoc}
use native.Mathlib.Omega.{arith}
use native.Mathlib.Nat.{mul-le-mul_left}
use lib.Dec.{eqb}
use lib.ListN.{length, take, length-append}
use lib.Seq.{take_at}
use Rattle.arrays.specs.Base.{when◌then◌else◌}
use Rattle.arrays.proofs.Base.{cases, if-true, if-false}
use Rattle.device.specs.Record.{State, power_on, set_at}
use Rattle.device.specs.Selecting.{selected, selected_set}
use Rattle.device.specs.declared.Marks.{Marks}
use Rattle.device.proofs.Selecting.{selected-within}
use Rattle.places.proofs.Lengths.{power-places}
use Rattle.drive.specs.Calls.{Call, write, is_power_up}
use Rattle.drive.specs.Checks.{answer}
use Rattle.drive.specs.Effects.{effect}
use Rattle.drive.specs.After.{by_number, actions_of, actions, after}
use Rattle.drive.specs.Runs.{run_from, run}
use Rattle.drive.proofs.Effects.{restart-is, restarts-power, effect-size}
use Rattle.session.specs.Folds.{fold_calls}
use Rattle.history.specs.History.{hits, accepts, did, ran_from, Low, drew_of, Trail, earlier, followed, trail_over, trail}
use Rattle.history.proofs.Numbers.{Sound, power-sound, effect-sound, number-hits}
use Rattle.history.proofs.Runs.{run-append, Calm, Steady, one, rest, power-steady, reading-is-run}
use Rattle.history.proofs.Draws.{draws-few}
use Rattle.why.specs.declared.Touch.{Touch}
use Rattle.why.specs.declared.Watch.{Watch}
use Rattle.why.specs.Touches.{untouched, touch_by}
use Rattle.why.specs.Causes.{is_raised, raises, before, touch_found, stopper, raised, raiser, cause_by, cause_of}
use Rattle.why.specs.Watching.{renewed, first_noted, watched, unwatched}

-- ---- a call acted on a place exactly if the place has another number

renewed-hits : (s : State) (call : Call) (place : ℕ) → place < length s.sets → Low s (length (actions s call)) → renewed (is_power_up call) s (after s call) place ≡ hits place (actions s call)
unfolding actions_of hits
renewed-hits s call place within w =
    let same = restarts-power s call in
    let differ : Bool = not (eqb (set_at s place).number (set_at (after s call) place).number) in
    cases (is_power_up call)
    (λ t. ap (λ b. not b && differ) t ∙ sym (ap (λ e. hits place (actions_of s e)) (restart-is (effect s call) (same ∙ t))))
    (λ f. ap (λ b. not b && differ) f ∙ number-hits by_number s (effect s call) place within w (same ∙ f))

-- ---- one call more

module _ (nexuses places n : ℕ) where
  -- the place that nexus n used before the call at a position
  abbrev used_at : List Call → ℕ → ℕ
  used_at calls i = selected (before nexuses places calls i) n

  -- the call that comes after these ones: the records before and after it
  module _ (done : List Call) (call : Call) (later : List Call) {calls : List Call} {i : ℕ} {s : State} (parts : calls ≡ done ++ call ∷ later) (counted : length done ≡ i) (here : run nexuses places done ≡ s) where
    pub at_call : before nexuses places calls i ≡ s
    at_call = ap (run nexuses places) (ap (take i) parts ∙ take_at done (call ∷ later) i counted) ∙ here

    past-call : before nexuses places calls (suc i) ≡ after s call
    unfolding run_from
    past-call =
        let split : calls ≡ (done ++ call ∷ []) ++ later = parts ∙ sym (append_assoc done (call ∷ []) later) in
        let long : length (done ++ call ∷ []) ≡ suc i = omega (arith, length-append done (call ∷ []), counted) in
        ap (run nexuses places) (ap (take (suc i)) split ∙ take_at (done ++ call ∷ []) later (suc i) long)
        ∙ run-append done (call ∷ []) (power_on nexuses places)
        ∙ ap (λ t. after t call) here

    -- what it did in a place
    pub touch-here : (place : ℕ → ℕ) → touch_found nexuses places calls (Some i) place ≡ touch_by i s (after s call) (place i)
    touch-here place = ap₂ (λ x y. touch_by i x y (place i)) at_call past-call

    -- a flag that it raises is noted
    flag-noted : (flag : Marks → Bool) (f : Option ℕ) {t : Touch} → t ≡ touch_found nexuses places calls f (used_at calls)
        → (when is_raised flag n s (after s call) then touch_by i s (after s call) (selected s n) else t) ≡ touch_found nexuses places calls (raises flag n i s call f) (used_at calls)
    flag-noted flag f e =
        cases (is_raised flag n s (after s call))
        (λ t. if-true _ _ _ t ∙ sym (touch-here (λ k. selected s n)) ∙ again ∙ ap (λ g. touch_found nexuses places calls g (used_at calls)) (sym (if-true _ _ _ t)))
        (λ t. if-false _ _ _ t ∙ e ∙ ap (λ g. touch_found nexuses places calls g (used_at calls)) (sym (if-false _ _ _ t)))
      where
        again : touch_found nexuses places calls (Some i) (λ k. selected s n) ≡ touch_found nexuses places calls (Some i) (used_at calls)
        again = ap (λ x. touch_by i (before nexuses places calls i) (before nexuses places calls (suc i)) (selected x n)) (sym at_call)

    -- the first call that acts on the place is noted
    first-noted : (left : ℕ) (f : Option ℕ) {t : Touch} {hit : Bool} → t ≡ touch_found nexuses places calls f (λ k. left) → hit ≡ hits left (actions s call)
        → first_noted t hit (touch_by i s (after s call) left) ≡ touch_found nexuses places calls (earlier f (when hits left (actions s call) then Some i else None)) (λ k. left)
    first-noted left (Some j) {hit = hit} e h = ap (λ (x : Touch). first_noted x hit (touch_by i s (after s call) left)) e ∙ if-false (hit && false) _ _ (never hit)
      where
        never : (b : Bool) → (b && false) ≡ false
        never true = refl
        never false = refl
    first-noted left None {hit = hit} e h =
        let hit-now : Bool = hits left (actions s call) in
        ap₂ (λ (x : Touch) (b : Bool). first_noted x b (touch_by i s (after s call) left)) e h
        ∙ either hit-now
      where
        either : (b : Bool) → first_noted untouched b (touch_by i s (after s call) left) ≡ touch_found nexuses places calls (earlier None (when b then Some i else None)) (λ k. left)
        either true = sym (touch-here (λ k. left))
        either false = refl

  -- ---- what is read of a session so far

  record Agrees (calls : List Call) (w : Watch) (t : Trail) (another vendor : Option ℕ) : Type 0 where
    left : w.left ≡ t.left
    first : w.first ≡ touch_found nexuses places calls t.first (λ i. t.left)
    anothers : w.another ≡ touch_found nexuses places calls another (used_at calls)
    vendors : w.vendor ≡ touch_found nexuses places calls vendor (used_at calls)
    inside : t.left < places

  module _ (done : List Call) (call : Call) (later : List Call) {calls : List Call} {i : ℕ} {s : State} (parts : calls ≡ done ++ call ∷ later) (counted : length done ≡ i) (here : run nexuses places done ≡ s)
      (sized : length s.sets ≡ places) (low : Low s (length (actions s call))) {w : Watch} {t : Trail} {another vendor : Option ℕ} (a : Agrees calls w t another vendor) where
    -- after one call more
    agrees-more : Agrees calls (watched n i s call w) (followed n i (did s call (after s call)) t) (raises (λ m. m.another) n i s call another) (raises (λ m. m.vendor) n i s call vendor)
    unfolding watched followed
    agrees-more =
        let raised_another = flag-noted done call later parts counted here (λ m. m.another) another a.anothers in
        let raised_vendor = flag-noted done call later parts counted here (λ m. m.vendor) vendor a.vendors in
        cases (accepts n (effect s call))
        (λ own. rw own (record {
          left = refl;
          first = refl;
          anothers = raised_another;
          vendors = raised_vendor;
          inside = rw (← sized, ← (effect-size by_number s (effect s call)).places) (selected-within (after s call) n (rw ((effect-size by_number s (effect s call)).places, sized) some));
        }))
        (λ other. rw other (record {
          left = a.left;
          first = ap (λ l. first_noted w.first (renewed (is_power_up call) s (after s call) l) (touch_by i s (after s call) l)) a.left
              ∙ first-noted done call later parts counted here t.left t.first a.first (renewed-hits s call t.left (rw sized a.inside) low);
          anothers = raised_another;
          vendors = raised_vendor;
          inside = a.inside;
        }))
      where
        some : 0 < places
        some = omega (arith, a.inside)

  -- and after all that are left
  agrees-all : (later done : List Call) {calls : List Call} (i k : ℕ) (s : State) → calls ≡ done ++ later → length done ≡ i → run nexuses places done ≡ s → length s.sets ≡ places
      → Sound s → Steady k s later → {w : Watch} {t : Trail} {another vendor : Option ℕ} → Agrees calls w t another vendor
      → Agrees calls (fold_calls (watched n) i s later w) (trail_over n i (ran_from s later) t) (fold_calls (raises (λ m. m.another) n) i s later another) (fold_calls (raises (λ m. m.vendor) n) i s later vendor)
  unfolding fold_calls trail_over ran_from
  agrees-all [] done i k s parts counted here sized sound steady a = a
  agrees-all (call ∷ later) done {calls} i k s parts counted here sized sound steady a =
      let fits = one k s call later steady in
      let low : Low s (length (actions s call)) = record { some = omega (arith, sized, a.inside); low = sound.low; fits = fits } in
      agrees-all later (done ++ call ∷ []) (suc i) (drew_of k (actions s call) (effect s call)) (after s call)
      (parts ∙ sym (append_assoc done (call ∷ []) later))
      (omega (arith, length-append done (call ∷ []), counted))
      (ap (run nexuses places) (sym (take_at (done ++ call ∷ []) later (suc i) (omega (arith, length-append done (call ∷ []), counted))) ∙ ap (take (suc i)) (append_assoc done (call ∷ []) later ∙ sym parts)) ∙ past-call done call later parts counted here)
      ((effect-size by_number s (effect s call)).places ∙ sized)
      (effect-sound by_number s (effect s call) fits sound)
      (rest k s call later steady)
      (agrees-more done call later parts counted here sized low a)

-- ---- since power-on

-- so few calls draw no number twice
pub few-calm : (nexuses places : ℕ) (calls : List Call) → (places + 2) * length calls < 2 ^ 32 → Calm 0 (power_on nexuses places) calls
few-calm nexuses places calls few first later e =
    let shorter : length first ≤ length calls = omega (arith, length-append first later, ap length e) in
    omega (arith, draws-few nexuses places first, mul-le-mul_left (places + 2) shorter, few)

-- What the code reads of a session, by the numbers of places, is what the definitions read by actions: the place that the nexus's latest
-- page left it using, the first later call that acted on it, and the calls that raised its flags.
pub watched-is : (nexuses places n : ℕ) → 0 < places → (calls : List Call) → (places + 2) * length calls < 2 ^ 32
    → fold_calls (watched n) 0 (power_on nexuses places) calls unwatched
    ≡ record { left = (trail nexuses places n calls).left; first = stopper nexuses places n calls; another = raiser nexuses places (λ m. m.another) n calls; vendor = raiser nexuses places (λ m. m.vendor) n calls }
unfolding trail stopper raised raiser run_from
watched-is nexuses places n some calls few =
    let start = power_on nexuses places in
    let calm = few-calm nexuses places calls few in
    let unread : Trail = record { left = 0; first = None } in
    let read = ap (λ l. trail_over n 0 l unread) (reading-is-run nexuses places some calls calm).0 in
    let all = agrees-all nexuses places n calls [] 0 0 start refl refl refl (power-places nexuses places) (power-sound nexuses places) (power-steady nexuses places calls calm)
    {w = unwatched} {t = unread} {another = None} {vendor = None} (record { left = refl; first = refl; anothers = refl; vendors = refl; inside = some }) in
    let left = all.left ∙ ap (λ (t : Trail). t.left) (sym read) in
    let first = all.first ∙ ap (λ (t : Trail). touch_found nexuses places calls t.first (λ i. t.left)) (sym read) in
    λ i. record { left = left i; first = first i; another = all.anothers i; vendor = all.vendors i }

-- so a write's cause is found from what the code reads
pub cause-found : (nexuses places n : ℕ) → 0 < places → (supported : Bool) (calls : List Call) → (places + 2) * length calls < 2 ^ 32 → let s = run nexuses places calls in
    let w = fold_calls (watched n) 0 (power_on nexuses places) calls unwatched in
    cause_by (answer s (write n supported)) w.first w.another w.vendor (selected s n) (selected_set s n).fields.encryption ≡ cause_of nexuses places n supported calls
unfolding cause_of
cause-found nexuses places n some supported calls few =
    let s = run nexuses places calls in
    ap (λ (w : Watch). cause_by (answer s (write n supported)) w.first w.another w.vendor (selected s n) (selected_set s n).fields.encryption) (watched-is nexuses places n some calls few)
