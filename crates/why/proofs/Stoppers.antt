-- 11: the call that a write's cause names is the first after the lock that acted on the set in use, and what it did there is what is told;
-- and the event that `why` reads there is the one that records it.
-- Assumes nothing.
use Rattle.std.specs.Prelude.{ℕ, Option, Some, None}
use Prim.Native.Nat.{ℕ, zero, suc, ◌+◌, ◌*◌, ◌≤◌, ◌<◌, ◌^◌}
use mathlib.Core.Path.{◌≡◌, refl, sym, ap, ap₂, subst, subst₂, ◌∙◌}
use mathlib.Core.Bool.{Bool, true, false, not, ◌&&◌, and_assoc}
use mathlib.Core.List.{List, [], ◌∷◌, ◌++◌, append_assoc}
use native.Mathlib.Omega.{arith}
use borrow.Author.Tests.{leb-false, eq-eqb, not-true, eqb-true}
use lib.Dec.{eqb, leb}
use lib.ListN.{length, drop, length-append, length-drop}
use lib.Seq.{get_or_at, drop-drop}
use Rattle.arrays.proofs.Base.{cases, clash, and_left, and_right, if-true, or_left_false, or_right_false}
use Rattle.answer.specs.Answers.{number_of}
use Rattle.answer.specs.declared.Answer.{Answer}
use Rattle.answer.specs.declared.Answer.TheVariants.{NexusAbove}
use Rattle.device.specs.Record.{State, power_on, set_at, nexus_at}
use Rattle.device.specs.Selecting.{selected, selected_set}
use Rattle.places.proofs.Lengths.{power-places, power-nexuses}
use Rattle.drive.specs.Calls.{Call, power_up}
use Rattle.drive.specs.Checks.{check1, heard_of, permitted, checks, answer}
use Rattle.drive.specs.Effects.{effect}
use Rattle.drive.specs.After.{by_number, actions, after}
use Rattle.drive.specs.Runs.{run_from, run}
use Rattle.drive.proofs.Checks.{first_stops, first-told, all_done, passed}
use Rattle.drive.proofs.Effects.{is_restart}
use Rattle.kept.proofs.Runs.{since-power-on}
use Rattle.recording.specs.Entries.{entry_size, entry_of, call, calls}
use Rattle.recording.specs.Files.{header, event_bytes, page_bytes, sound_file, calls_of}
use Rattle.recording.proofs.Entries.{calls-more}
use Rattle.recording.proofs.Files.{sound-header, length-events}
use Rattle.history.specs.History.{Did, did, ran_from, hits, accepts, is_heard, is_stopped, is_found, silent, touched, reading, Latest, place_left, drew, First, trail}
use Rattle.history.proofs.Numbers.{anew}
use Rattle.history.proofs.Runs.{run-append, run-size, reading-is-run}
use Rattle.history.proofs.Draws.{draws-few}
use Rattle.history.proofs.Held.{View}
use Rattle.history.proofs.Others.{other-unseen, other-foreign}
use Rattle.history.proofs.Good.{power-unlocked, lock-kept}
use Rattle.history.proofs.Demand.{first-touch}
use Rattle.why.specs.declared.Touch.{Touch}
use Rattle.why.specs.Causes.{before, touch_found, stopper, cause_of}
use Rattle.why.specs.Touches.{deed_of}
use Rattle.why.specs.Deeds.{StoppedBy, deed_to}
use Rattle.why.specs.Reasons.{event_at}
use Rattle.why.specs.Truths.{call_at, Stops}
use Rattle.why.proofs.Raisers.{write-fault}
use Rattle.why.proofs.Same.{at_call, touch-here, few-calm}
use Rattle.why.proofs.DeedsStopped.{stopped_by}
use Rattle.why.proofs.DeedsRaised.{acts-stayed}

-- ---- a write that is answered 11

module _ (s : State) (n : ℕ) where
  -- passed checks 1 to 4, none of which gives that
  stopped-heard : (supported : Bool) → is_stopped s n supported ≡ true → is_heard s n ≡ true
  unfolding answer checks
  stopped-heard supported e =
      cases (is_heard s n) (λ t. t)
      (λ f.
      let a = ap (λ x. eqb (number_of x) 11) (first_stops (check1 s ∷ heard_of s n) (permitted (nexus_at s n) (selected_set s n) supported) f) in
      clash (sym a ∙ e) (first-told (λ (x : Answer). eqb (number_of x) 11 ≡ false) refl refl refl refl refl s n))

  -- so its nexus is one of the nexuses
  heard-known : is_heard s n ≡ true → n < length s.nexuses
  heard-known h = leb-false _ _ (passed (leb (length s.nexuses) n) NexusAbove refl (all_done (check1 s ∷ heard_of s n) h).1.0)

  -- and is locked: check 11 found a fault
  stopped-locked : (supported : Bool) → is_stopped s n supported ≡ true → (nexus_at s n).lock ≡ true
  stopped-locked supported e = and_left _ _ (write-fault s n supported 11 (omega arith) (eqb-true _ 11 e))

-- ---- calls during which a nexus sends no page and stays locked

-- two histories, one after the other
silent-append : (n : ℕ) (a b : List Did) → silent n (a ++ b) ≡ (silent n a && silent n b)
unfolding silent
silent-append n [] b = refl
silent-append n (d ∷ a) b = ap (λ x. not (accepts n d.effect) && x) (silent-append n a b) ∙ sym (and_assoc (not (accepts n d.effect)) (silent n a) (silent n b))

-- a nexus that is locked after them was locked before
lock-back : (n : ℕ) (l : List Call) (s : State) → silent n (ran_from s l) ≡ true → (nexus_at (run_from s l) n).lock ≡ true → (nexus_at s n).lock ≡ true
unfolding silent ran_from run_from
lock-back n [] s q l = l
lock-back n (c ∷ calls) s q l =
    let other : accepts n (effect s c) ≡ false = not-true _ (and_left _ (silent n (ran_from (after s c) calls)) q) in
    lock-kept by_number n s (effect s c) other (lock-back n calls (after s c) (and_right (not (accepts n (effect s c))) _ q) l)

-- a call leaves it the place that it uses, unless it acts on it
call_stays : (n : ℕ) (s : State) (c : Call) → accepts n (effect s c) ≡ false → (nexus_at (after s c) n).lock ≡ true → hits (selected s n) (actions s c) ≡ false → selected (after s c) n ≡ selected s n
call_stays n s c other locked missed =
    cases (is_restart (effect s c))
    (λ t. clash locked (ap (λ x. (nexus_at x n).lock) (anew by_number s (effect s c) t) ∙ power-unlocked (length s.nexuses) (length s.sets) n))
    (λ f. ap (λ (v : View). v.selected) (other-unseen by_number n s (effect s c) other f) ∙ acts-stayed n (actions s c) s (other-foreign n s (effect s c) other) missed)

-- and so do they all
uses-stays : (n : ℕ) (l : List Call) (s : State) → silent n (ran_from s l) ≡ true → (nexus_at (run_from s l) n).lock ≡ true → touched (selected s n) (ran_from s l) ≡ false
    → selected (run_from s l) n ≡ selected s n
unfolding silent touched ran_from run_from
uses-stays n [] s q l t = refl
uses-stays n (c ∷ calls) s q l t =
    let other : accepts n (effect s c) ≡ false = not-true _ (and_left _ (silent n (ran_from (after s c) calls)) q) in
    let quiet : silent n (ran_from (after s c) calls) ≡ true = and_right (not (accepts n (effect s c))) _ q in
    let stay : selected (after s c) n ≡ selected s n = call_stays n s c other (lock-back n calls (after s c) quiet l) (or_left_false (hits (selected s n) (actions s c)) _ t) in
    uses-stays n calls (after s c) quiet l (ap (λ k. touched k (ran_from (after s c) calls)) stay ∙ or_right_false (hits (selected s n) (actions s c)) _ t) ∙ stay

-- ---- the calls of a history that is cut in two

-- the call that did one thing of it, and those before and after
record Ran (s : State) (calls : List Call) (a : List Did) (d : Did) (b : List Did) : Type 0 where
  before : List Call
  call : Call
  later : List Call
  parts : calls ≡ before ++ call ∷ later
  counted : length before ≡ length a
  earlier : ran_from s before ≡ a
  here : did (run_from s before) call (after (run_from s before) call) ≡ d
  others : ran_from (after (run_from s before) call) later ≡ b

-- there is one for each
ran-cut : (a : List Did) (d : Did) (b : List Did) (calls : List Call) (s : State) → ran_from s calls ≡ a ++ d ∷ b → Ran s calls a d b
unfolding ran_from run_from
ran-cut [] d b [] s e = absurd (let z : ◌≡◌ {A = ℕ} 0 1 = cc in omega arith)
ran-cut [] d b (c ∷ calls) s e = record { before = []; call = c; later = calls; parts = refl; counted = refl; earlier = refl; here = cc; others = cc }
ran-cut (x ∷ a) d b [] s e = absurd (let z : ◌≡◌ {A = ℕ} 0 1 = cc in omega arith)
ran-cut (x ∷ a) d b (c ∷ calls) s e =
    let first : did s c (after s c) ≡ x = cc in
    let rest : ran_from (after s c) calls ≡ a ++ d ∷ b = cc in
    let r = ran-cut a d b calls (after s c) rest in
    record {
      before = c ∷ r.before;
      call = r.call;
      later = r.later;
      parts = ap {B = List Call} (c ∷◌) r.parts;
      counted = ap suc r.counted;
      earlier = ap₂ {C = List Did} ◌∷◌ first r.earlier;
      here = r.here;
      others = r.others;
    }

-- ---- the first call that acted on the place

-- the calls before it and after it; and of the record that it came to, that the nexus was locked and used the place, and that the call is
-- no page of its own
record Came (n : ℕ) (s₀ : State) (calls : List Call) (place position : ℕ) : Type 0 where
  done : List Call
  call : Call
  rest : List Call
  parts : calls ≡ done ++ call ∷ rest
  counted : length done ≡ position
  locked : (nexus_at (run_from s₀ done) n).lock ≡ true
  uses : selected (run_from s₀ done) n ≡ place
  other : accepts n (effect (run_from s₀ done) call) ≡ false
  touches : hits place (actions (run_from s₀ done) call) ≡ true

-- while the nexus is locked at the end, that is so of the first after its latest page
came : (n : ℕ) (s₀ : State) (calls : List Call) {l : List Did} → ran_from s₀ calls ≡ l → (x : Latest n l) (k : ℕ) → First (place_left x) x.later k → (nexus_at (run_from s₀ calls) n).lock ≡ true
    → Came n s₀ calls (place_left x) (suc (length x.before) + k)
unfolding silent ran_from run_from
came n s₀ calls same x k f locked =
    let p = ran-cut x.before x.page x.later calls s₀ (same ∙ x.parts) in
    let left : State = after (run_from s₀ p.before) p.call in
    let c = ran-cut f.before f.call f.later p.later left (p.others ∙ f.parts) in
    let s : State = run_from left c.before in
    let quiet : (silent n f.before && silent n (f.call ∷ f.later)) ≡ true = sym (silent-append n f.before (f.call ∷ f.later)) ∙ ap (silent n) (sym f.parts) ∙ x.silence in
    let first : silent n (ran_from left c.before) ≡ true = ap (silent n) c.earlier ∙ and_left _ _ quiet in
    let now : accepts n (effect s c.call) ≡ false = ap (λ (d : Did). accepts n d.effect) c.here ∙ not-true _ (and_left _ (silent n f.later) (and_right (silent n f.before) _ quiet)) in
    let last : silent n (ran_from (after s c.call) c.later) ≡ true = ap (silent n) c.others ∙ and_right (not (accepts n f.call.effect)) _ (and_right (silent n f.before) _ quiet) in
    let place : selected left n ≡ place_left x = ap (λ (d : Did). d.uses n) p.here in
    let there : run_from s₀ (p.before ++ p.call ∷ c.before) ≡ s = run-append p.before (p.call ∷ c.before) s₀ in
    let whole : calls ≡ (p.before ++ p.call ∷ c.before) ++ c.call ∷ c.later =
    p.parts ∙ ap (λ (l : List Call). p.before ++ p.call ∷ l) c.parts ∙ sym (append_assoc p.before (p.call ∷ c.before) (c.call ∷ c.later)) in
    let end : (nexus_at (run_from (after s c.call) c.later) n).lock ≡ true =
    ap (λ t. (nexus_at (run_from t (c.call ∷ c.later)) n).lock) (sym there) ∙ ap (λ t. (nexus_at t n).lock) (sym (run-append (p.before ++ p.call ∷ c.before) (c.call ∷ c.later) s₀) ∙ ap (run_from s₀) (sym whole)) ∙ locked in
    let held : (nexus_at s n).lock ≡ true = lock-kept by_number n s (effect s c.call) now (lock-back n c.later (after s c.call) last end) in
    record {
      done = p.before ++ p.call ∷ c.before;
      call = c.call;
      rest = c.later;
      parts = whole;
      counted = omega (arith, length-append p.before (p.call ∷ c.before), p.counted, c.counted, f.counted);
      locked = rw there held;
      uses = rw there (uses-stays n c.before left first held (ap₂ touched place c.earlier ∙ f.untouched) ∙ place);
      other = rw there now;
      touches = rw there (ap (λ (d : Did). hits (place_left x) d.actions) c.here ∙ f.touches);
    }

-- ---- the whole

-- so what is told of it is true
told-true : (nexuses places : ℕ) → 0 < nexuses → 0 < places → (n : ℕ) (calls : List Call) {touch : Touch} (x : Latest n (reading nexuses places calls)) (position k : ℕ)
    → touch ≡ touch_found nexuses places calls (Some position) (λ i. place_left x) → position ≡ suc (length x.before) + k → First (place_left x) x.later k
    → Came n (power_on nexuses places) calls (place_left x) position → Stops nexuses places n calls touch
told-true nexuses places some room n calls x position k told counted first c =
    let s : State = run nexuses places c.done in
    let here : before nexuses places calls position ≡ s = at_call nexuses places n c.done c.call c.rest c.parts c.counted refl in
    let this : call_at calls position ≡ c.call = ap (λ (l : List Call). call_at l position) c.parts ∙ get_or_at c.done c.call c.rest power_up position c.counted in
    let sets : 0 < length s.sets = omega (arith, (run-size c.done (power_on nexuses places)).places, power-places nexuses places, room) in
    let hit : hits (selected s n) (actions s c.call) ≡ true = ap (λ p. hits p (actions s c.call)) c.uses ∙ c.touches in
    let did-there = touch-here nexuses places n c.done c.call c.rest c.parts c.counted refl (λ i. place_left x) in
    record {
      lock = x;
      position = position;
      found = ap (λ (t : Touch). t.at) told;
      later = k;
      counted = counted;
      within = omega (arith, ap length c.parts, length-append c.done (c.call ∷ c.rest), c.counted);
      place = ap (λ (t : Touch). t.place) told;
      first = first;
      by = subst₂ (λ t call. StoppedBy t n call) (sym here) (sym this) (stopped_by s n c.call (since-power-on nexuses places some room c.done) sets c.locked c.other hit);
      deed = ap (λ (t : Touch). t.deed) (told ∙ did-there)
          ∙ ap (λ p. deed_of (set_at s p) (set_at (after s c.call) p)) (sym c.uses)
          ∙ ap₂ (λ t call. deed_to t n call) (sym here) (sym this);
    }

-- a position that is found
found_at : (f : Option ℕ) → is_found f ≡ true → (i : ℕ) × (f ≡ Some i)
found_at (Some i) e = (i, refl)
found_at None e = clash e refl

-- A write that is answered 11 is told the true call: the first after the lock that established, replaced or released the set in use.
pub stopper-true : (nexuses places : ℕ) → 0 < nexuses → 0 < places → (calls : List Call) → (places + 2) * length calls < 2 ^ 32 → (n : ℕ) → (supported : Bool)
    → number_of (cause_of nexuses places n supported calls).answer ≡ 11 → Stops nexuses places n calls (cause_of nexuses places n supported calls).touch
unfolding cause_of stopper
stopper-true nexuses places some room calls few n supported eleven =
    let start : State = power_on nexuses places in
    let s : State = run nexuses places calls in
    let stopped : is_stopped s n supported ≡ true = eq-eqb _ 11 eleven in
    let heard : is_heard s n ≡ true = stopped-heard s n supported stopped in
    let locked : (nexus_at s n).lock ≡ true = stopped-locked s n supported stopped in
    let known : n < nexuses = omega (arith, heard-known s n heard, (run-size calls start).nexuses, power-nexuses nexuses places) in
    let fits : drew nexuses places calls < 2 ^ 32 = omega (arith, draws-few nexuses places calls, few) in
    let t = first-touch nexuses places room calls fits n known supported heard locked in
    let found = found_at (trail nexuses places n calls).first (sym t.2 ∙ stopped) in
    let which = t.3 found.0 found.1 in
    let same = (reading-is-run nexuses places room calls (few-calm nexuses places calls few)).0 in
    let told = if-true _ _ _ stopped ∙ ap₂ (λ (f : Option ℕ) (p : ℕ). touch_found nexuses places calls f (λ i. p)) found.1 t.1 in
    told-true nexuses places some room n calls t.0 found.0 which.0 told which.1 which.2
    (subst (Came n start calls (place_left t.0)) (sym which.1) (came n start calls (sym same) t.0 which.0 which.2 locked))

-- ---- the recorded event

-- the call at a position is read of the bytes there
call-there : (pages : List ℕ) (position : ℕ) (bytes : List ℕ) → entry_size * suc position ≤ length bytes → call_at (calls bytes pages) position ≡ call pages (entry_of (drop (entry_size * position) bytes))
call-there pages zero bytes h = ap (λ (l : List Call). call_at l 0) (calls-more pages bytes (omega arith))
call-there pages (suc position) bytes h =
    let on : 8 + 8 * position ≡ 8 * suc position = omega arith in
    ap (λ (l : List Call). call_at l (suc position)) (calls-more pages bytes (omega arith))
    ∙ call-there pages position (drop 8 bytes) (omega (arith, length-drop 8 bytes))
    ∙ ap (λ (b : List ℕ). call pages (entry_of b)) (drop-drop (8 * position) 8 bytes ∙ ap (λ (i : ℕ). drop i bytes) on)

-- In a sound file, the event whose kind and nexus `why` tells is the one that records the call at that position.
pub kind-recorded : (file : List ℕ) → sound_file file ≡ true → (position : ℕ) → position < (header file).event_count
    → call (page_bytes file) (event_at (event_bytes file) (Some position)) ≡ call_at (calls_of file) position
kind-recorded file sound position within =
    sym (call-there (page_bytes file) position (event_bytes file) (omega (arith, length-events file (sound-header file sound), within)))
