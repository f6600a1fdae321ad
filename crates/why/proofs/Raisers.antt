-- The reasons other than 11's: the call that raised a pending flag; the set in use; that 1 is never due, and 2 is to a nexus above the last.
-- Assumes nothing.
use Rattle.std.specs.Prelude.{ℕ, Option, Some, None}
use Prim.Native.Nat.{ℕ, zero, suc, ◌+◌, ◌*◌, ◌≤◌, ◌<◌, ◌^◌}
use mathlib.Core.Path.{◌≡◌, refl, sym, ap, subst, ◌∙◌}
use mathlib.Core.Bool.{Bool, true, false, not, ◌&&◌, ◌||◌}
use mathlib.Core.List.{List, [], ◌∷◌, ◌++◌, map}
use mathlib.Core.Logic.{◌⊎◌, inl, inr}
use native.Mathlib.Omega.{arith}
use borrow.Author.Tests.{eqb-true, eq-eqb, ne_eqb, le-leb, leb-true, leb-false, not-true}
use lib.Dec.{eqb, leb}
use lib.ListN.{length, take, drop}
use lib.Seq.{take-suc, take-length, length-take-le, split_at}
use Rattle.arrays.specs.Base.{when◌then◌else◌}
use Rattle.arrays.proofs.Base.{cases, clash, and_left, and_right, if-true, if-false}
use Rattle.answer.specs.Answers.{number_of, is_done}
use Rattle.answer.specs.declared.Answer.{Answer}
use Rattle.answer.specs.declared.Answer.TheVariants.{NotWellFormed, NexusAbove, ChangedByAnotherNexus, ChangedByVendorEvent, KeyInstanceChanged, ParametersNotUsable}
use Rattle.parameters.specs.Codes.{encrypt, encrypts}
use Rattle.device.specs.Record.{State, power_on, nexus_at, no_marks}
use Rattle.device.specs.Selecting.{selected, selected_set}
use Rattle.device.specs.WellFormed.{well_formed}
use Rattle.device.specs.declared.Marks.{Marks}
use Rattle.device.specs.declared.Nexus.{Nexus}
use Rattle.places.proofs.Lengths.{power-places, power-nexuses}
use Rattle.drive.specs.Calls.{Call, write}
use Rattle.drive.specs.Checks.{answer_if, first_of, instance_changed, not_usable, checks, answer}
use Rattle.drive.specs.Effects.{effect}
use Rattle.drive.specs.After.{actions, after}
use Rattle.drive.specs.Runs.{run_from, run}
use Rattle.session.specs.Folds.{fold_calls}
use Rattle.session.proofs.Folds.{fold-append}
use Rattle.kept.proofs.Runs.{since-power-on}
use Rattle.history.specs.History.{Low, drew}
use Rattle.history.proofs.Numbers.{power-sound}
use Rattle.history.proofs.Good.{new-nexus}
use Rattle.history.proofs.Runs.{run-append, run-size, run_sound, Steady, one, steady-first, steady-later, power-steady}
use Rattle.why.specs.declared.Touch.{Touch}
use Rattle.why.specs.declared.Cause.{Cause}
use Rattle.why.specs.Touches.{untouched, standing, touch_by}
use Rattle.why.specs.Causes.{is_raised, raises, touch_for, mode_for, before, touch_found, stopper, raised, raiser, cause_of}
use Rattle.why.specs.Deeds.{is_other, is_nobody, RaisedBy}
use Rattle.why.specs.Truths.{call_at, Raises, InUse}
use Rattle.why.proofs.Same.{few-calm}
use Rattle.why.proofs.DeedsRaised.{another-touches, vendor-touches}

-- ---- the number of an answer tells which check found a fault

-- whether a check with that number found one, of checks that are each told as what it found and its answer
abbrev fault_of : (k : ℕ) → List (Bool × Answer) → Bool
fault_of k [] = false
fault_of k (c ∷ more) = when eqb (number_of c.1) k then fault_of k more || c.0 else fault_of k more

-- their answers
abbrev answers_of : List (Bool × Answer) → List Answer
answers_of l = map (λ (c : Bool × Answer). answer_if c.0 c.1) l

-- a check with the number of the first answer that isn't 0 found one
fault-found : (k : ℕ) → 0 < k → (l : List (Bool × Answer)) → number_of (first_of (answers_of l)) ≡ k → fault_of k l ≡ true
fault-found k some [] e = absurd (omega (arith, e))
fault-found k some ((true, a) ∷ l) e =
    cases (is_done a)
    (λ t.
    let other : eqb (number_of a) k ≡ false = ne_eqb (number_of a) k (λ h. omega (arith, eqb-true (number_of a) 0 t, h, some)) in
    if-false _ _ _ other ∙ fault-found k some l (ap number_of (sym (if-true (is_done a) _ a t)) ∙ e))
    (λ f. if-true _ _ _ (eq-eqb (number_of a) k (ap number_of (sym (if-false (is_done a) _ a f)) ∙ e)) ∙ or-true (fault_of k l))
  where
    or-true : (b : Bool) → (b || true) ≡ true
    or-true true = refl
    or-true false = refl
fault-found k some ((false, a) ∷ l) e = either (eqb (number_of a) k) (fault_of k l) (fault-found k some l e)
  where
    either : (b c : Bool) → c ≡ true → (when b then c || false else c) ≡ true
    either true true t = refl
    either true false t = t
    either false c t = t

module _ (s : State) (n : ℕ) (supported : Bool) where
  -- the checks of a write
  abbrev write_checks : List (Bool × Answer)
  write_checks =
      (not (well_formed s), NotWellFormed)
      ∷ (leb (length s.nexuses) n, NexusAbove)
      ∷ ((nexus_at s n).marks.another, ChangedByAnotherNexus)
      ∷ ((nexus_at s n).marks.vendor, ChangedByVendorEvent)
      ∷ (instance_changed (nexus_at s n) (selected_set s n), KeyInstanceChanged)
      ∷ (not_usable (selected_set s n) supported, ParametersNotUsable)
      ∷ []

  -- the one with the number of the answer found a fault
  pub write-fault : (k : ℕ) → 0 < k → number_of (answer s (write n supported)) ≡ k → fault_of k write_checks ≡ true
  unfolding answer checks
  write-fault k some e = fault-found k some write_checks e

  -- 2, of a well-formed record
  above-number : well_formed s ≡ true → length s.nexuses ≤ n → number_of (answer s (write n supported)) ≡ 2
  unfolding answer checks
  above-number w h = simp (w, le-leb _ _ h)

-- ---- what a cause tells, by its number

module _ (nexuses places n : ℕ) (supported : Bool) (calls : List Call) where
  -- the cause, and the record that the calls leave
  abbrev cause : Cause
  cause = cause_of nexuses places n supported calls

  abbrev last : State
  last = run nexuses places calls

  -- its answer is the write's
  number_is : number_of cause.answer ≡ number_of (answer last (write n supported))
  unfolding cause_of
  number_is = refl

  -- so the check with that number found a fault
  fault-is : (k : ℕ) → 0 < k → number_of cause.answer ≡ k → fault_of k (write_checks last n supported) ≡ true
  fault-is k some e = write-fault last n supported k some (sym number_is ∙ e)

  -- and the touch and the mode are those that the number picks
  abbrev touch_with : (k : ℕ) → Touch
  touch_with k = touch_for k (stopper nexuses places n calls) (raiser nexuses places (λ m. m.another) n calls) (raiser nexuses places (λ m. m.vendor) n calls) (standing (selected last n))

  touch_is : (k : ℕ) → number_of cause.answer ≡ k → cause.touch ≡ touch_with k
  unfolding cause_of
  touch_is k e = ap touch_with e

  mode-is : (k : ℕ) → number_of cause.answer ≡ k → cause.mode ≡ mode_for k (selected_set last n).fields.encryption
  unfolding cause_of
  mode-is k e = ap (λ j. mode_for j (selected_set last n).fields.encryption) e

  -- a cause that names the set in use
  in_use : cause.touch ≡ standing (selected last n) → cause.mode ≡ (selected_set last n).fields.encryption → InUse last n cause
  in_use t m = record { untold = ap (λ (x : Touch). x.at) t; undone = ap (λ (x : Touch). x.deed) t; place = ap (λ (x : Touch). x.place) t; mode = m }

  -- 0 and 12: no call is named; the place is the one whose set the nexus uses, and the mode is that set's.
  pub used-told : (number_of cause.answer ≡ 0) ⊎ (number_of cause.answer ≡ 12) → InUse (run nexuses places calls) n cause
  used-told (inl e) = in_use (touch_is 0 e) (mode-is 0 e)
  used-told (inr e) = in_use (touch_is 12 e) (mode-is 12 e)

  -- 12: the set in use encrypts, and the volume doesn't support that.
  pub unusable-told : number_of cause.answer ≡ 12 → (cause.mode ≡ encrypt) × (supported ≡ false)
  unusable-told e =
      let mode = (selected_set last n).fields.encryption in
      let wrong : (encrypts mode && not supported) ≡ true = fault-is 12 (omega arith) e in
      (mode-is 12 e ∙ eqb-true mode encrypt (and_left (encrypts mode) (not supported) wrong), not-true supported (and_right (encrypts mode) (not supported) wrong))

  -- 1 is never due: every record since power-on is well formed.
  pub never-unformed : 0 < nexuses → 0 < places → number_of cause.answer ≡ 1 → ⊥
  never-unformed some room e = clash (since-power-on nexuses places some room calls) (not-true _ (fault-is 1 (omega arith) e))

  -- 2 is the answer to a nexus above the last, and it has no further reason.
  pub above-told : 0 < nexuses → 0 < places → nexuses ≤ n → (number_of cause.answer ≡ 2) × ((cause.touch ≡ untouched) × (cause.mode ≡ 0))
  above-told some room above =
      let long : length last.nexuses ≤ n = omega (arith, (run-size calls (power_on nexuses places)).nexuses, power-nexuses nexuses places, above) in
      let e : number_of cause.answer ≡ 2 = number_is ∙ above-number last n supported (since-power-on nexuses places some room calls) long in
      (e, (touch_is 2 e, mode-is 2 e))

  -- 2 names nothing; and any answer but 0 and 12 has no mode.
  pub bare-told : number_of cause.answer ≡ 2 → cause.touch ≡ untouched
  bare-told = touch_is 2

  pub modeless-told : (number_of cause.answer ≡ 0 → ⊥) → (number_of cause.answer ≡ 12 → ⊥) → cause.mode ≡ 0
  modeless-told a b = mode-is (number_of cause.answer) refl ∙ simp (ne_eqb (number_of cause.answer) 0 a, ne_eqb (number_of cause.answer) 12 b)

-- ---- one call after another

module _ (nexuses places : ℕ) (calls : List Call) (i : ℕ) (within : i < length calls) where
  -- the record after the call at a position
  next-record : before nexuses places calls (suc i) ≡ after (before nexuses places calls i) (call_at calls i)
  unfolding run_from
  next-record =
      ap (run nexuses places) (take-suc calls i _ within) ∙ run-append (take i calls) (call_at calls i ∷ []) (power_on nexuses places)

  -- what was found up to it
  next-raised : (flag : Marks → Bool) (n : ℕ) → raised nexuses places flag n (take (suc i) calls) ≡ raises flag n i (before nexuses places calls i) (call_at calls i) (raised nexuses places flag n (take i calls))
  unfolding raised fold_calls
  next-raised flag n =
      ap (λ l. fold_calls (raises flag n) 0 (power_on nexuses places) l None) (take-suc calls i _ within)
      ∙ fold-append (raises flag n) 0 (power_on nexuses places) (take i calls) (call_at calls i ∷ []) None i (omega (arith, length-take-le i calls (omega (arith, within))))

  -- so few calls leave room for the numbers that it draws
  next_low : 0 < places → (places + 2) * length calls < 2 ^ 32 → let s = before nexuses places calls i in Low s (length (actions s (call_at calls i)))
  next_low room few =
      let start = power_on nexuses places in
      let done = take i calls in
      let later = drop (suc i) calls in
      let steady : Steady 0 start (done ++ call_at calls i ∷ later) = subst (Steady 0 start) (split_at calls i _ within) (power-steady nexuses places calls (few-calm nexuses places calls few)) in
      record {
        some = omega (arith, (run-size done start).places, power-places nexuses places, room);
        low = (run_sound done 0 start (steady-first done (call_at calls i ∷ later) 0 start steady) (power-sound nexuses places)).low;
        fits = one (drew nexuses places done) (run_from start done) (call_at calls i) later (steady-later done (call_at calls i ∷ later) 0 start steady);
      }

-- ---- the latest call that raised a flag

module _ (nexuses places n : ℕ) (calls : List Call) (flag : Marks → Bool) (new : flag no_marks ≡ false) where
  -- whether it is pending before the call at a position
  abbrev pending_at : ℕ → Bool
  pending_at i = flag (nexus_at (before nexuses places calls i) n).marks

  -- the call found up to a position: the flag was clear before it, and is pending ever since
  record Rise (i : ℕ) (found : Option ℕ) : Type 0 where
    position : ℕ
    at : found ≡ Some position
    within : position < i
    clear : pending_at position ≡ false
    pending : (j : ℕ) → position < j → j ≤ i → pending_at j ≡ true

  -- at power-on no flag is pending
  pub power-clear : pending_at 0 ≡ false
  unfolding power_on run_from
  power-clear = ap (λ (x : Nexus). flag x.marks) (new-nexus nexuses n) ∙ new

  -- a call after which it is pending raised it exactly if it was clear before
  clear-raised : (i : ℕ) → i < length calls → pending_at (suc i) ≡ true → let s = before nexuses places calls i in is_raised flag n s (after s (call_at calls i)) ≡ not (pending_at i)
  clear-raised i within p = ap (λ (b : Bool). b && not (pending_at i)) (ap (λ (t : State). flag (nexus_at t n).marks) (sym (next-record nexuses places calls i within)) ∙ p)

  -- a pending flag was raised
  rise : (i : ℕ) → i ≤ length calls → pending_at i ≡ true → Rise i (raised nexuses places flag n (take i calls))
  rise zero h p = clash p power-clear
  rise (suc i) h p =
      let within : i < length calls = omega (arith, h) in
      let noted = next-raised nexuses places calls i within flag n in
      let since : (j : ℕ) → i < j → j ≤ suc i → pending_at j ≡ true = λ j a b. let e : j ≡ suc i = omega (arith, a, b) in ap pending_at e ∙ p in
      let now = clear-raised i within p in
      cases (pending_at i)
      (λ t.
      let r = rise i (omega (arith, h)) t in
      record {
        position = r.position;
        at = noted ∙ if-false _ _ _ (now ∙ ap not t) ∙ r.at;
        within = omega (arith, r.within);
        clear = r.clear;
        pending = λ j a b. cases (leb j i) (λ l. r.pending j a (leb-true j i l)) (λ l. since j (leb-false j i l) b);
      })
      (λ f. record {
        position = i;
        at = noted ∙ if-true _ _ _ (now ∙ ap not f);
        within = omega arith;
        clear = f;
        pending = since;
      })

  -- where whoever raises it passes a test, so does the call that is found
  raiser-raises : (who : Option ℕ → Bool) → ((s : State) (call : Call) → Low s (length (actions s call)) → is_raised flag n s (after s call) ≡ true → RaisedBy who s n (effect s call))
      → 0 < places → (places + 2) * length calls < 2 ^ 32 → flag (nexus_at (run nexuses places calls) n).marks ≡ true → Raises nexuses places n calls (raiser nexuses places flag n calls) flag who
  unfolding raiser
  raiser-raises who law room few p =
      let whole = take-length calls in
      let r = rise (length calls) (omega arith) (ap (λ l. flag (nexus_at (run nexuses places l) n).marks) whole ∙ p) in
      let i = r.position in
      let s = before nexuses places calls i in
      let call = call_at calls i in
      let next = next-record nexuses places calls i r.within in
      let found : raised nexuses places flag n calls ≡ Some i = ap (raised nexuses places flag n) (sym whole) ∙ r.at in
      let touch : raiser nexuses places flag n calls ≡ touch_by i s (after s call) (selected s n) = ap (λ f. touch_found nexuses places calls f (λ j. selected (before nexuses places calls j) n)) found ∙ ap (λ t. touch_by i s t (selected s n)) next in
      record {
        position = i;
        found = ap (λ (x : Touch). x.at) touch;
        within = r.within;
        clear = r.clear;
        pending = r.pending;
        place = ap (λ (x : Touch). x.place) touch;
        by = law s call (next_low nexuses places calls i r.within room few) (clear-raised i r.within (r.pending (suc i) (omega arith) r.within) ∙ ap not r.clear);
        deed = ap (λ (x : Touch). x.deed) touch;
      }

-- ---- answers 3 and 4

module _ (nexuses places : ℕ) (room : 0 < places) (calls : List Call) (few : (places + 2) * length calls < 2 ^ 32) (n : ℕ) (supported : Bool) where
  -- 3: the call that is named is a page or a preempt of another nexus that acted on the place whose set the nexus used; before it the flag
  -- "another nexus" was clear, and it is pending ever since.
  pub another-raised : number_of (cause_of nexuses places n supported calls).answer ≡ 3 → Raises nexuses places n calls (cause_of nexuses places n supported calls).touch (λ m. m.another) (is_other n)
  another-raised e =
      subst (λ t. Raises nexuses places n calls t (λ m. m.another) (is_other n)) (sym (touch_is nexuses places n supported calls 3 e))
      (raiser-raises nexuses places n calls (λ m. m.another) refl (is_other n) (λ s call. another-touches s n call) room few (fault-is nexuses places n supported calls 3 (omega arith) e))

  -- 4: the same of any other event, and of the flag "vendor event".
  pub vendor-raised : number_of (cause_of nexuses places n supported calls).answer ≡ 4 → Raises nexuses places n calls (cause_of nexuses places n supported calls).touch (λ m. m.vendor) is_nobody
  vendor-raised e =
      subst (λ t. Raises nexuses places n calls t (λ m. m.vendor) is_nobody) (sym (touch_is nexuses places n supported calls 4 e))
      (raiser-raises nexuses places n calls (λ m. m.vendor) refl is_nobody (λ s call. vendor-touches s n call) room few (fault-is nexuses places n supported calls 4 (omega arith) e))
