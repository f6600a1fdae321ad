-- A power-on in the middle of a session starts the reading for a write's cause again, and what comes after the events asked for is not read.
-- Assumes nothing.
use Rattle.std.specs.Prelude.{ℕ, Option, Some, None}
use Prim.Native.Nat.{ℕ, suc, ◌+◌, ◌*◌, ◌≤◌, ◌<◌, ◌^◌}
use mathlib.Core.Path.{◌≡◌, refl, sym, ap, ap₂, subst, ◌∙◌}
use mathlib.Core.Bool.{Bool, true, false, not, ◌&&◌, ◌||◌}
use mathlib.Core.List.{List, [], ◌∷◌, ◌++◌, append_assoc}
use native.Mathlib.Nat.{add-suc, mul-le-mul_left}
use native.Mathlib.Omega.{arith}
use borrow.Author.Tests.{eqb-true}
use lib.Dec.{eqb}
use lib.ListN.{length, take, length-append}
use lib.Seq.{take-append-add, take-take, length-take-le}
use Rattle.arrays.specs.Base.{when◌then◌else◌}
use Rattle.arrays.proofs.Base.{cases, clash, and_left, if-true, if-false, if-map}
use Rattle.wire.proofs.Bytes.{Below}
use Rattle.answer.specs.Answers.{number_of}
use Rattle.answer.specs.declared.Answer.{Answer}
use Rattle.device.specs.Record.{State, power_on, nexus_at, no_marks}
use Rattle.device.specs.Selecting.{selected, selected_set}
use Rattle.device.specs.declared.Marks.{Marks}
use Rattle.drive.specs.Calls.{Call, power_up, write}
use Rattle.drive.specs.Checks.{answer}
use Rattle.drive.specs.Effects.{effect}
use Rattle.drive.specs.After.{by_number, after}
use Rattle.drive.specs.Runs.{run_from, run}
use Rattle.drive.proofs.Effects.{restarts-power}
use Rattle.session.specs.Folds.{fold_calls}
use Rattle.session.proofs.Folds.{fold-append}
use Rattle.history.specs.History.{Did, hits, ran_from, Latest, place_left, first_touched, Trail, trail_over, trail}
use Rattle.history.proofs.Runs.{run-append, ran_append, run-size, reading-is-run}
use Rattle.history.proofs.Cut.{restarted}
use Rattle.history.proofs.Latest.{latest-page}
use Rattle.history.proofs.Trails.{page-did, ran-length, trail-latest}
use Rattle.history.proofs.Demand.{latest-after}
use Rattle.recording.specs.Files.{header, sound_file, calls_of, cut_after}
use Rattle.recording.proofs.Files.{sound-count}
use Rattle.recording.proofs.Made.{cut-sound, cut-calls}
use Rattle.why.specs.declared.Touch.{Touch}
use Rattle.why.specs.declared.Reason.{Reason}
use Rattle.why.specs.Touches.{untouched, standing, touch_by}
use Rattle.why.specs.Causes.{is_raised, raises, touch_for, mode_for, cause_by, before, touch_found, stopper, raised, raiser, cause_of}
use Rattle.why.specs.Reasons.{why}
use Rattle.why.specs.Truths.{later_found, later_touch, later_cause}
use Rattle.why.proofs.Same.{few-calm}
use Rattle.why.proofs.Raisers.{write-fault, power-clear}
use Rattle.why.proofs.Reasons.{why-taken}

-- ---- counted from so many calls before

-- the first call that acts on a place
first-moved : (k place i : ℕ) (l : List Did) → first_touched place (k + i) l ≡ later_found k (first_touched place i l)
unfolding first_touched
first-moved k place i [] = refl
first-moved k place i (d ∷ l) =
    ap (λ f. when hits place d.actions then Some (k + i) else f) (ap (λ j. first_touched place j l) (sym (add-suc k i)) ∙ first-moved k place (suc i) l)
    ∙ sym (if-map (later_found k) (hits place d.actions) (Some i) (first_touched place (suc i) l))

-- the reading of a history
abbrev later_trail : (k : ℕ) → Trail → Trail
later_trail k t = record { left = t.left; first = later_found k t.first }

-- which is the reading of one with more before, where the nexus has sent a page since
trail-moved : (n : ℕ) (a l : List Did) (t : Trail) → Latest n l → trail_over n 0 (a ++ l) t ≡ later_trail (length a) (trail_over n 0 l t)
unfolding latest-after
trail-moved n a l t x =
    let place = place_left x in
    trail-latest n (a ++ l) (latest-after n a l (a ++ l) refl x) t
    ∙ ap (λ i. record { left = place; first = first_touched place (suc i) x.later }) (length-append a x.before)
    ∙ ap (λ i. record { left = place; first = first_touched place i x.later }) (sym (add-suc (length a) (length x.before)))
    ∙ ap (λ f. record { left = place; first = f }) (first-moved (length a) place (suc (length x.before)) x.later)
    ∙ ap (later_trail (length a)) (sym (trail-latest n l x t))

-- the latest call that raised a flag which is pending at the end, whatever was found while it was clear
raised-moved : (flag : Marks → Bool) (n k i : ℕ) (s : State) (l : List Call) (f g : Option ℕ) → (flag (nexus_at s n).marks ≡ true → f ≡ later_found k g)
    → flag (nexus_at (run_from s l) n).marks ≡ true → fold_calls (raises flag n) (k + i) s l f ≡ later_found k (fold_calls (raises flag n) i s l g)
unfolding fold_calls run_from
raised-moved flag n k i s [] f g same pending = same pending
raised-moved flag n k i s (call ∷ l) f g same pending =
    ap (λ j. fold_calls (raises flag n) j (after s call) l (raises flag n (k + i) s call f)) (sym (add-suc k i))
    ∙ raised-moved flag n k (suc i) (after s call) l (raises flag n (k + i) s call f) (raises flag n i s call g) step pending
  where
    step : flag (nexus_at (after s call) n).marks ≡ true → raises flag n (k + i) s call f ≡ later_found k (raises flag n i s call g)
    step on =
        cases (flag (nexus_at s n).marks)
        (λ t.
        let none : is_raised flag n s (after s call) ≡ false = ap₂ (λ x y. x && not y) on t in
        if-false _ _ _ none ∙ same t ∙ ap (later_found k) (sym (if-false _ (Some i) g none)))
        (λ t.
        let one : is_raised flag n s (after s call) ≡ true = ap₂ (λ x y. x && not y) on t in
        if-true _ _ _ one ∙ ap (later_found k) (sym (if-true _ (Some i) g one)))

-- the touch that a number picks: each need only be known where it is picked
touch-told : (k number place : ℕ) (first another vendor : Touch) {first' another' vendor' : Touch}
    → (number ≡ 11 → first' ≡ later_touch k first) → (number ≡ 3 → another' ≡ later_touch k another) → (number ≡ 4 → vendor' ≡ later_touch k vendor)
    → touch_for number first' another' vendor' (standing place) ≡ later_touch k (touch_for number first another vendor (standing place))
touch-told k number place first another vendor {first'} {another'} {vendor'} p q r =
    picks (eqb number 11) (eqb number 3) (eqb number 4) (eqb number 0 || eqb number 12) (λ t. p (eqb-true number 11 t)) (λ t. q (eqb-true number 3 t)) (λ t. r (eqb-true number 4 t))
  where
    pick : (a b c d : Bool) → (x y z : Touch) → Touch
    pick a b c d x y z = when a then x else when b then y else when c then z else when d then standing place else untouched

    picks : (a b c d : Bool) → (a ≡ true → first' ≡ later_touch k first) → (b ≡ true → another' ≡ later_touch k another) → (c ≡ true → vendor' ≡ later_touch k vendor)
        → pick a b c d first' another' vendor' ≡ later_touch k (pick a b c d first another vendor)
    picks true b c d f g h = f refl
    picks false true c d f g h = g refl
    picks false false true d f g h = h refl
    picks false false false true f g h = refl
    picks false false false false f g h = refl

-- ---- calls that leave the record as power-on does

module _ (nexuses places n : ℕ) (a later : List Call) (anew : run nexuses places a ≡ power_on nexuses places) where
  abbrev start : State
  start = power_on nexuses places

  -- with more calls after them: the record at the end, and before each
  run_moved : (l : List Call) → run nexuses places (a ++ l) ≡ run nexuses places l
  run_moved l = run-append a l start ∙ ap (λ s. run_from s l) anew

  before-moved : (i : ℕ) → before nexuses places (a ++ later) (length a + i) ≡ before nexuses places later i
  before-moved i = ap (run nexuses places) (take-append-add a later i) ∙ run_moved (take i later)

  -- what the call that is found did
  touch-moved : (f : Option ℕ) (place place' : ℕ → ℕ) → ((i : ℕ) → place' (length a + i) ≡ place i)
      → touch_found nexuses places (a ++ later) (later_found (length a) f) place' ≡ later_touch (length a) (touch_found nexuses places later f place)
  touch-moved (Some i) place place' e =
      let s = before nexuses places later in
      let next : before nexuses places (a ++ later) (suc (length a + i)) ≡ s (suc i) = ap (before nexuses places (a ++ later)) (sym (add-suc (length a) i)) ∙ before-moved (suc i) in
      ap₂ (λ x y. touch_by (length a + i) x y (place' (length a + i))) (before-moved i) next ∙ ap (touch_by (length a + i) (s i) (s (suc i))) (e i)
  touch-moved None place place' e = refl

  -- 11, of a locked nexus
  stopper-moved : 0 < places → (places + 2) * length (a ++ later) < 2 ^ 32 → (nexus_at (run nexuses places later) n).lock ≡ true
      → stopper nexuses places n (a ++ later) ≡ later_touch (length a) (stopper nexuses places n later)
  unfolding stopper trail
  stopper-moved some few locked =
      let unread : Trail = record { left = 0; first = None } in
      let over : List Did → Trail = λ l. trail_over n 0 l unread in
      let shorter : length later ≤ length (a ++ later) = omega (arith, length-append a later) in
      let less : (places + 2) * length later < 2 ^ 32 = omega (arith, few, mul-le-mul_left (places + 2) shorter) in
      let alone = (reading-is-run nexuses places some later (few-calm nexuses places later less)).0 in
      let whole = (reading-is-run nexuses places some (a ++ later) (few-calm nexuses places (a ++ later) few)).0 ∙ ran_append a later start ∙ ap (λ s. ran_from start a ++ ran_from s later) anew in
      let latest = page-did n start later (latest-page nexuses places n later locked) in
      let moved : trail nexuses places n (a ++ later) ≡ later_trail (length a) (trail nexuses places n later) =
      ap over whole
      ∙ trail-moved n (ran_from start a) (ran_from start later) unread latest
      ∙ ap₂ (λ k l. later_trail k (over l)) (ran-length a start) (sym alone) in
      let left : ℕ → ℕ = λ i. (trail nexuses places n later).left in
      ap (λ (t : Trail). touch_found nexuses places (a ++ later) t.first (λ i. t.left)) moved ∙ touch-moved (trail nexuses places n later).first left left (λ i. refl)

  -- 3 and 4, of a nexus with this flag pending
  raiser-moved : (flag : Marks → Bool) → flag no_marks ≡ false → flag (nexus_at (run nexuses places later) n).marks ≡ true
      → raiser nexuses places flag n (a ++ later) ≡ later_touch (length a) (raiser nexuses places flag n later)
  unfolding raised raiser run_from
  raiser-moved flag new pending =
      let used : List Call → ℕ → ℕ = λ calls i. selected (before nexuses places calls i) n in
      let found : Option ℕ = fold_calls (raises flag n) 0 start a None in
      let moved : raised nexuses places flag n (a ++ later) ≡ later_found (length a) (raised nexuses places flag n later) =
      fold-append (raises flag n) 0 start a later None (length a + 0) (omega arith)
      ∙ ap (λ s. fold_calls (raises flag n) (length a + 0) s later found) anew
      ∙ raised-moved flag n (length a) 0 start later found None (λ t. clash t (power-clear nexuses places n later flag new)) pending in
      ap (λ f. touch_found nexuses places (a ++ later) f (used (a ++ later))) moved
      ∙ touch-moved (raised nexuses places flag n later) (used later) (used (a ++ later)) (λ i. ap (λ s. selected s n) (before-moved i))

  -- so the cause is that of the later ones
  cause-moved : 0 < places → (places + 2) * length (a ++ later) < 2 ^ 32 → (supported : Bool)
      → cause_of nexuses places n supported (a ++ later) ≡ later_cause (length a) (cause_of nexuses places n supported later)
  unfolding cause_of
  cause-moved some few supported =
      let stops = stopper nexuses places n in
      let another = raiser nexuses places (λ m. m.another) n in
      let vendor = raiser nexuses places (λ m. m.vendor) n in
      let s = run nexuses places later in
      let told : Answer = answer s (write n supported) in
      let whole : List Call = a ++ later in
      ap (λ t. cause_by (answer t (write n supported)) (stops whole) (another whole) (vendor whole) (selected t n) (selected_set t n).fields.encryption) (run_moved later)
      ∙ ap (λ touch. record { answer = told; touch = touch; mode = mode_for (number_of told) (selected_set s n).fields.encryption })
      (touch-told (length a) (number_of told) (selected s n) (stops later) (another later) (vendor later)
      (λ e. stopper-moved some few (and_left _ _ (write-fault s n supported 11 (omega arith) e)))
      (λ e. raiser-moved (λ m. m.another) refl (write-fault s n supported 3 (omega arith) e))
      (λ e. raiser-moved (λ m. m.vendor) refl (write-fault s n supported 4 (omega arith) e)))

-- A power-on in the middle starts the reading again: the cause is that of the calls after it, its position counted on by those up to it.
pub starts-again : (nexuses places : ℕ) → 0 < places → (first later : List Call) → (places + 2) * length (first ++ power_up ∷ later) < 2 ^ 32 → (n : ℕ) → (supported : Bool)
    → cause_of nexuses places n supported (first ++ power_up ∷ later) ≡ later_cause (suc (length first)) (cause_of nexuses places n supported later)
unfolding run_from
starts-again nexuses places some first later few n supported =
    let start = power_on nexuses places in
    let s = run nexuses places first in
    let a : List Call = first ++ power_up ∷ [] in
    let split : first ++ power_up ∷ later ≡ a ++ later = sym (append_assoc first (power_up ∷ []) later) in
    let long : length a ≡ suc (length first) = omega (arith, length-append first (power_up ∷ [])) in
    let anew : run nexuses places a ≡ start = run-append first (power_up ∷ []) start ∙ restarted nexuses places by_number s (effect s power_up) (run-size first start) (restarts-power s power_up) in
    ap (cause_of nexuses places n supported) split
    ∙ cause-moved nexuses places n a later anew some (subst (λ calls. (places + 2) * length calls < 2 ^ 32) split few) supported
    ∙ ap (λ k. later_cause k (cause_of nexuses places n supported later)) long

-- ---- a recording cut

-- "It reads request 3's session up to a given number of events": a recording cut after k events, its header put right, has the same cause there.
pub later-events-unread : (nexuses places : ℕ) (file : List ℕ) → Below file → sound_file file ≡ true → (k : ℕ) → k ≤ (header file).event_count → (n : ℕ) (supported : Bool)
    → (why nexuses places (cut_after k file) k n supported).cause ≡ (why nexuses places file k n supported).cause
later-events-unread nexuses places file bytes sound k h n supported =
    let calls = cut-calls file bytes sound k h in
    let good = cut-sound file bytes sound k h in
    let many : (header (cut_after k file)).event_count ≡ k = sym (sound-count (cut_after k file) good) ∙ ap length calls ∙ length-take-le k (calls_of file) (omega (arith, h, sound-count file sound)) in
    ap (λ (r : Reason). r.cause) (sym (why-taken nexuses places (cut_after k file) k n supported good (omega (arith, many))))
    ∙ ap (cause_of nexuses places n supported) (ap (take k) calls ∙ take-take k k (calls_of file) (omega arith))
    ∙ ap (λ (r : Reason). r.cause) (why-taken nexuses places file k n supported sound h)
