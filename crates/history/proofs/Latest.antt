-- A locked nexus has sent a page, and what its numbers tell of the calls since.
-- Assumes nothing.
use Prim.Native.Nat.{ℕ, ◌<◌}
use mathlib.Core.Bool.{Bool, true, false, not, ◌&&◌, ◌||◌, or_assoc, or-false}
use mathlib.Core.List.{List, [], ◌∷◌, ◌++◌}
use mathlib.Core.Path.{◌≡◌, refl, ◌∙◌, ap, ap₂}
use lib.Dec.{eqb}
use borrow.Author.Tests.{not-true}
use Rattle.arrays.proofs.Base.{cases, clash, and_left, and_right}
use Rattle.answer.specs.Answers.{number_of}
use Rattle.answer.specs.declared.Answer.TheVariants.{KeyInstanceChanged, ParametersNotUsable}
use Rattle.parameters.specs.Codes.{encrypts}
use Rattle.device.specs.Record.{State, power_on, nexus_at}
use Rattle.device.specs.Selecting.{selected, selected_set}
use Rattle.places.proofs.Lengths.{power-places, power-nexuses}
use Rattle.drive.specs.Calls.{Call}
use Rattle.drive.specs.Checks.{answer_if, first_of}
use Rattle.drive.specs.Effects.{effect}
use Rattle.drive.specs.After.{by_number, actions, after}
use Rattle.drive.specs.Runs.{run_from, run}
use Rattle.drive.proofs.Effects.{taken-answered, own-answer}
use Rattle.history.specs.History.{accepts, ran_from, is_heard, is_stopped, silent, touched, LatestPage, left_by, drew_of, drew_from}
use Rattle.history.proofs.Numbers.{power-sound}
use Rattle.history.proofs.Runs.{run-append, Calm, Steady, one, rest, run-size, run_sound, steady-first, steady-later, power-steady}
use Rattle.history.proofs.Held.{Mark, view, agree}
use Rattle.history.proofs.Good.{Base, Good, accepted-is, own-good, other-good, power-unlocked, lock-kept}

-- ---- the latest page

-- what is seen of a history that leaves the nexus locked: it has a latest page, or the nexus was locked before and sent none
data Seen (n : ℕ) (s : State) (l : List Call) : Type 0 where
  quiet : silent n (ran_from s l) ≡ true → (nexus_at s n).lock ≡ true → Seen n s l
  sent : LatestPage n s l → Seen n s l

look : (n : ℕ) (l : List Call) (s : State) → (nexus_at (run_from s l) n).lock ≡ true → Seen n s l
unfolding run_from ran_from silent
look n [] s e = quiet refl e
look n (c ∷ l) s e = onward (look n l (after s c) e)
  where
    onward : Seen n (after s c) l → Seen n s (c ∷ l)
    onward (sent r) = sent (record {
      before = c ∷ r.before;
      page = r.page;
      later = r.later;
      parts = ap {B = List Call} (c ∷◌) r.parts;
      answered = r.answered;
      accepted = r.accepted;
      silence = r.silence;
    })
    onward (quiet q k) =
        cases (accepts n (effect s c))
        (λ a.
        let r = accepted-is n (effect s c) a in
        sent (record { before = []; page = c; later = l; parts = refl; answered = taken-answered s c n r.0 r.1; accepted = a; silence = q }))
        (λ a. quiet (ap₂ (λ x y. not x && y) a q) (lock-kept by_number n s (effect s c) a k))

-- since power-on a locked nexus has one
pub latest-page : (nexuses places n : ℕ) (calls : List Call) → (nexus_at (run nexuses places calls) n).lock ≡ true → LatestPage n (power_on nexuses places) calls
latest-page nexuses places n calls locked = choose (look n calls (power_on nexuses places) locked)
  where
    choose : Seen n (power_on nexuses places) calls → LatestPage n (power_on nexuses places) calls
    choose (quiet q k) = clash k (power-unlocked nexuses places n)
    choose (sent r) = r

-- ---- the calls since

-- while the nexus sends no page, what holds stays, and the calls that act on its place are noted
later-good : (n : ℕ) (l : List Call) (k : ℕ) (s : State) (m : Mark) → Steady k s l → silent n (ran_from s l) ≡ true → Good n m s
    → Good n (record { left = m.left; touched = m.touched || touched m.left (ran_from s l) }) (run_from s l)
unfolding run_from ran_from silent touched
later-good n [] k s m f h g = rw or-false g
later-good n (c ∷ l) k s m f h g =
    let other : accepts n (effect s c) ≡ false = not-true _ (and_left _ (silent n (ran_from (after s c) l)) h) in
    rw (← or_assoc) (later-good n l (drew_of k (actions s c) (effect s c)) (after s c) _ (rest k s c l f) (and_right (not (accepts n (effect s c))) _ h) (other-good by_number n m s (effect s c) other (one k s c l f) g))

-- a page of its own, and the calls since
page-good : (n : ℕ) (page : Call) (later : List Call) (k : ℕ) (s : State) → Base n s → Steady k s (page ∷ later) → accepts n (effect s page) ≡ true → silent n (ran_from (after s page) later) ≡ true
    → Good n (record { left = selected (after s page) n; touched = touched (selected (after s page) n) (ran_from (after s page) later) }) (run_from (after s page) later)
page-good n page later k s b f a h =
    later-good n later (drew_of k (actions s page) (effect s page)) (after s page) (record { left = selected (after s page) n; touched = false }) (rest k s page later f) h
    (own-good by_number n s (effect s page) b a (one k s page later f))

-- before it there may be others
run-good : (n k : ℕ) (s : State) (calls : List Call) → Base n s → Steady k s calls → (x : LatestPage n s calls)
    → Good n (record { left = selected (left_by x) n; touched = touched (selected (left_by x) n) (ran_from (left_by x) x.later) }) (run_from s calls)
unfolding run_from
run-good n k s calls b f x =
    let all : Steady k s (x.before ++ x.page ∷ x.later) = rw x.parts at f in
    let base : Base n (run_from s x.before) = record {
      here = rw (run-size x.before s).nexuses b.here;
      some = rw (run-size x.before s).places b.some;
      sound = run_sound x.before k s (steady-first x.before (x.page ∷ x.later) k s all) b.sound;
    } in
    let whole : run_from s calls ≡ run_from (left_by x) x.later = ap (run_from s) x.parts ∙ run-append x.before (x.page ∷ x.later) s in
    rw whole (page-good n x.page x.later (drew_from k s x.before) (run_from s x.before) base (steady-later x.before (x.page ∷ x.later) k s all) x.accepted x.silence)

-- ---- the write

-- checks 11 and 12 answer 11 exactly if check 11 finds a fault
own-eleven : (a b : Bool) → eqb (number_of (first_of (answer_if a KeyInstanceChanged ∷ answer_if b ParametersNotUsable ∷ []))) 11 ≡ a
own-eleven true b = refl
own-eleven false true = refl
own-eleven false false = refl

-- so does a write of a locked nexus that passes checks 1 to 4
heard-eleven : (s : State) (n : ℕ) (supported : Bool) → is_heard s n ≡ true → (nexus_at s n).lock ≡ true → is_stopped s n supported ≡ not (eqb (nexus_at s n).saved (selected_set s n).number)
heard-eleven s n supported h l =
    let differ : Bool = not (eqb (nexus_at s n).saved (selected_set s n).number) in
    ap (λ a. eqb (number_of a) 11) (own-answer s n supported h)
    ∙ own-eleven ((nexus_at s n).lock && differ) (encrypts (selected_set s n).fields.encryption && not supported)
    ∙ ap (λ b. b && differ) l

-- since power-on, of calls whose draws never wrap: it is answered 11 exactly if a later call acted on the place that the page left
pub stopped-since : (nexuses places : ℕ) → 0 < places → (calls : List Call) → Calm 0 (power_on nexuses places) calls
    → (n : ℕ) → n < nexuses → (supported : Bool) → is_heard (run nexuses places calls) n ≡ true → (nexus_at (run nexuses places calls) n).lock ≡ true
    → (x : LatestPage n (power_on nexuses places) calls) → is_stopped (run nexuses places calls) n supported ≡ touched (selected (left_by x) n) (ran_from (left_by x) x.later)
stopped-since nexuses places some calls calm n here supported heard locked x =
    let base : Base n (power_on nexuses places) = record { here = rw (power-nexuses nexuses places) here; some = rw (power-places nexuses places) some; sound = power-sound nexuses places } in
    let good = run-good n 0 (power_on nexuses places) calls base (power-steady nexuses places calls calm) x in
    heard-eleven (run nexuses places calls) n supported heard locked
    ∙ agree _ (view n (run nexuses places calls)) (good.held locked)
