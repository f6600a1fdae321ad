-- The reading of a whole history, by the parts of the history before and after the nexus's latest page.
-- Assumes nothing.
use Rattle.std.specs.Prelude.{ℕ, Option, Some, None}
use Prim.Native.Nat.{ℕ, suc, ◌+◌}
use mathlib.Core.Bool.{Bool, true, false, not, ◌||◌}
use mathlib.Core.List.{List, [], ◌∷◌, ◌++◌}
use mathlib.Core.Path.{◌≡◌, refl, sym, ◌∙◌, ap, ap₂}
use native.Mathlib.Nat.{zero-add, suc-add, add-suc, add-zero}
use native.Mathlib.Omega.{arith}
use lib.ListN.{length}
use borrow.Author.Tests.{not-true}
use Rattle.arrays.specs.Base.{when◌then◌else◌}
use Rattle.arrays.proofs.Base.{cases, clash, and_left, and_right, if-true, if-false}
use Rattle.drive.specs.Calls.{Call}
use Rattle.device.specs.Record.{State}
use Rattle.drive.specs.After.{after}
use Rattle.drive.specs.Runs.{run_from}
use Rattle.history.specs.History.{Did, did, ran_from, accepts, hits, silent, touched, Latest, place_left, LatestPage, first_touched, First, Trail, earlier, is_found, followed, trail_over}
use Rattle.history.proofs.Runs.{ran_append}

-- ---- there is one latest page

-- who has sent a page was not silent
not-silent : (n : ℕ) (before : List Did) (page : Did) (later : List Did) → accepts n page.effect ≡ true → silent n (before ++ page ∷ later) ≡ true → ⊥
unfolding silent
not-silent n [] page later a h = clash a (not-true _ (and_left _ _ h))
not-silent n (d ∷ before) page later a h = not-silent n before page later a (and_right (not (accepts n d.effect)) _ h)

-- two lists cut in two places
cut-once : (n : ℕ) (a b : List Did) (x y : Did) (u v : List Did) → a ++ x ∷ u ≡ b ++ y ∷ v → accepts n x.effect ≡ true → accepts n y.effect ≡ true → silent n u ≡ true → silent n v ≡ true → (a ≡ b) × (x ≡ y) × (u ≡ v)
cut-once n [] [] x y u v e p q h k = (refl, cc, cc)
cut-once n [] (z ∷ b) x y u v e p q h k =
    let rest : u ≡ b ++ y ∷ v = cc in
    absurd (not-silent n b y v q (rw rest at h))
cut-once n (z ∷ a) [] x y u v e p q h k =
    let rest : a ++ x ∷ u ≡ v = cc in
    absurd (not-silent n a x u p (rw (sym rest) at k))
cut-once n (z ∷ a) (w ∷ b) x y u v e p q h k =
    let rest : a ++ x ∷ u ≡ b ++ y ∷ v = cc in
    let first : z ≡ w = cc in
    let r = cut-once n a b x y u v rest p q h k in
    (ap₂ {C = List Did} ◌∷◌ first r.0, r.1, r.2)

-- A nexus's latest page is one: any two that are said to be it are the same, with the same calls before and after.
pub latest-is-one : (n : ℕ) (l : List Did) (x y : Latest n l) → (x.before ≡ y.before) × (x.page ≡ y.page) × (x.later ≡ y.later)
latest-is-one n l x y =
    cut-once n x.before y.before x.page y.page x.later y.later (sym x.parts ∙ y.parts) x.accepted y.accepted x.silence y.silence

-- the page of a run is what its call did
unfoldable pub page-did : (n : ℕ) (s : State) (calls : List Call) → LatestPage n s calls → Latest n (ran_from s calls)
unfolding ran_from
page-did n s calls x = record {
  before = ran_from s x.before;
  page = did (run_from s x.before) x.page (after (run_from s x.before) x.page);
  later = ran_from (after (run_from s x.before) x.page) x.later;
  parts = ap (ran_from s) x.parts ∙ ran_append x.before (x.page ∷ x.later) s;
  accepted = x.accepted;
  silence = x.silence;
}

-- a history is as long as its calls
pub ran-length : (l : List Call) (s : State) → length (ran_from s l) ≡ length l
unfolding ran_from
ran-length [] s = refl
ran-length (c ∷ l) s = ap suc (ran-length l (after s c))

-- two cuts of a list at the same length
cut-alike : (a b : List Call) (x y : Call) (u v : List Call) → length a ≡ length b → a ++ x ∷ u ≡ b ++ y ∷ v → (a ≡ b) × (x ≡ y) × (u ≡ v)
cut-alike [] [] x y u v l e = (refl, cc, cc)
cut-alike [] (z ∷ b) x y u v l e = absurd (omega arith)
cut-alike (z ∷ a) [] x y u v l e = absurd (omega arith)
cut-alike (z ∷ a) (w ∷ b) x y u v l e =
    let rest : a ++ x ∷ u ≡ b ++ y ∷ v = cc in
    let first : z ≡ w = cc in
    let r = cut-alike a b x y u v (omega arith) rest in
    (ap₂ {C = List Call} ◌∷◌ first r.0, r.1, r.2)

-- So it is among the calls of a run.
pub latest-page-is-one : (n : ℕ) (s : State) (calls : List Call) (x y : LatestPage n s calls) → (x.before ≡ y.before) × (x.page ≡ y.page) × (x.later ≡ y.later)
unfolding page-did
latest-page-is-one n s calls x y =
    let same = (latest-is-one n (ran_from s calls) (page-did n s calls x) (page-did n s calls y)).0 in
    let long : length x.before ≡ length y.before = sym (ran-length x.before s) ∙ ap length same ∙ ran-length y.before s in
    cut-alike x.before y.before x.page y.page x.later y.later long (sym x.parts ∙ y.parts)

-- ---- the reading

-- two histories, one after the other
trail-append : (n : ℕ) (a b : List Did) (i : ℕ) (t : Trail) → trail_over n i (a ++ b) t ≡ trail_over n (i + length a) b (trail_over n i a t)
unfolding trail_over
trail-append n [] b i t = rw add-zero refl
trail-append n (d ∷ a) b i t = rw (add-suc i (length a), ← suc-add i (length a)) (trail-append n a b (suc i) (followed n i d t))

-- the first of three
earlier-if : (f : Option ℕ) (b : Bool) (i : ℕ) (r : Option ℕ) → earlier (earlier f (when b then Some i else None)) r ≡ earlier f (when b then Some i else r)
earlier-if (Some j) b i r = refl
earlier-if None true i r = refl
earlier-if None false i r = refl

-- the first of one
earlier-nowhere : (f : Option ℕ) → earlier f None ≡ f
earlier-nowhere (Some j) = refl
earlier-nowhere None = refl

-- while the nexus sends no page, the place stays, and the first action on it is noted
trail-silent : (n : ℕ) (l : List Did) (i : ℕ) (t : Trail) → silent n l ≡ true → trail_over n i l t ≡ record { left = t.left; first = earlier t.first (first_touched t.left i l) }
unfolding trail_over silent first_touched followed
trail-silent n [] i t h = ap (λ f. record { left = t.left; first = f }) (sym (earlier-nowhere t.first))
trail-silent n (d ∷ l) i t h =
    let other : accepts n d.effect ≡ false = not-true _ (and_left _ (silent n l) h) in
    let next : Trail = record { left = t.left; first = earlier t.first (when hits t.left d.actions then Some i else None) } in
    ap (trail_over n (suc i) l) (if-false (accepts n d.effect) _ _ other)
    ∙ trail-silent n l (suc i) next (and_right (not (accepts n d.effect)) _ h)
    ∙ ap (λ f. record { left = t.left; first = f }) (earlier-if t.first (hits t.left d.actions) i (first_touched t.left (suc i) l))

-- the nexus's latest page, and the calls after it
trail-page : (n : ℕ) (page : Did) (later : List Did) (i : ℕ) (t : Trail) → accepts n page.effect ≡ true → silent n later ≡ true
    → trail_over n i (page ∷ later) t ≡ record { left = page.uses n; first = first_touched (page.uses n) (suc i) later }
unfolding trail_over followed
trail-page n page later i t a h =
    ap (trail_over n (suc i) later) (if-true (accepts n page.effect) _ _ a)
    ∙ trail-silent n later (suc i) (record { left = page.uses n; first = None }) h

-- the reading of the whole is the place that the latest page left, and the first later call that acted on it
pub trail-latest : (n : ℕ) (l : List Did) (x : Latest n l) (t : Trail) → trail_over n 0 l t ≡ record { left = place_left x; first = first_touched (place_left x) (suc (length x.before)) x.later }
trail-latest n l x t =
    ap (λ k. trail_over n 0 k t) x.parts
    ∙ trail-append n x.before (x.page ∷ x.later) 0 t
    ∙ trail-page n x.page x.later (0 + length x.before) (trail_over n 0 x.before t) x.accepted x.silence
    ∙ ap (λ i. record { left = place_left x; first = first_touched (place_left x) (suc i) x.later }) (zero-add (length x.before))

-- ---- the first call that acts on a place

-- some call does exactly if a first one does
pub found-touched : (place i : ℕ) (l : List Did) → is_found (first_touched place i l) ≡ touched place l
unfolding first_touched touched
found-touched place i [] = refl
found-touched place i (d ∷ l) =
    cases (hits place d.actions)
    (λ t. rw t)
    (λ t. rw t (found-touched place (suc i) l))

-- a position is found once
at_once : (i j : ℕ) → Some i ≡ Some j → i ≡ j
at_once i j e = cc

-- and it is what it is said to be
pub first-is : (place i : ℕ) (l : List Did) (j : ℕ) → first_touched place i l ≡ Some j → (k : ℕ) × (j ≡ i + k) × First place l k
unfolding first_touched touched
first-is place i [] j e = absurd (let z : ◌≡◌ {A = ℕ} 0 1 = cc in omega arith)
first-is place i (d ∷ l) j e =
    cases (hits place d.actions)
    (λ t.
    let here : i ≡ j = at_once i j (sym (if-true _ _ _ t) ∙ e) in
    (0, omega (arith, here), record { before = []; call = d; later = l; parts = refl; counted = refl; untouched = refl; touches = t }))
    (λ t.
    let r = first-is place (suc i) l j (sym (if-false _ _ _ t) ∙ e) in
    let f : First place l r.0 = r.2 in (
      suc r.0,
      omega (arith, r.1),
      record {
        before = d ∷ f.before;
        call = f.call;
        later = f.later;
        parts = ap {B = List Did} (d ∷◌) f.parts;
        counted = ap suc f.counted;
        untouched = ap₂ ◌||◌ t f.untouched;
        touches = f.touches;
      },
    ))
