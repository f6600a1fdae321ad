-- Demand 3, for any number of nexuses and places and every history that draws less than 2 ^ 32 numbers since its latest power-on.
-- Assumes nothing.
use Rattle.std.specs.Prelude.{Some, None}
use Prim.Native.Nat.{ℕ, suc, ◌+◌, ◌<◌, ◌^◌}
use mathlib.Core.Bool.{Bool, true, not}
use mathlib.Core.List.{List, ◌∷◌, ◌++◌, append_assoc}
use mathlib.Core.Path.{◌≡◌, sym, ◌∙◌, ap, ap₂}
use lib.Dec.{eqb}
use lib.ListN.{length}
use Rattle.arrays.proofs.Base.{clash}
use Rattle.device.specs.Record.{State, power_on, set_at, nexus_at, used}
use Rattle.device.specs.Selecting.{selected}
use Rattle.drive.specs.Calls.{Call}
use Rattle.drive.specs.After.{after}
use Rattle.drive.specs.Runs.{run_from, run}
use Rattle.history.specs.History.{Did, ran_from, bare, read_from, reading, is_heard, is_stopped, touched, Latest, place_left, LatestPage, left_by, place_number, drew, First, Trail, is_found, trail}
use Rattle.history.proofs.Numbers.{Sound, power-sound}
use Rattle.history.proofs.Runs.{run-append, read-append, Calm, power-steady, run_sound, reading-is-run}
use Rattle.history.proofs.Latest.{latest-page, stopped-since}
use Rattle.history.proofs.Trails.{latest-is-one, page-did, trail-latest, found-touched, first-is}
use Rattle.history.proofs.Cut.{Cut, cut}

-- ---- what comes before the latest power-on

-- a latest page stays one with more calls before
unfoldable pub latest-after : (n : ℕ) (a l k : List Did) → k ≡ a ++ l → Latest n l → Latest n k
latest-after n a l k e x = record {
  before = a ++ x.before;
  page = x.page;
  later = x.later;
  parts = e ∙ ap (λ r. a ++ r) x.parts ∙ sym (append_assoc a x.before (x.page ∷ x.later));
  accepted = x.accepted;
  silence = x.silence;
}

module _ (n : ℕ) (s : State) (a l calls : List Call) (e : calls ≡ a ++ l) (same : run_from s a ≡ s) (x : LatestPage n s l) where
  -- the record that the page came to
  came : run_from s (a ++ x.before) ≡ run_from s x.before
  came = run-append a x.before s ∙ ap (λ t. run_from t x.before) same

  -- so does a latest page of a run, where those calls leave the record as it was
  unfoldable page-after : LatestPage n s calls
  page-after = record {
    before = a ++ x.before;
    page = x.page;
    later = x.later;
    parts = e ∙ ap (λ r. a ++ r) x.parts ∙ sym (append_assoc a x.before (x.page ∷ x.later));
    answered = rw came x.answered;
    accepted = rw came x.accepted;
    silence = rw came x.silence;
  }

module _ (nexuses places : ℕ) (calls : List Call) where
  abbrev start : State
  start = power_on nexuses places

  abbrev at : Cut nexuses places start (bare start) calls (drew nexuses places calls)
  at = cut nexuses places calls

  -- the record is that of the calls since
  run-since : run nexuses places calls ≡ run nexuses places at.since
  run-since = ap (run_from start) at.parts ∙ run-append at.before at.since start ∙ ap (λ s. run_from s at.since) at.ran

  module _ (fits : drew nexuses places calls < 2 ^ 32) where
    -- their draws never wrap
    calm-since : Calm 0 start at.since
    calm-since = at.calm fits

    -- the reading ends with what they did
    reading-since : 0 < places → reading nexuses places calls ≡ read_from (bare start) at.before ++ ran_from start at.since
    reading-since some =
        ap (read_from (bare start)) at.parts
        ∙ read-append at.before at.since (bare start)
        ∙ ap (λ b. read_from (bare start) at.before ++ read_from b at.since) at.read
        ∙ ap (λ r. read_from (bare start) at.before ++ r) (reading-is-run nexuses places some at.since calm-since).0

    module _ (some : 0 < places) (n : ℕ) (known : n < nexuses) (supported : Bool) (heard : is_heard (run nexuses places calls) n ≡ true) (locked : (nexus_at (run nexuses places calls) n).lock ≡ true) where
      -- a locked nexus's latest page came since
      page-since : LatestPage n start at.since
      page-since = latest-page nexuses places n at.since (rw run-since at locked)

      -- and its write is answered by what came after that
      stopped-is : is_stopped (run nexuses places calls) n supported ≡ touched (selected (left_by page-since) n) (ran_from (left_by page-since) page-since.later)
      stopped-is =
          ap (λ s. is_stopped s n supported) run-since
          ∙ stopped-since nexuses places some at.since calm-since n known supported (rw run-since at heard) (rw run-since at locked) page-since

-- ---- demand 3

-- Demand 3: a locked nexus whose write meets no refusal before check 11 has a latest accepted page that was not supplemental, and the
-- write is answered 11 exactly if a later call established, replaced or released what the place held that the page left the nexus
-- using. No instance number is looked at to tell which page, which place and which calls.
pub demand3 : (nexuses places : ℕ) → 0 < places → (calls : List Call) → drew nexuses places calls < 2 ^ 32
    → (n : ℕ) → n < nexuses → (supported : Bool) → is_heard (run nexuses places calls) n ≡ true → (nexus_at (run nexuses places calls) n).lock ≡ true
    → (x : Latest n (reading nexuses places calls)) × (is_stopped (run nexuses places calls) n supported ≡ touched (place_left x) x.later)
unfolding latest-after page-did
demand3 nexuses places some calls fits n known supported heard locked =
    let s : State = power_on nexuses places in
    let c = cut nexuses places calls in
    let x = page-since nexuses places calls fits some n known supported heard locked in (
      latest-after n (read_from (bare s) c.before) (ran_from s c.since) (reading nexuses places calls) (reading-since nexuses places calls fits some) (page-did n s c.since x),
      stopped-is nexuses places calls fits some n known supported heard locked,
    )

-- Since a latest page is one, that holds of whichever is shown.
pub demand3-shown : (nexuses places : ℕ) → 0 < places → (calls : List Call) → drew nexuses places calls < 2 ^ 32
    → (n : ℕ) → n < nexuses → (supported : Bool) → is_heard (run nexuses places calls) n ≡ true → (nexus_at (run nexuses places calls) n).lock ≡ true
    → (x : Latest n (reading nexuses places calls)) → is_stopped (run nexuses places calls) n supported ≡ touched (place_left x) x.later
demand3-shown nexuses places some calls fits n known supported heard locked x =
    let r = demand3 nexuses places some calls fits n known supported heard locked in
    let same = latest-is-one n (reading nexuses places calls) r.0 x in
    r.1 ∙ ap₂ (λ (d : Did) l. touched (d.uses n) l) same.1 same.2

-- The same of the run itself: the latest page is the nexus's latest whose answer in the run was 0 and that was not supplemental, and
-- the later calls acted as they did in the run.
pub demand3-run : (nexuses places : ℕ) → 0 < places → (calls : List Call) → drew nexuses places calls < 2 ^ 32
    → (n : ℕ) → n < nexuses → (supported : Bool) → is_heard (run nexuses places calls) n ≡ true → (nexus_at (run nexuses places calls) n).lock ≡ true
    → (x : LatestPage n (power_on nexuses places) calls) × (is_stopped (run nexuses places calls) n supported ≡ touched (selected (left_by x) n) (ran_from (left_by x) x.later))
unfolding page-after
demand3-run nexuses places some calls fits n known supported heard locked =
    let s : State = power_on nexuses places in
    let c = cut nexuses places calls in
    let x = page-since nexuses places calls fits some n known supported heard locked in (
      page-after n s c.before c.since calls c.parts c.ran x,
      stopped-is nexuses places calls fits some n known supported heard locked
          ∙ ap (λ t. touched (selected (after t x.page) n) (ran_from (after t x.page) x.later)) (sym (came n s c.before c.since calls c.parts c.ran x)),
    )

-- The first such call: the one reading of the whole history has the place that the latest page left the nexus using; the write is answered
-- 11 exactly if it has a position; and that is the position, counted from 0 at power-on, of the first later call that acted on the place
pub first-touch : (nexuses places : ℕ) → 0 < places → (calls : List Call) → drew nexuses places calls < 2 ^ 32
    → (n : ℕ) → n < nexuses → (supported : Bool) → is_heard (run nexuses places calls) n ≡ true → (nexus_at (run nexuses places calls) n).lock ≡ true
    → (x : Latest n (reading nexuses places calls))
    × ((trail nexuses places n calls).left ≡ place_left x)
    × (is_stopped (run nexuses places calls) n supported ≡ is_found (trail nexuses places n calls).first)
    × ((position : ℕ) → (trail nexuses places n calls).first ≡ Some position → (k : ℕ) × (position ≡ suc (length x.before) + k) × First (place_left x) x.later k)
unfolding trail
first-touch nexuses places some calls fits n known supported heard locked =
    let r = demand3 nexuses places some calls fits n known supported heard locked in
    let x : Latest n (reading nexuses places calls) = r.0 in
    let i : ℕ = suc (length x.before) in
    let t = trail-latest n (reading nexuses places calls) x (record { left = 0; first = None }) in (
      x,
      ap (λ (y : Trail). y.left) t,
      r.1 ∙ sym (found-touched (place_left x) i x.later) ∙ ap (λ (y : Trail). is_found y.first) (sym t),
      λ position e. first-is (place_left x) i x.later position (sym (ap (λ (y : Trail). y.first) t) ∙ e),
    )

-- ---- the numbers

-- Two sets never share a number before the wrap: a used place and any other have different ones.
pub numbers_apart : (nexuses places : ℕ) (calls : List Call) → drew nexuses places calls < 2 ^ 32
    → (p q : ℕ) → used (set_at (run nexuses places calls) p) ≡ true → (p ≡ q → ⊥) → place_number (run nexuses places calls) p ≡ place_number (run nexuses places calls) q → ⊥
numbers_apart nexuses places calls fits p q u ne e =
    let sound : Sound (run nexuses places calls) =
    rw (run-since nexuses places calls) (run_sound (cut nexuses places calls).since 0 (power_on nexuses places) (power-steady nexuses places (cut nexuses places calls).since (calm-since nexuses places calls fits)) (power-sound nexuses places)) in
    clash u (ap (λ k. not (eqb k 0)) (sound.born p (sound.apart p q e ne)))
