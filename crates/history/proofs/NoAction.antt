-- Effects that are no action on a place.
-- Assumes nothing.
use Rattle.std.specs.Prelude.{ℕ, Option, Some, None}
use Prim.Native.Nat.{ℕ, suc, ◌+◌}
use mathlib.Core.Bool.{Bool, true, false, not, ◌&&◌, ◌||◌}
use mathlib.Core.List.{List, [], ◌∷◌, ◌++◌}
use mathlib.Core.Path.{◌≡◌, refl, sym, ◌∙◌, ap, ap₂}
use native.Mathlib.Nat.{zero-add}
use native.Mathlib.Omega.{arith}
use lib.Dec.{eqb}
use lib.ListN.{get_or}
use borrow.Author.Tests.{eqb-true, ne_eqb}
use Rattle.arrays.specs.Base.{when◌then◌else◌}
use Rattle.arrays.specs.Arrays.{fold_from, find}
use Rattle.arrays.proofs.Base.{cases, clash, and_left, if-elim, if-true, if-false, or_left_false}
use Rattle.arrays.proofs.Laws.{find-by}
use Rattle.parameters.specs.declared.Fields.{Fields}
use Rattle.page.specs.declared.Page.{Page}
use Rattle.parameters.specs.Codes.{local_scope, all_scope}
use Rattle.device.specs.Record.{State, set_at, nexus_at, no_set, empty, used}
use Rattle.device.specs.Selecting.{owns, owned_place}
use Rattle.device.specs.declared.Set.{Set}
use Rattle.places.specs.Actions.{release, establish, releases, own_place, release_found, release_own, empty_local, unlocked_local, free_at, evicting_at, room, establish_in, page_actions, released_by}
use Rattle.places.specs.declared.Event.{Event}
use Rattle.drive.specs.Effects.{Effect, nothing, marks, takes, clears, releasing, restarts}
use Rattle.drive.specs.After.{actions_of, actions}
use Rattle.drive.specs.Calls.{read}
use Rattle.drive.specs.declared.Block.{Block}
use Rattle.drive.proofs.Restoring.{read-leaves}
use Rattle.history.specs.History.{hits, Establishes}
use Rattle.places.proofs.Sender.{supplemental-actions}

-- a read is none
pub read-no-action : (s : State) (n : ℕ) (block : Block) → actions s (read n block) ≡ []
read-no-action s n block = (read-leaves s n block).acts

-- a supplemental key is no action
pub supplemental-no-action : (s : State) (n : ℕ) (page : Page) → page.supplemental ≡ true → actions_of s (takes n page) ≡ []
unfolding actions_of
supplemental-no-action = supplemental-actions

module _ (picked : ℕ → Set → Bool) (place : ℕ) where
  -- from any place on
  missed-from : (l : List Set) (k : ℕ) → ((i : ℕ) → place ≡ k + i → empty (get_or l i no_set) ≡ true) → hits place (fold_from (λ p set rest. when used set && picked p set then release p ∷ rest else rest) [] k l) ≡ false
  unfolding hits
  missed-from [] k h = refl
  missed-from (x ∷ l) k h =
      let rest = missed-from l (suc k) (λ i e. h (suc i) (omega arith)) in
      if-elim (λ a. hits place a ≡ false) (used x && picked k x)
      (λ t. ap₂ ◌||◌ (ne_eqb place k (λ e. clash (and_left (used x) _ t) (ap not (h 0 (omega arith))))) rest)
      (λ t. rest)

  -- no releases are on an empty place
  empty-missed : (l : List Set) → empty (get_or l place no_set) ≡ true → hits place (releases picked l) ≡ false
  unfolding releases
  empty-missed l e = missed-from l 0 (λ i h. ap (λ j. empty (get_or l j no_set)) (sym (h ∙ zero-add i)) ∙ e)

-- an event is no action on an empty place
pub empty-release-no-action : (s : State) (event : Event) (place : ℕ) → empty (set_at s place) ≡ true → hits place (actions_of s (releasing event)) ≡ false
unfolding actions_of
empty-release-no-action s event place e = empty-missed (released_by event) place s.sets e

-- ---- place 0 while it is empty

-- a place found that isn't place 0
abbrev Later : Option ℕ → Type 0
Later f = hits 0 (release_found f) ≡ false

-- any other place is one
later-at : (k : ℕ) → (k ≡ 0 → ⊥) → Later (Some k)
unfolding hits
later-at k ne = ap (λ b. b || false) (ne_eqb 0 k (λ e. ne (sym e)))

-- a search whose test place 0 does not pass finds one
find-later : (p : ℕ → Set → Bool) (l : List Set) → (p 0 (get_or l 0 no_set) ≡ false) → Later (find Some None p l)
unfolding hits
find-later p l e =
    find-by Some None p no_set Later l
    (λ k h t. later-at k (λ z. clash t (ap (λ j. p j (get_or l j no_set)) z ∙ e)))
    refl

-- so does the search for a nexus's own place
own-later : (s : State) (n : ℕ) → empty (set_at s 0) ≡ true → Later (own_place s n)
unfolding own_place owned_place hits
own-later s n e =
    if-elim Later (eqb (nexus_at s n).scope local_scope)
    (λ t. find-later (λ place. owns n) s.sets (ap (λ k. eqb k local_scope && eqb (set_at s 0).owner n) (eqb-true (set_at s 0).scope 0 e)))
    (λ t. refl)

-- a LOCAL page takes one of three that are found
rooms : (own free lent : Option ℕ) (n : ℕ) (fields : Fields) → Later own → Later free → Later lent → hits 0 (establish_in (free_at own (free_at free (evicting_at lent))) n fields) ≡ false
unfolding hits
rooms (Some k) free lent n fields a b c = a
rooms None (Some k) lent n fields a b c = b
rooms None None (Some k) n fields a b c = ap₂ ◌||◌ (or_left_false (eqb 0 k) false c) c
rooms None None None n fields a b c = refl

-- so it does not take place 0
room-later : (s : State) (n : ℕ) (fields : Fields) → empty (set_at s 0) ≡ true → hits 0 (establish_in (room s n) n fields) ≡ false
unfolding room
room-later s n fields e =
    rooms (own_place s n) (find Some None empty_local s.sets) (find Some None (unlocked_local s) s.sets) n fields
    (own-later s n e) (find-later empty_local s.sets refl) (find-later (unlocked_local s) s.sets refl)

-- a page that acts on it is of scope ALL and isn't supplemental
page-establishes : (s : State) (n : ℕ) (page : Page) → empty (set_at s 0) ≡ true → hits 0 (page_actions s n page) ≡ true
    → (page.supplemental ≡ false) × (page_actions s n page ≡ release_own s n ++ establish 0 n all_scope page.fields ∷ [])
unfolding page_actions hits
page-establishes s n page e h =
    cases page.supplemental
    (λ t. clash h (ap (hits 0) (if-true _ _ _ t)))
    (λ t. cases (eqb page.scope local_scope)
    (λ l. clash h (ap (hits 0) (if-false _ _ _ t ∙ if-true _ _ _ l) ∙ room-later s n page.fields e))
    (λ l. cases (eqb page.scope all_scope)
    (λ a. (t, if-false _ _ _ t ∙ if-false _ _ _ l ∙ if-true _ _ _ a))
    (λ a. clash h (ap (hits 0) (if-false _ _ _ t ∙ if-false _ _ _ l ∙ if-false _ _ _ a) ∙ own-later s n e))))

-- place 0 while it is empty is acted on only by being established
pub default-only-replaced : (s : State) (e : Effect) → empty (set_at s 0) ≡ true → hits 0 (actions_of s e) ≡ true → Establishes s e
unfolding actions_of hits
default-only-replaced s nothing z h = clash h refl
default-only-replaced s (marks n change) z h = clash h refl
default-only-replaced s (takes n page) z h =
    let r = page-establishes s n page z h in
    record { sender = n; page = page; taken = refl; fresh = r.0; acts = r.1 }
default-only-replaced s clears z h = clash h refl
default-only-replaced s (releasing event) z h = clash h (empty-release-no-action s event 0 z)
default-only-replaced s restarts z h = clash h refl
