-- What an effect leaves of the sets and the counter: what its actions leave.
-- Assumes nothing.
use Rattle.std.specs.Prelude.{ℕ, Option}
use Prim.Native.Nat.{ℕ}
use mathlib.Core.Bool.{Bool, false}
use mathlib.Core.List.{map}
use mathlib.Core.Path.{◌≡◌, refl, sym, ◌∙◌, ap}
use lib.Seq.{map-set_same}
use Rattle.arrays.proofs.Base.{cases, clash}
use Rattle.page.specs.declared.Page.{Page}
use Rattle.device.specs.Record.{State, set_at, no_set}
use Rattle.device.specs.Updates.{with_supplemental}
use Rattle.device.specs.Selecting.{selected}
use Rattle.parameters.specs.declared.Supplemental.{Supplemental}
use Rattle.device.specs.declared.Set.{Set}
use Rattle.marks.specs.Marks.{changes, flagged}
use Rattle.marks.specs.Reset.{cleared}
use Rattle.places.specs.Actions.{acts, page_actions, sender_after, appended, supplemented, taken}
use Rattle.places.proofs.Sender.{supplemental-actions, taken-supplemental, taken-whole}
use Rattle.drive.specs.Effects.{Effect, nothing, marks, takes, clears, releasing, restarts}
use Rattle.drive.specs.After.{actions_of, changed_by, Telling, carried_out}
use Rattle.drive.proofs.Effects.{is_restart}

-- ---- a page

-- the counter
taken-counter : (s : State) (n : ℕ) (page : Page) → (taken s n page).counter ≡ (acts s (page_actions s n page)).counter
unfolding supplemented sender_after acts
taken-counter s n page =
    cases page.supplemental
    (λ t. ap (λ (x : State). x.counter) (taken-supplemental s n page t) ∙ ap (λ l. (acts s l).counter) (sym (supplemental-actions s n page t)))
    (λ t. ap (λ (x : State). x.counter) (taken-whole s n page t))

module _ {B : Type 0} (r : Set → B) (e : (k : Supplemental) (x : Set) → r (with_supplemental k x) ≡ r x) where
  -- whatever else than supplemental keys is read of the sets: a supplemental key keeps it
  pub supplemented-same : (s : State) (n : ℕ) (page : Page) → map r (supplemented s n page).sets ≡ map r s.sets
  unfolding supplemented
  supplemented-same s n page =
      let x : Set = set_at s (selected s n) in
      map-set_same r s.sets (selected s n) (with_supplemental (appended page.fields.key x.supplemental) x) no_set (e (appended page.fields.key x.supplemental) x)

  -- and a page leaves it as its actions do
  taken-same : (s : State) (n : ℕ) (page : Page) → map r (taken s n page).sets ≡ map r (acts s (page_actions s n page)).sets
  unfolding sender_after acts
  taken-same s n page =
      cases page.supplemental
      (λ t.
      ap (λ (x : State). map r x.sets) (taken-supplemental s n page t)
      ∙ supplemented-same s n page
      ∙ ap (λ l. map r (acts s l).sets) (sym (supplemental-actions s n page t)))
      (λ t. ap (λ (x : State). map r x.sets) (taken-whole s n page t))

  -- ---- any effect but power-on

  pub changed-same : (s : State) (x : Effect) → is_restart x ≡ false → map r (changed_by s x).sets ≡ map r (acts s (actions_of s x)).sets
  unfolding changed_by actions_of acts changes cleared
  changed-same s nothing f = refl
  changed-same s (marks n change) f = refl
  changed-same s (takes n page) f = taken-same s n page
  changed-same s clears f = refl
  changed-same s (releasing event) f = refl
  changed-same s restarts f = clash refl f

-- the counter
pub changed-counter : (s : State) (x : Effect) → is_restart x ≡ false → (changed_by s x).counter ≡ (acts s (actions_of s x)).counter
unfolding changed_by actions_of acts changes cleared
changed-counter s nothing f = refl
changed-counter s (marks n change) f = refl
changed-counter s (takes n page) f = taken-counter s n page
changed-counter s clears f = refl
changed-counter s (releasing event) f = refl
changed-counter s restarts f = clash refl f

-- to tell nexuses changes nothing that a flag does not
pub told_same : {B : Type 0} (r : State → B) → ((differ : ℕ → Bool) (actor : Option ℕ) (s t : State) → r (flagged differ actor s t) ≡ r t) → (rule : Telling) (s : State) (x : Effect) → r (carried_out rule s x) ≡ r (changed_by s x)
unfolding carried_out
told_same r e rule s nothing = refl
told_same r e rule s (marks n change) = refl
told_same r e rule s (takes n page) = e _ _ s (changed_by s (takes n page))
told_same r e rule s clears = refl
told_same r e rule s (releasing event) = e _ _ s (changed_by s (releasing event))
told_same r e rule s restarts = refl
