-- What touches the set that a locked nexus uses, if not its own page: an event, or another nexus's ALL page while it uses place 0.
-- Assumes nothing.
use Rattle.std.specs.Prelude.{Some}
use Prim.Native.Nat.{ℕ, ◌<◌}
use mathlib.Core.Path.{◌≡◌, refl, sym, ap, ap₂, subst, ◌∙◌}
use mathlib.Core.Bool.{true, false}
use mathlib.Core.List.{List, [], ◌∷◌, ◌++◌}
use native.Mathlib.Omega.{arith}
use borrow.Author.Tests.{eqb-true, eqb-false}
use lib.Dec.{eqb}
use lib.ListN.{length}
use Rattle.arrays.specs.Base.{when◌then◌else◌}
use Rattle.arrays.proofs.Base.{cases, clash, if-true, if-false, if-elim, or-other}
use Rattle.parameters.specs.Codes.{local_scope, all_scope}
use Rattle.parameters.specs.declared.Fields.{Fields}
use Rattle.page.specs.declared.Page.{Page}
use Rattle.device.specs.Record.{State, set_at, nexus_at, used}
use Rattle.device.specs.Selecting.{selected}
use Rattle.device.specs.WellFormed.{well_formed}
use Rattle.device.proofs.Selecting.{Own, own, selected-within}
use Rattle.places.specs.Actions.{Action, establish, acts, release_found, release_own, room, establish_in, page_actions}
use Rattle.places.specs.declared.Room.{Room}
use Rattle.places.specs.declared.Room.TheVariants.{Free, Evicting, NoRoom}
use Rattle.places.proofs.Sender.{supplemental-actions}
use Rattle.drive.specs.Calls.{Call}
use Rattle.drive.specs.Effects.{Effect, nothing, marks, takes, clears, releasing, restarts, effect}
use Rattle.drive.specs.After.{actions_of, actions, carried_out, by_number}
use Rattle.kept.proofs.Kept.{own-by}
use Rattle.history.specs.History.{hits, accepts}
use Rattle.history.proofs.Numbers.{left_is}
use Rattle.history.proofs.Others.{other-sender}
use Rattle.why.specs.declared.Deed.TheVariants.{Established, Replaced, Evicted}
use Rattle.why.specs.Touches.{deed_of}
use Rattle.why.specs.Deeds.{deed_to, StoppedBy, released, replaced}
use Rattle.why.proofs.DeedsRooms.{RoomFor, room_for, uses-own}
use Rattle.why.proofs.DeedsActions.{hit-one, hit-two, hits-append, event-releasing, releasing-deed, last_set, shared-deed, rank}

-- ---- the place that a locked nexus uses, and another nexus's page

module _ (s : State) (w : well_formed s ≡ true) (n : ℕ) (locked : (nexus_at s n).lock ≡ true) (m : ℕ) (ne : m ≡ n → ⊥) where
  abbrev place : ℕ
  place = selected s n

  -- it is the nexus's own, if it is one of places 1 to 4
  mine : (k : ℕ) → place ≡ k → 0 < k → Own s n k
  mine k e later = subst (Own s n) e (uses-own s w n (omega (arith, e, later)))

  -- it isn't the other nexus's own place
  unreleased : hits place (release_own s m) ≡ false
  unfolding hits
  unreleased =
      own-by s w m (λ f. hits place (release_found f) ≡ false)
      (λ k l later o c. cases (hits place (release_found (Some k))) (λ h. absurd (ne (sym (own s w m k o).owner ∙ (mine k (hit-one h) later).owner))) (λ f. f))
      (λ z. refl)

  -- nor does a LOCAL set of that nexus's take it
  untaken : (r : Room) (fields : Fields) → RoomFor s m r → hits place (establish_in r m fields) ≡ true → ⊥
  unfolding hits
  untaken (Free k) fields v h =
      let o = mine k (hit-one h) v.later in
      ne (sym (v.mine o.taken) ∙ o.owner)
  untaken (Evicting k) fields v h =
      let o = mine k (hit-two h) v.later in
      clash (ap (λ (i : ℕ). (nexus_at s i).lock) o.owner ∙ locked) v.unlocked
  untaken NoRoom fields v h = clash h refl

  -- so a page of that nexus's acts on it only if the page is ALL and it is place 0
  page-stops : (page : Page) → page.supplemental ≡ false → hits place (page_actions s m page) ≡ true
      → (page.scope ≡ all_scope) × (place ≡ 0) × (page_actions s m page ≡ release_own s m ++ establish 0 m all_scope page.fields ∷ [])
  unfolding page_actions hits
  page-stops page fresh h =
      cases (eqb page.scope local_scope)
      (λ l. absurd (untaken (room s m) page.fields (room_for s w m) (sym (ap (hits place) (if-false _ _ _ fresh ∙ if-true _ _ _ l)) ∙ h)))
      (λ l. cases (eqb page.scope all_scope)
      (λ a.
      let same = if-false _ _ _ fresh ∙ if-false _ _ _ l ∙ if-true _ _ _ a in
      let h' = sym (hits-append place (release_own s m) (establish 0 m all_scope page.fields ∷ [])) ∙ sym (ap (hits place) same) ∙ h in
      (eqb-true _ _ a, hit-one (or-other (hits place (release_own s m)) _ h' unreleased), same))
      (λ a. clash h (ap (hits place) (if-false _ _ _ fresh ∙ if-false _ _ _ l ∙ if-false _ _ _ a) ∙ unreleased)))

-- ---- the whole

-- what the call did, from its effect and the place that the nexus uses
deed-of : (s : State) (n : ℕ) (call : Call) (e : Effect) (place : ℕ) → effect s call ≡ e → selected s n ≡ place → deed_to s n call ≡ deed_of (set_at s place) (set_at (carried_out by_number s e) place)
deed-of s n call e place same at = ap₂ (λ x k. deed_of (set_at s k) (set_at (carried_out by_number s x) k)) same at

-- what an ALL page did to place 0
all-deed : (s : State) (l : List Action) (m : ℕ) (fields : Fields) → 0 < length s.sets
    → deed_of (set_at s 0) (set_at (acts s (l ++ establish 0 m all_scope fields ∷ [])) 0) ≡ when used (set_at s 0) then Replaced else Established
all-deed s l m fields some =
    last_set (λ x. deed_of (set_at s 0) x ≡ when used (set_at s 0) then Replaced else Established) l (establish 0 m all_scope fields) s 0 some refl
    (λ number. shared-deed (set_at s 0) m number fields)

-- an effect that isn't the nexus's own page
stopped : (s : State) (w : well_formed s ≡ true) (n : ℕ) → 0 < length s.sets → (nexus_at s n).lock ≡ true → (call : Call) (e : Effect) → effect s call ≡ e
    → accepts n e ≡ false → hits (selected s n) (actions_of s e) ≡ true → StoppedBy s n call
unfolding actions_of hits
stopped s w n some locked call nothing same a h = clash h refl
stopped s w n some locked call (marks m change) same a h = clash h refl
stopped s w n some locked call (takes m page) same a h =
    cases page.supplemental
    (λ t. clash h (ap (hits (selected s n)) (supplemental-actions s m page t)))
    (λ fresh.
    let ne : m ≡ n → ⊥ = eqb-false m n (other-sender m n page a fresh) in
    let r = page-stops s w n locked m ne page fresh h in
    let deed = left_is by_number s (takes m page) (deed_of (set_at s 0)) (λ k x. refl) refl 0 ∙ ap (λ l. deed_of (set_at s 0) (set_at (acts s l) 0)) r.2 ∙ all-deed s (release_own s m) m page.fields some in
    replaced m page same ne r.0 fresh r.1 (deed-of s n call (takes m page) 0 same r.1 ∙ deed))
stopped s w n some locked call clears same a h = clash h refl
stopped s w n some locked call (releasing event) same a h =
    let place = selected s n in
    let deed = left_is by_number s (releasing event) (deed_of (set_at s place)) (λ k x. refl) refl place ∙ releasing-deed (set_at s place) _ s place (event-releasing event s.sets) (selected-within s n some) h in
    released event same (deed-of s n call (releasing event) place same refl ∙ deed)
stopped s w n some locked call restarts same a h = clash h refl

-- What touches the set that a locked nexus uses, and isn't the nexus's own page: an event that released the set; or, where the nexus uses
-- place 0, another nexus's ALL page that replaced what it held or established the first set there.
pub stopped_by : (s : State) (n : ℕ) (call : Call) → well_formed s ≡ true → 0 < length s.sets → (nexus_at s n).lock ≡ true
    → accepts n (effect s call) ≡ false → hits (selected s n) (actions s call) ≡ true → StoppedBy s n call
stopped_by s n call w some locked = stopped s w n some locked call (effect s call) refl

-- That is never an eviction.
pub never-evicted : (s : State) (n : ℕ) (call : Call) → StoppedBy s n call → deed_to s n call ≡ Evicted → ⊥
never-evicted s n call (released event same d) e = let z : ◌≡◌ {A = ℕ} 4 3 = ap rank (sym d ∙ e) in omega (arith, z)
never-evicted s n call (replaced m page same ne scope fresh first d) e =
    let low : rank (when used (set_at s 0) then Replaced else Established) < 3 = if-elim (λ x. rank x < 3) (used (set_at s 0)) (λ t. omega arith) (λ f. omega arith) in
    let z : rank (when used (set_at s 0) then Replaced else Established) ≡ 3 = ap rank (sym d ∙ e) in
    omega (arith, low, z)
