-- What a place held before a call and holds after it tells what the call's actions did to it.
-- Assumes nothing.
use Prim.Native.Nat.{ℕ, ◌<◌}
use mathlib.Core.Path.{◌≡◌, refl, sym, ap, subst, ◌∙◌}
use mathlib.Core.Bool.{Bool, true, false, not, ◌||◌}
use mathlib.Core.List.{List, [], ◌∷◌, ◌++◌}
use native.Mathlib.Omega.{arith}
use borrow.Author.Tests.{eqb-true, eq-eqb, ne_eqb, not-true}
use lib.Dec.{eqb}
use lib.ListN.{length}
use Rattle.arrays.specs.Base.{when◌then◌else◌}
use Rattle.arrays.proofs.Base.{cases, clash, if-true, if-false, if-elim, or-other, or_left_false, or_right_false}
use Rattle.parameters.specs.Codes.{local_scope, all_scope}
use Rattle.parameters.specs.declared.Fields.{Fields}
use Rattle.page.specs.declared.Page.{Page}
use Rattle.device.specs.Record.{State, set_at, empty, used, established}
use Rattle.device.specs.WellFormed.{well_formed}
use Rattle.device.specs.declared.Set.{Set}
use Rattle.places.specs.Actions.{Action, release, establish, acts, own_place, release_found, release_own, room, establish_in, page_actions}
use Rattle.places.specs.declared.Room.{Room}
use Rattle.places.specs.declared.Room.TheVariants.{Free, Evicting, NoRoom}
use Rattle.places.proofs.Lengths.{acts-size}
use Rattle.places.proofs.Releases.{acts-append}
use Rattle.drive.specs.Calls.{Call}
use Rattle.drive.specs.Effects.{Effect, nothing, marks, takes, clears, releasing, restarts, effect}
use Rattle.drive.specs.After.{actions_of, actions, carried_out, by_number, after}
use Rattle.kept.proofs.Kept.{own-by}
use Rattle.history.specs.History.{hits}
use Rattle.history.proofs.Numbers.{left_is}
use Rattle.why.specs.declared.Deed.{Deed}
use Rattle.why.specs.declared.Deed.TheVariants.{Untouched, Established, Replaced, Evicted, Released}
use Rattle.why.specs.Touches.{deed_of}
use Rattle.why.specs.Deeds.{deed_by, acted_from, acted_deed}
use Rattle.why.proofs.DeedsRooms.{FreeFor, Evicts, RoomFor, room_for}
use Rattle.why.proofs.DeedsActions.{hit-one, hit-two, hits-append, missed-set, Releasing, event-releasing, found-releasing, releasing-deed, last_set, shared-deed, deed-some}

-- ---- what actions did, one after another

module _ (place : ℕ) (held : Bool) where
  -- none of them on the place
  missed-acted : (l : List Action) (before : Deed) → hits place l ≡ false → acted_from place held before l ≡ before
  unfolding acted_from hits
  missed-acted [] before h = refl
  missed-acted (a ∷ l) before h =
      let off : eqb place a.place ≡ false = or_left_false (eqb place a.place) (hits place l) h in
      missed-acted l _ (or_right_false (eqb place a.place) (hits place l) h) ∙ if-false _ _ _ off

  -- a release among releases
  releasing-acted : (l : List Action) (before : Deed) → Releasing l → hits place l ≡ true → acted_from place held before l ≡ Released
  unfolding acted_from hits
  releasing-acted [] before r h = clash h refl
  releasing-acted (a ∷ l) before r h =
      cases (hits place l)
      (releasing-acted l _ r.1)
      (λ f.
      let on : eqb place a.place ≡ true = cases (eqb place a.place) (λ t. t) (λ g. clash (or-other (eqb place a.place) _ h g) f) in
      missed-acted l _ f ∙ if-true _ _ _ on ∙ if-true _ _ _ r.0)

  -- one more
  more-acted : (l : List Action) (a : Action) (before : Deed)
      → acted_from place held before (l ++ a ∷ []) ≡ when eqb place a.place then deed_by held (acted_from place held before l) a else acted_from place held before l
  unfolding acted_from
  more-acted [] a before = refl
  more-acted (x ∷ l) a before = more-acted l a _

-- ---- each list of actions

-- the two readings agree on a place that one of the actions is on
abbrev Agree : State → ℕ → List Action → Type 0
Agree s place l = hits place l ≡ true → deed_of (set_at s place) (set_at (acts s l) place) ≡ acted_deed place (used (set_at s place)) l

-- releases
releasing-agree : (s : State) (place : ℕ) (l : List Action) → place < length s.sets → Releasing l → Agree s place l
releasing-agree s place l within r h =
    releasing-deed (set_at s place) l s place r within h ∙ sym (releasing-acted place (used (set_at s place)) l Untouched r h)

-- a set put down last
last-agree : (s : State) (place : ℕ) (l : List Action) (a : Action) → place < length s.sets → place ≡ a.place
    → deed_of (set_at s place) a.contents ≡ deed_by (used (set_at s place)) (acted_deed place (used (set_at s place)) l) a → Agree s place (l ++ a ∷ [])
last-agree s place l a within e d h =
    last_set (λ x. deed_of (set_at s place) x ≡ deed_of (set_at s place) a.contents) l a s place within e (λ number. refl)
    ∙ d ∙ sym (more-acted place (used (set_at s place)) l a Untouched ∙ if-true _ _ _ (eq-eqb place a.place e))

-- one put down elsewhere
other-agree : (s : State) (place : ℕ) (l : List Action) (a : Action) → place < length s.sets → eqb place a.place ≡ false → Agree s place l → Agree s place (l ++ a ∷ [])
unfolding hits acts
other-agree s place l a within f agree h =
    let last : hits place (a ∷ []) ≡ false = ap (λ b. b || false) f in
    let earlier : hits place l ≡ true = cases (hits place l) (λ t. t) (λ g. clash (or-other (hits place l) _ (sym (hits-append place l (a ∷ [])) ∙ h) g) last) in
    let within' : place < length (acts s l).sets = rw (acts-size s l).places within in
    let same : set_at (acts s (l ++ a ∷ [])) place ≡ set_at (acts s l) place = ap (λ x. set_at x place) (acts-append s l (a ∷ [])) ∙ missed-set (a ∷ []) (acts s l) place within' last in
    ap (deed_of (set_at s place)) same ∙ agree earlier ∙ sym (more-acted place (used (set_at s place)) l a Untouched ∙ if-false _ _ _ f)

-- a LOCAL set in a place of its owner's, or an empty one
free-deed : (old : Set) (m : ℕ) (fields : Fields) → (used old ≡ true → old.owner ≡ m) → deed_of old (established m local_scope 0 fields) ≡ when used old then Replaced else Established
free-deed old m fields mine =
    cases (empty old)
    (λ t. if-true _ _ _ t ∙ sym (if-false _ _ _ (ap not t)))
    (λ f. if-false _ _ _ f ∙ if-false _ _ _ (ap not (eq-eqb _ _ (mine (ap not f)))) ∙ sym (if-true _ _ _ (ap not f)))

-- and in one of another's
evicted-deed : (old : Set) (m : ℕ) (fields : Fields) → used old ≡ true → (old.owner ≡ m → ⊥) → deed_of old (established m local_scope 0 fields) ≡ Evicted
evicted-deed old m fields u ne = if-false _ _ _ (not-true (empty old) u) ∙ if-true _ _ _ (ap not (ne_eqb _ _ ne))

module _ (s : State) (place : ℕ) (within : place < length s.sets) where
  -- a LOCAL set
  room-agree : (r : Room) (m : ℕ) (fields : Fields) → RoomFor s m r → Agree s place (establish_in r m fields)
  unfolding hits acted_from
  room-agree (Free k) m fields v h =
      let e = hit-one h in
      let here = subst (FreeFor s m) (sym e) v in
      last-agree s place [] (establish k m local_scope fields) within e (free-deed (set_at s place) m fields here.mine) h
  room-agree (Evicting k) m fields v h =
      let e = hit-two h in
      let here = subst (Evicts s m) (sym e) v in
      let first : acted_deed place (used (set_at s place)) (release k ∷ []) ≡ Released = if-true _ _ _ (eq-eqb place k e) in
      last-agree s place (release k ∷ []) (establish k m local_scope fields) within e
      (evicted-deed (set_at s place) m fields here.taken here.other ∙ sym (ap (λ d. deed_by (used (set_at s place)) d (establish k m local_scope fields)) first)) h
  room-agree NoRoom m fields v h = clash h refl

  module _ (w : well_formed s ≡ true) (m : ℕ) where
    -- the sender's own place, which is not place 0, released
    own-agree : Agree s place (release_own s m)
    own-agree = releasing-agree s place (release_own s m) within (found-releasing (own_place s m))

    own-later : hits 0 (release_own s m) ≡ false
    unfolding hits
    own-later = own-by s w m (λ f. hits 0 (release_found f) ≡ false) (λ k l later o c. ap (λ b. b || false) (ne_eqb 0 k (λ e. omega (arith, e, later)))) (λ z. refl)

    -- then an ALL set in place 0
    all-agree : (fields : Fields) → Agree s place (release_own s m ++ establish 0 m all_scope fields ∷ [])
    unfolding hits acts
    all-agree fields h =
        let a = establish 0 m all_scope fields in
        cases (eqb place 0)
        (λ t.
        let e : place ≡ 0 = eqb-true place 0 t in
        let first : acted_deed place (used (set_at s place)) (release_own s m) ≡ Untouched = missed-acted place (used (set_at s place)) (release_own s m) Untouched (ap (λ k. hits k (release_own s m)) e ∙ own-later) in
        last-agree s place (release_own s m) a within e (shared-deed (set_at s place) m 0 fields ∙ sym (ap (λ d. deed_by (used (set_at s place)) d a) first)) h)
        (λ f. other-agree s place (release_own s m) a within f own-agree h)

    -- a page
    page-agree : (page : Page) → Agree s place (page_actions s m page)
    unfolding page_actions hits
    page-agree page =
        if-elim (Agree s place) page.supplemental
        (λ t h. clash h refl)
        (λ t. if-elim (Agree s place) (eqb page.scope local_scope)
        (λ l. room-agree (room s m) m page.fields (room_for s w m))
        (λ l. if-elim (Agree s place) (eqb page.scope all_scope)
        (λ a. all-agree page.fields)
        (λ a. own-agree)))

  -- every effect
  effect-agree : well_formed s ≡ true → (e : Effect) → hits place (actions_of s e) ≡ true → deed_of (set_at s place) (set_at (carried_out by_number s e) place) ≡ acted_deed place (used (set_at s place)) (actions_of s e)
  unfolding actions_of hits
  effect-agree w nothing h = clash h refl
  effect-agree w (marks m change) h = clash h refl
  effect-agree w (takes m page) h = left_is by_number s (takes m page) (deed_of (set_at s place)) (λ k x. refl) refl place ∙ page-agree w m page h
  effect-agree w clears h = clash h refl
  effect-agree w (releasing event) h = left_is by_number s (releasing event) (deed_of (set_at s place)) (λ k x. refl) refl place ∙ releasing-agree s place _ within (event-releasing event s.sets) h
  effect-agree w restarts h = clash h refl

-- ---- every call

-- What a place that a call acted on held before and holds after tells what the actions did to it, in document 01's words.
pub deed-by-action : (s : State) (call : Call) (place : ℕ) → well_formed s ≡ true → place < length s.sets → hits place (actions s call) ≡ true
    → deed_of (set_at s place) (set_at (after s call) place) ≡ acted_deed place (used (set_at s place)) (actions s call)
deed-by-action s call place w within = effect-agree s place within w (effect s call)

-- So a place that a call acted on was never left untouched,
pub acted-some : (s : State) (call : Call) (place : ℕ) → well_formed s ≡ true → place < length s.sets → hits place (actions s call) ≡ true
    → acted_deed place (used (set_at s place)) (actions s call) ≡ Untouched → ⊥
acted-some s call place w within h e = deed-some (set_at s place) (set_at (after s call) place) (deed-by-action s call place w within h ∙ e)

-- and any other place was.
pub acted-none : (s : State) (call : Call) (place : ℕ) → hits place (actions s call) ≡ false → acted_deed place (used (set_at s place)) (actions s call) ≡ Untouched
acted-none s call place = missed-acted place (used (set_at s place)) (actions s call) Untouched
