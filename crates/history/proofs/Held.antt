-- A locked nexus, the place that its latest page left it using, and whether a later call acted on that place: how its numbers tell.
-- Assumes nothing.
use Rattle.std.specs.Prelude.{ℕ, Option, Some, None}
use Prim.Native.Nat.{ℕ, ◌≤◌, ◌<◌}
use mathlib.Core.Bool.{Bool, true, false, not, ◌&&◌, ◌||◌, or_assoc, or-false}
use mathlib.Core.List.{List, [], ◌∷◌, map}
use mathlib.Core.Path.{◌≡◌, refl, sym, ◌∙◌, ap}
use native.Mathlib.Omega.{arith}
use lib.Dec.{eqb, ltb}
use lib.ListN.{length}
use borrow.Author.Tests.{eqb-true, eqb-false, eq-eqb, ne_eqb, lt-ltb}
use Rattle.arrays.proofs.Base.{cases, clash, if-elim, if-true, if-false, or_left_false, or_right_false}
use Rattle.arrays.proofs.Laws.{read_same, read-map_from, find-set}
use Rattle.parameters.specs.Codes.{local_scope, public_scope}
use Rattle.device.specs.Record.{State, nexus_at, new_nexus}
use Rattle.device.specs.Updates.{with_scope, numbered}
use Rattle.device.specs.Selecting.{owns, owned_place, or_else, selected}
use Rattle.device.specs.declared.Nexus.{Nexus}
use Rattle.device.proofs.Selecting.{selected-shared, selected-own}
use Rattle.places.specs.Actions.{Action, drawn, freed, act, acts}
use Rattle.places.proofs.Lengths.{act-size}
use Rattle.places.proofs.Releases.{act-nexus}
use Rattle.history.specs.History.{hits, place_number}
use Rattle.history.proofs.Numbers.{Fits, Sound, on, off-number, on-number, act-counter, act-sound}

-- the place that the nexus's latest page left it using, and whether a later call acted on it
pub record Mark : Type 0 where
  pub left : ℕ
  pub touched : Bool

-- what a nexus sees of the record
pub record View : Type 0 where
  pub counter : ℕ
  pub places : ℕ
  pub number : ℕ → ℕ
  pub lock : Bool
  pub saved : ℕ
  pub selected : ℕ

abbrev pub view : ℕ → State → View
view n s = record {
  counter = s.counter;
  places = length s.sets;
  number = λ place. place_number s place;
  lock = (nexus_at s n).lock;
  saved = (nexus_at s n).saved;
  selected = selected s n;
}

-- what holds while the nexus is locked
pub record Held (m : Mark) (v : View) : Type 0 where
  pub inside : m.left < v.places
  pub drawn : v.saved ≤ v.counter
  pub still : m.touched ≡ false → v.selected ≡ m.left
  pub kept : m.touched ≡ false → v.saved ≡ v.number m.left
  pub moved : m.touched ≡ true → (q : ℕ) → v.number q ≡ v.saved → (v.saved ≡ 0) × (q ≡ m.left → ⊥)
  pub home : (v.selected ≡ m.left → ⊥) → v.selected ≡ 0
  pub root : v.saved ≡ 0 → m.left ≡ 0

-- the check of the write agrees with the history
pub agree : (m : Mark) (v : View) → Held m v → not (eqb v.saved (v.number v.selected)) ≡ m.touched
agree m v h =
    cases m.touched
    (λ t. (let ne : v.saved ≡ v.number v.selected → ⊥ = λ e.
    (let r = h.moved t v.selected (sym e) in
    r.1 (h.home r.1 ∙ sym (h.root r.0))) in
    ap not (ne_eqb _ _ ne) ∙ sym t))
    (λ t. ap not (eq-eqb _ _ (h.kept t ∙ ap v.number (sym (h.still t)))) ∙ sym t)

-- ---- what an action keeps of the nexuses: whatever else than the scope is read of them

module _ {B : Type 0} (r : Nexus → B) (e : (x : Nexus) → r (with_scope public_scope x) ≡ r x) where
  -- one action
  act-nexuses : (s : State) (a : Action) → map r (act s a).nexuses ≡ map r s.nexuses
  unfolding act
  act-nexuses s a =
      read-map_from r (freed s a.place) (λ i x. if-elim (λ y. r y ≡ r x) (eqb (selected s i) a.place) (λ t. e x) (λ t. refl)) 0 s.nexuses

  -- several actions too
  pub acts-nexuses : (l : List Action) (s : State) → map r (acts s l).nexuses ≡ map r s.nexuses
  unfolding acts
  acts-nexuses [] s = refl
  acts-nexuses (a ∷ l) s = acts-nexuses l (act s a) ∙ act-nexuses s a

-- ---- the place that the nexus uses after an action that brings no LOCAL set of its own

module _ (n : ℕ) (s : State) (a : Action) where
  -- a place that a nexus did not use leaves it its place
  owned-stays : owns n a.contents ≡ false → (owned_place s.sets n ≡ Some a.place → ⊥) → owned_place (act s a).sets n ≡ owned_place s.sets n
  unfolding act owned_place
  owned-stays o ne = find-set Some None (owns n) s.sets a.place (numbered (drawn s.counter) a.contents) o ne

  -- the nexus falls to place 0 with its place
  fell : eqb (selected s n) a.place ≡ true → selected (act s a) n ≡ 0
  fell t = selected-shared (act s a) n (ap (λ (x : Nexus). eqb x.scope local_scope) (act-nexus s a n ∙ if-true _ _ _ t))

  -- and stays without
  pub stayed : owns n a.contents ≡ false → eqb (selected s n) a.place ≡ false → selected (act s a) n ≡ selected s n
  stayed o t =
      let scope : (nexus_at (act s a) n).scope ≡ (nexus_at s n).scope = ap (λ (x : Nexus). x.scope) (act-nexus s a n ∙ if-false _ _ _ t) in
      cases (eqb (nexus_at s n).scope local_scope)
      (λ l.
      let local : (nexus_at s n).scope ≡ local_scope = eqb-true _ _ l in
      let off : owned_place s.sets n ≡ Some a.place → ⊥ = λ x. eqb-false _ _ t (selected-own s n local ∙ ap (λ (f : Option ℕ). or_else f 0) x) in
      selected-own (act s a) n (scope ∙ local) ∙ ap (λ (f : Option ℕ). or_else f 0) (owned-stays o off) ∙ sym (selected-own s n local))
      (λ l. selected-shared (act s a) n (ap (λ k. eqb k local_scope) scope ∙ l) ∙ sym (selected-shared s n l))

-- ---- an action that brings no LOCAL set of the nexus's, while it is locked

-- what the mark becomes
abbrev hit : ℕ → Mark → Mark
hit q m = record { left = m.left; touched = m.touched || eqb m.left q }

module _ (n : ℕ) (m : Mark) (s : State) (a : Action) (one : Fits s 1) (h : Sound s) (foreign : owns n a.contents ≡ false) (i : Held m (view n s)) where
  -- what it has saved stays
  saved-stays : (nexus_at (act s a) n).saved ≡ (nexus_at s n).saved
  saved-stays = read_same (λ x. x.saved) (act s a).nexuses s.nexuses new_nexus (act-nexuses (λ x. x.saved) (λ x. refl) s a) n

  -- so it is no new number
  not_new : (p : ℕ) → on s a p ≡ true → place_number (act s a) p ≡ (nexus_at (act s a) n).saved → ⊥
  not_new p k e = omega (arith, on-number s a one p k, saved-stays, i.drawn)

  still' : (m.touched || eqb m.left a.place) ≡ false → selected (act s a) n ≡ m.left
  still' e =
      let stay : selected s n ≡ m.left = i.still (or_left_false m.touched _ e) in
      stayed n s a foreign (ap (λ p. eqb p a.place) stay ∙ or_right_false m.touched _ e) ∙ stay

  kept' : (m.touched || eqb m.left a.place) ≡ false → (nexus_at (act s a) n).saved ≡ place_number (act s a) m.left
  kept' e = saved-stays ∙ i.kept (or_left_false m.touched _ e) ∙ sym (off-number s a m.left (simp (or_right_false m.touched (eqb m.left a.place) e)))

  moved-old : (m.touched ≡ true) → (p : ℕ) → place_number (act s a) p ≡ (nexus_at (act s a) n).saved → ((nexus_at (act s a) n).saved ≡ 0) × (p ≡ m.left → ⊥)
  moved-old t p e =
      cases (on s a p)
      (λ k. absurd (not_new p k e))
      (λ k. let r = i.moved t p (sym (off-number s a p k) ∙ e ∙ saved-stays) in (saved-stays ∙ r.0, r.1))

  moved_new : (m.touched ≡ false) → eqb m.left a.place ≡ true → (p : ℕ) → place_number (act s a) p ≡ (nexus_at (act s a) n).saved → ((nexus_at (act s a) n).saved ≡ 0) × (p ≡ m.left → ⊥)
  moved_new t k p e =
      cases (on s a p)
      (λ u. absurd (not_new p u e))
      (λ u.
      let at : m.left ≡ a.place = eqb-true _ _ k in
      let far : p ≡ m.left → ⊥ = λ x. clash {b = eqb p a.place && ltb a.place (length s.sets)} (simp (x, k, lt-ltb a.place (length s.sets) (rw at at i.inside))) u in
      let old = off-number s a p u in
      (sym e ∙ old ∙ h.apart p m.left (sym old ∙ e ∙ saved-stays ∙ i.kept t) far, far))

  home' : (selected (act s a) n ≡ m.left → ⊥) → selected (act s a) n ≡ 0
  home' ne =
      cases (eqb (selected s n) a.place)
      (fell n s a)
      (λ e. (let stay : selected (act s a) n ≡ selected s n = stayed n s a foreign e in stay ∙ i.home (λ x. ne (stay ∙ x))))

  -- the action keeps what holds, and its place is noted
  act-held : Held (hit a.place m) (view n (act s a))
  act-held = record {
    inside = rw (act-size s a).places i.inside;
    drawn = omega (arith, saved-stays, act-counter s a one, i.drawn);
    still = still';
    kept = kept';
    moved = λ e p k. cases m.touched (λ t. moved-old t p k) (λ t. moved_new t (rw t at e) p k);
    home = home';
    root = λ z. i.root (sym saved-stays ∙ z);
  }

-- no contents are a LOCAL set of the nexus's
abbrev pub Foreign : ℕ → List Action → Type 0
Foreign n [] = Unit {0}
Foreign n (a ∷ l) = (owns n a.contents ≡ false) × Foreign n l

-- what the mark becomes by several actions
abbrev pub hit_by : List Action → Mark → Mark
hit_by l m = record { left = m.left; touched = m.touched || hits m.left l }

-- several actions keep what holds, and their places are noted
pub acts-held : (n : ℕ) (m : Mark) (l : List Action) (s : State) → Fits s (length l) → Sound s → Foreign n l → Held m (view n s) → Held (hit_by l m) (view n (acts s l))
unfolding acts hits
acts-held n m [] s fits h o i = rw or-false i
acts-held n m (a ∷ l) s fits h o i =
    let one : Fits s 1 = omega arith in
    rw (← or_assoc) (acts-held n (hit a.place m) l (act s a) (omega (arith, act-counter s a one)) (act-sound s a one h) o.1 (act-held n m s a one h o.0 i))
