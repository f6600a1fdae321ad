-- A record that is well formed but for nexuses left out, and what an action keeps of it.
-- Assumes nothing.
use Rattle.std.specs.Prelude.{Some, None}
use Prim.Native.Nat.{ℕ, ◌+◌, ◌≤◌, ◌<◌}
use mathlib.Core.Path.{◌≡◌, refl, sym, ap, subst, ◌∙◌}
use mathlib.Core.Bool.{Bool, true, false, not}
use native.Mathlib.Omega.{arith}
use borrow.Author.Tests.{eqb-true, eq-eqb, ltb-true, ltb-false}
use lib.Dec.{eqb, ltb}
use lib.ListN.{length, set, length-set}
use lib.Seq.{set_out}
use Rattle.arrays.specs.Base.{when◌then◌else◌, bit}
use Rattle.arrays.specs.Arrays.{count}
use Rattle.arrays.proofs.Base.{cases, clash, both, and_left, and_right}
use Rattle.arrays.proofs.Laws.{get_d-set-by}
use Rattle.parameters.specs.Codes.{public_scope, local_scope, all_scope}
use Rattle.device.specs.Record.{State, set_at, nexus_at, no_set, new_nexus, used}
use Rattle.device.specs.Selecting.{owns, owned_place, or_else, selected}
use Rattle.device.specs.WellFormed.{set_good, has_all, well_formed}
use Rattle.device.specs.declared.Set.{Set}
use Rattle.device.specs.declared.Nexus.{Nexus}
use Rattle.arrays.proofs.Counting.{count_set, count-unique, count-one, find-counted}
use Rattle.device.proofs.Selecting.{selected-own, selected-shared}
use Rattle.device.proofs.WellFormed.{GoodNexus, nexus-good, good-set, empty-good, owner-local, place-local, well, well-formed, used-within, nexus-at, owner_at}
use Rattle.device.specs.Updates.{with_scope, numbered, with_sets}
use Rattle.places.specs.Actions.{Action, drawn, release, act}
use Rattle.places.proofs.Lengths.{act-size}
use Rattle.places.proofs.Releases.{act-nexus}

-- no nexus is left out
abbrev pub none : ℕ → Bool
none i = false

-- nexus n alone is
abbrev pub only : ℕ → ℕ → Bool
only n i = eqb i n

-- how many LOCAL places a nexus owns
abbrev pub held : ℕ → State → ℕ
held n s = count (λ place. owns n) s.sets

-- what a well-formed record is, but for nexuses left out: each set is good by itself, each nexus, and the owner of each used place
pub record Near (out : ℕ → Bool) (s : State) : Type 0 where
  pub sets : (place : ℕ) → place < length s.sets → set_good (length s.nexuses) place (set_at s place) ≡ true
  pub nexuses : (i : ℕ) → out i ≡ false → GoodNexus s.sets i (nexus_at s i)
  pub owners : (place : ℕ) → 0 < place → used (set_at s place) ≡ true → out (set_at s place).owner ≡ false → (nexus_at s (set_at s place).owner).scope ≡ local_scope

-- a well-formed record is that, whoever is left out
pub near_of : (out : ℕ → Bool) (s : State) → well_formed s ≡ true → Near out s
near_of out s w =
    record {
      sets = (well s w).sets;
      nexuses = λ i o. nexus-at s w i;
      owners = λ place h u o. owner_at s w place h u;
    }

-- and where nobody is left out it is well formed: that at most one nexus is ALL follows, since it owns place 0
pub near-well : (s : State) → Near none s → well_formed s ≡ true
near-well s h =
    well-formed s
    (record {
      sets = h.sets;
      nexuses = λ n l. nexus-good s.sets n (nexus_at s n) (h.nexuses n refl);
      owners = λ place l. owner-local s.nexuses place (set_at s place) (λ z u. h.owners place z u refl);
      single = count-one (λ n. has_all) new_nexus s.nexuses (λ i j l m e f. sym ((h.nexuses i refl).all (eqb-true _ _ e)).1 ∙ ((h.nexuses j refl).all (eqb-true _ _ f)).1);
    })

-- an owned set is used
pub owns-used : (i : ℕ) (set : Set) → owns i set ≡ true → used set ≡ true
owns-used i set o = ap (λ (k : ℕ). not (eqb k 0)) (eqb-true set.scope local_scope (and_left _ _ o))

-- and its owner is the nexus
owns-owner : (i : ℕ) (set : Set) → owns i set ≡ true → set.owner ≡ i
owns-owner i set o = eqb-true set.owner i (and_right (eqb set.scope local_scope) _ o)

-- a LOCAL nexus that owns one place alone uses that
pub selects : (s : State) (i place : ℕ) → (nexus_at s i).scope ≡ local_scope → held i s ≡ 1 → owns i (set_at s place) ≡ true → selected s i ≡ place
unfolding owned_place
selects s i place e c o =
    let within : place < length s.sets = used-within s place (owns-used i (set_at s place) o) in
    let few : held i s ≤ 1 = omega (arith, c) in
    let some : 0 < held i s = omega (arith, c) in
    selected-own s i e
    ∙ find-counted (λ (p : ℕ). owns i) no_set Some None (λ f. or_else f 0 ≡ place) s.sets (λ k l t. count-unique (λ (p : ℕ). owns i) no_set s.sets k place few l within t o) some

-- the place of a used set that is not place 0 is its owner's
pub owned : (out : ℕ → Bool) (s : State) → Near out s → (place : ℕ) → 0 < place → used (set_at s place) ≡ true → owns (set_at s place).owner (set_at s place) ≡ true
owned out s h place z u =
    both _ _
    (eq-eqb _ _ ((good-set (length s.nexuses) place (set_at s place) (h.sets place (used-within s place u))).fits u ∙ place-local place z))
    (eq-eqb (set_at s place).owner (set_at s place).owner refl)

-- ---- one action

-- the contents are good in their place, if there is such a place, and a set belongs to a nexus left out
pub record Proper (out : ℕ → Bool) (s : State) (a : Action) : Type 0 where
  pub good : a.place < length s.sets → set_good (length s.nexuses) a.place a.contents ≡ true
  pub mine : used a.contents ≡ true → out a.contents.owner ≡ true

module _ (s : State) (a : Action) where
  -- the place changed has the new contents, another what it had
  pub act-set-by : (P : Set → Type 0) (place : ℕ) → place < length s.sets → (place ≡ a.place → P (numbered (drawn s.counter) a.contents)) → (eqb place a.place ≡ false → P (set_at s place)) → P (set_at (act s a) place)
  unfolding act
  act-set-by P place h =
      get_d-set-by P s.sets a.place place (numbered (drawn s.counter) a.contents) no_set (λ q. omega (arith, q))

  -- how many places a nexus owns: less the old set's, and the new one's
  pub act-count : (i : ℕ) → a.place < length s.sets → held i (act s a) + bit (owns i (set_at s a.place)) ≡ held i s + bit (owns i a.contents)
  unfolding act
  act-count i h = count_set (λ (p : ℕ). owns i) no_set s.sets a.place (numbered (drawn s.counter) a.contents) h

  -- a place past the last changes none
  act-out : length s.sets ≤ a.place → (act s a).sets ≡ s.sets
  unfolding act
  act-out h = set_out s.sets a.place (numbered (drawn s.counter) a.contents) h

  -- a nexus that uses another place stays as it is
  pub stays : (i : ℕ) → eqb (selected s i) a.place ≡ false → nexus_at (act s a) i ≡ nexus_at s i
  stays i e = act-nexus s a i ∙ ap (λ (b : Bool). when b then with_scope public_scope (nexus_at s i) else nexus_at s i) e

  -- one that is not PUBLIC afterwards uses another place
  pub elsewhere : (i : ℕ) → 0 < (nexus_at (act s a) i).scope → eqb (selected s i) a.place ≡ false
  elsewhere i h =
      cases (eqb (selected s i) a.place)
      (λ e. let z : (nexus_at (act s a) i).scope ≡ 0 = ap (λ (x : Nexus). x.scope) (act-nexus s a i ∙ ap (λ (b : Bool). when b then with_scope public_scope (nexus_at s i) else nexus_at s i) e) in
      absurd (omega (arith, z)))
      (λ e. e)

  module _ (out : ℕ → Bool) (h : Near out s) (c : Proper out s a) where
    -- who is not left out does not own the new contents
    strange : (i : ℕ) → out i ≡ false → owns i a.contents ≡ false
    strange i o =
        cases (owns i a.contents)
        (λ t. clash (sym (ap out (owns-owner i a.contents t)) ∙ c.mine (owns-used i a.contents t)) o)
        (λ t. t)

    -- who is still LOCAL owns one place, as before
    act-local : (i : ℕ) → out i ≡ false → (nexus_at (act s a) i).scope ≡ local_scope → held i (act s a) ≡ 1
    act-local i o e =
        let f : eqb (selected s i) a.place ≡ false = elsewhere i (omega (arith, e)) in
        let was : (nexus_at s i).scope ≡ local_scope = sym (ap (λ (x : Nexus). x.scope) (stays i f)) ∙ e in
        let one : held i s ≡ 1 = (h.nexuses i o).local was in
        let gone : bit (owns i (set_at s a.place)) ≡ 0 = ap bit (cases (owns i (set_at s a.place)) (λ t. clash (eq-eqb (selected s i) a.place (selects s i a.place was one t)) f) (λ t. t)) in
        let new : bit (owns i a.contents) ≡ 0 = ap bit (strange i o) in
        cases (ltb a.place (length s.sets))
        (λ t. omega (arith, act-count i (ltb-true _ _ t), gone, new, one))
        (λ t. ap (count (λ (p : ℕ). owns i)) (act-out (ltb-false _ _ t)) ∙ one)

    -- who is still ALL owns place 0, as before
    act-all : (i : ℕ) → out i ≡ false → (nexus_at (act s a) i).scope ≡ all_scope → (used (set_at (act s a) 0) ≡ true) × ((set_at (act s a) 0).owner ≡ i)
    act-all i o e =
        let f : eqb (selected s i) a.place ≡ false = elsewhere i (omega (arith, e)) in
        let was : (nexus_at s i).scope ≡ all_scope = sym (ap (λ (x : Nexus). x.scope) (stays i f)) ∙ e in
        let r = (h.nexuses i o).all was in
        let root : selected s i ≡ 0 = selected-shared s i (ap (λ (k : ℕ). eqb k local_scope) was) in
        act-set-by (λ (x : Set). (used x ≡ true) × (x.owner ≡ i)) 0 (used-within s 0 r.0)
        (λ q. clash (eq-eqb (selected s i) a.place (root ∙ q)) f)
        (λ q. r)

    -- no scope is a new one but PUBLIC
    act-scope : (i : ℕ) → out i ≡ false → (nexus_at (act s a) i).scope ≤ 2
    act-scope i o =
        cases (ltb 0 (nexus_at (act s a) i).scope)
        (λ t. let same : (nexus_at (act s a) i).scope ≡ (nexus_at s i).scope = ap (λ (x : Nexus). x.scope) (stays i (elsewhere i (ltb-true _ _ t))) in
        omega (arith, same, (h.nexuses i o).scope))
        (λ t. let low : (nexus_at (act s a) i).scope ≤ 0 = ltb-false _ _ t in omega (arith, low))

    -- the owner of another place still uses it
    act-owner : (place : ℕ) → 0 < place → used (set_at (act s a) place) ≡ true → out (set_at (act s a) place).owner ≡ false → (nexus_at (act s a) (set_at (act s a) place).owner).scope ≡ local_scope
    act-owner place z u =
        act-set-by (λ (x : Set). used x ≡ true → out x.owner ≡ false → (nexus_at (act s a) x.owner).scope ≡ local_scope) place
        (subst (λ (k : ℕ). place < k) (act-size s a).places (used-within (act s a) place u))
        (λ q v o. clash (c.mine v) o)
        (λ f v o.
        let was : (nexus_at s (set_at s place).owner).scope ≡ local_scope = h.owners place z v o in
        let uses : selected s (set_at s place).owner ≡ place = selects s (set_at s place).owner place was ((h.nexuses (set_at s place).owner o).local was) (owned out s h place z v) in
        ap (λ (x : Nexus). x.scope) (stays (set_at s place).owner (ap (λ (k : ℕ). eqb k a.place) uses ∙ f)) ∙ was)
        u

    -- each set is good, the new one too
    act-good : (place : ℕ) → place < length (act s a).sets → set_good (length (act s a).nexuses) place (set_at (act s a) place) ≡ true
    unfolding set_good
    act-good place l =
        let within : place < length s.sets = subst (λ (k : ℕ). place < k) (act-size s a).places l in
        subst (λ (k : ℕ). set_good k place (set_at (act s a) place) ≡ true) (sym (act-size s a).nexuses)
        (act-set-by (λ (x : Set). set_good (length s.nexuses) place x ≡ true) place within
        (λ q. subst (λ (k : ℕ). set_good (length s.nexuses) k a.contents ≡ true) (sym q) (c.good (omega (arith, q))))
        (λ f. h.sets place within))

    -- an action whose contents are proper keeps what there is
    pub act-near : Near out (act s a)
    act-near =
        record {
          sets = act-good;
          nexuses = λ i o. record { scope = act-scope i o; local = act-local i o; all = act-all i o };
          owners = act-owner;
        }

-- a release keeps what there is, whoever is left out
pub release-near : (out : ℕ → Bool) (s : State) (place : ℕ) → Near out s → Near out (act s (release place))
release-near out s place h =
    act-near s (release place) out h
    (record {
      good = λ l.
          let o = (good-set (length s.nexuses) place (set_at s place) (h.sets place l)).owner in
          empty-good (length s.nexuses) place 0 (omega (arith, o));
      mine = λ u. clash u refl;
    })

-- ---- a change of a set that is no action

-- another set of the same scope and owner, good in the place
pub set-near : (out : ℕ → Bool) (s : State) (place : ℕ) (v : Set) → place < length s.sets → set_good (length s.nexuses) place v ≡ true → v.scope ≡ (set_at s place).scope → v.owner ≡ (set_at s place).owner → Near out s → Near out (with_sets (set s.sets place v) s)
set-near out s place v l g c w h =
    record {
      sets = λ k i. get_d-set-by (λ (x : Set). set_good (length s.nexuses) k x ≡ true) s.sets place k v no_set (λ q. l)
          (λ q. subst (λ (j : ℕ). set_good (length s.nexuses) j v ≡ true) (sym q) g)
          (λ f. h.sets k (subst (λ (j : ℕ). k < j) (length-set s.sets place v) i));
      nexuses = λ i o.
          let b = h.nexuses i o in
          let same : bit (owns i v) ≡ bit (owns i (set_at s place)) = rw (c, w) refl in
          record {
            scope = b.scope;
            local = λ q. omega (arith, count_set (λ (p : ℕ). owns i) no_set s.sets place v l, same, b.local q);
            all = λ q. get_d-set-by (λ (x : Set). (used x ≡ true) × (x.owner ≡ i)) s.sets place 0 v no_set (λ r. l)
                (λ r.
                let t = b.all q in
                (ap (λ (k : ℕ). not (eqb k 0)) (c ∙ ap (λ (k : ℕ). (set_at s k).scope) (sym r)) ∙ t.0, w ∙ ap (λ (k : ℕ). (set_at s k).owner) (sym r) ∙ t.1))
                (λ r. b.all q);
          };
      owners = λ k z u. get_d-set-by (λ (x : Set). used x ≡ true → out x.owner ≡ false → (nexus_at s x.owner).scope ≡ local_scope) s.sets place k v no_set (λ q. l)
          (λ q y o.
          let who : v.owner ≡ (set_at s k).owner = w ∙ ap (λ (j : ℕ). (set_at s j).owner) (sym q) in
          let was : used (set_at s k) ≡ true = sym (ap (λ (j : ℕ). not (eqb j 0)) (c ∙ ap (λ (j : ℕ). (set_at s j).scope) (sym q))) ∙ y in
          ap (λ (j : ℕ). (nexus_at s j).scope) who ∙ h.owners k z was (sym (ap out who) ∙ o))
          (λ f y o. h.owners k z y o)
          u;
    }
