-- What a well-formed record tells of each place and nexus, and how one is made.
-- Assumes nothing.
use Prim.Native.Nat.{ℕ, zero, suc, ◌≤◌, ◌<◌}
use mathlib.Core.Path.{◌≡◌, refl, sym, ap, ◌∙◌}
use mathlib.Core.Bool.{Bool, true, false, not, ◌&&◌, ◌||◌}
use mathlib.Core.List.{List, [], ◌∷◌}
use native.Mathlib.Omega.{arith}
use borrow.Author.Tests.{ltb-true, ltb-false, leb-true, eqb-true, not-true, lt-ltb, le-leb, eq-eqb, ne_eqb}
use lib.Dec.{lit≤, eqb, ltb}
use lib.ListN.{length, get_or, length-replicate, get_or-replicate, get_or-eq_default}
use Rattle.arrays.specs.Base.{when◌then◌else◌}
use Rattle.arrays.specs.Arrays.{each, all, count}
use Rattle.arrays.proofs.Base.{cases, both, clash, not-zero, if-elim, if-map, and_both, each_holds, or-other, or-of, or-then, then-or, or-if, same_truth}
use Rattle.arrays.proofs.Counting.{count_none, count_same}
use Rattle.arrays.proofs.Laws.{each_at, each_of}
use Rattle.wire.specs.Buffers.{all_zero}
use Rattle.kad.specs.Kad.{tails_good}
use Rattle.parameters.specs.Codes.{local_scope, all_scope}
use Rattle.parameters.specs.Fields.{supplemental_most}
use Rattle.parameters.specs.Good.{keys_past}
use Rattle.parameters.specs.declared.Fields.{Fields}
use Rattle.parameters.proofs.Good.{Ranges, ranges, ranges-good, ZeroFields, zero-fields}
use Rattle.device.specs.Record.{State, power_on, established, empty_set, set_at, nexus_at, no_set, new_nexus, empty, used}
use Rattle.device.specs.Selecting.{owns}
use Rattle.device.specs.WellFormed.{scope_fits, set_fits, set_zero, empty_is_zero, set_good, local_owns_one, all_owns_first, nexus_good, owner_is_local, used_fits, has_all, well_formed}
use Rattle.device.specs.declared.Set.{Set}
use Rattle.device.specs.declared.Nexus.{Nexus}

-- ---- the set in a place

-- the scope that a used place has: "a used place 0 has scope ALL and any other used place LOCAL"
abbrev pub place_scope : ℕ → ℕ
place_scope place = when eqb place 0 then all_scope else local_scope

-- it is LOCAL at each place other than 0
pub place-local : (place : ℕ) → 0 < place → place_scope place ≡ local_scope
place-local place h = simp (ne_eqb place 0 (λ z. omega arith))

-- and at no other
pub local-place : (place : ℕ) → place_scope place ≡ local_scope → 0 < place
local-place zero e = absurd (omega arith)
local-place (suc place) e = omega arith

-- what a good set is, where there are that many nexuses
pub record GoodSet (nexuses place : ℕ) (set : Set) : Type 0 where
  pub owner : set.owner < nexuses
  pub scope : set.scope ≤ 2
  pub fields : Ranges set.fields
  pub supplemental : set.supplemental.count ≤ supplemental_most
  pub indexed : used set ≡ true → set.fields.index ≡ 1
  pub tails : tails_good set.fields.kads ≡ true
  pub past : keys_past set.supplemental ≡ true
  pub fits : used set ≡ true → set.scope ≡ place_scope place
  pub zero : set.scope ≡ 0 → set_zero set ≡ true

-- the scope's test is that a used place has the place's scope
scope-fits : (place : ℕ) (set : Set) → scope_fits place set ≡ (empty set || eqb set.scope (place_scope place))
scope-fits place set =
    or-if (empty set) (eqb place 0) (eqb set.scope all_scope) (eqb set.scope local_scope)
    ∙ ap (λ (b : Bool). empty set || b) (sym (if-map (λ (k : ℕ). eqb set.scope k) (eqb place 0) all_scope local_scope))

-- a set that passes is good
pub good-set : (nexuses place : ℕ) (set : Set) → set_good nexuses place set ≡ true → GoodSet nexuses place set
unfolding set_good
good-set nexuses place set g =
    let h = each_holds _ (_ ∷ _ ∷ _ ∷ []) g in
    let codes = each_holds _ (_ ∷ _ ∷ _ ∷ _ ∷ []) h.0 in
    let tails = and_both _ _ h.1.0 in
    record {
      owner = ltb-true _ _ codes.0;
      scope = leb-true _ _ codes.1.0;
      fields = ranges set.fields codes.1.1.0;
      supplemental = leb-true _ _ codes.1.1.1.0;
      indexed = λ u. eqb-true _ _ (or-other (empty set) _ codes.1.1.1.1.0 (not-true _ u));
      tails = tails.0;
      past = tails.1;
      fits = λ u. eqb-true _ _ (or-other (empty set) _ (sym (scope-fits place set) ∙ h.1.1.0) (not-true _ u));
      zero = λ z. or-then (empty set) _ h.1.1.1.0 (eq-eqb _ _ z);
    }

-- and a good set passes
pub set-good : (nexuses place : ℕ) (set : Set) → GoodSet nexuses place set → set_good nexuses place set ≡ true
unfolding set_good
set-good nexuses place set g =
    let i : (empty set || eqb set.fields.index 1) ≡ true = or-of (empty set) _ (λ f. eq-eqb _ _ (g.indexed (ap not f))) in
    let f : scope_fits place set ≡ true = scope-fits place set ∙ or-of (empty set) _ (λ f. eq-eqb _ _ (g.fits (ap not f))) in
    let z : empty_is_zero set ≡ true = then-or (empty set) _ (λ z. g.zero (eqb-true _ _ z)) in
    simp (lt-ltb _ _ g.owner, le-leb _ _ g.scope, ranges-good set.fields g.fields, le-leb _ _ g.supplemental, i, g.tails, g.past, f, z)

-- what a set that is zero but for its number holds
pub record ZeroSet (set : Set) : Type 0 where
  pub owner : set.owner ≡ 0
  pub scope : set.scope ≡ 0
  pub fields : ZeroFields set.fields
  pub supplemental : set.supplemental.count ≡ 0
  pub keys : all_zero set.supplemental.keys ≡ true

-- a set that passes as zero holds that
pub zero-set : (set : Set) → set_zero set ≡ true → ZeroSet set
zero-set set z =
    let h = each_holds _ (_ ∷ _ ∷ _ ∷ _ ∷ []) z in
    record {
      owner = eqb-true _ _ h.0;
      scope = eqb-true _ _ h.1.0;
      fields = zero-fields set.fields h.1.1.0;
      supplemental = eqb-true _ _ h.1.1.1.0;
      keys = h.1.1.1.1.0;
    }

-- a set made from a page's fields is good where its owner is a nexus, its scope the place's, its index 1, and its fields are good
pub established-good : (nexuses place owner number : ℕ) (fields : Fields) → owner < nexuses → Ranges fields → fields.index ≡ 1 → tails_good fields.kads ≡ true → set_good nexuses place (established owner (place_scope place) number fields) ≡ true
established-good nexuses place owner number fields o r i t =
    let u : eqb (place_scope place) 0 ≡ false = if-elim (λ (k : ℕ). eqb k 0 ≡ false) (eqb place 0) (λ e. refl) (λ e. refl) in
    set-good nexuses place (established owner (place_scope place) number fields)
    (record {
      owner = o;
      scope = if-elim (λ (k : ℕ). k ≤ 2) (eqb place 0) (λ e. lit≤ tt) (λ e. lit≤ tt);
      fields = r;
      supplemental = lit≤ tt;
      indexed = λ x. i;
      tails = t;
      past = refl;
      fits = λ x. refl;
      zero = λ z. clash (eq-eqb _ _ z) u;
    })

-- an empty place is good whatever its number
pub empty-good : (nexuses place number : ℕ) → 0 < nexuses → set_good nexuses place (empty_set number) ≡ true
unfolding set_good
empty-good nexuses place number h = simp (lt-ltb 0 nexuses h)

-- ---- a nexus

-- what a good nexus is: one that is LOCAL owns exactly one LOCAL place, one that is ALL owns place 0, which is used
pub record GoodNexus (sets : List Set) (n : ℕ) (nexus : Nexus) : Type 0 where
  pub scope : nexus.scope ≤ 2
  pub local : nexus.scope ≡ local_scope → count (λ place. owns n) sets ≡ 1
  pub all : nexus.scope ≡ all_scope → (used (get_or sets 0 no_set) ≡ true) × ((get_or sets 0 no_set).owner ≡ n)

-- a nexus that passes is good
pub good-nexus : (sets : List Set) (n : ℕ) (nexus : Nexus) → nexus_good sets n nexus ≡ true → GoodNexus sets n nexus
unfolding nexus_good
good-nexus sets n nexus g =
    let h = each_holds _ (_ ∷ _ ∷ []) g in
    record {
      scope = leb-true _ _ h.0;
      local = λ e. eqb-true _ _ (or-then (eqb nexus.scope local_scope) _ h.1.0 (eq-eqb _ _ e));
      all = λ e.
          let t = and_both _ _ (or-then (eqb nexus.scope all_scope) _ h.1.1.0 (eq-eqb _ _ e)) in
          (t.0, eqb-true _ _ t.1);
    }

-- and a good nexus passes
pub nexus-good : (sets : List Set) (n : ℕ) (nexus : Nexus) → GoodNexus sets n nexus → nexus_good sets n nexus ≡ true
unfolding nexus_good
nexus-good sets n nexus g =
    let l : local_owns_one sets n nexus ≡ true = then-or (eqb nexus.scope local_scope) _ (λ e. eq-eqb _ _ (g.local (eqb-true _ _ e))) in
    let a : all_owns_first (get_or sets 0 no_set) n nexus ≡ true = then-or (eqb nexus.scope all_scope) _ (λ e. let t = g.all (eqb-true _ _ e) in both _ _ t.0 (eq-eqb _ _ t.1)) in
    simp (le-leb _ _ g.scope, l, a)

-- a nexus past the last is good
pub new-good : (sets : List Set) (n : ℕ) → nexus_good sets n new_nexus ≡ true
unfolding nexus_good
new-good sets n = refl

-- ---- the owner of a place

-- the owner of a used place other than 0 that passes is LOCAL
pub local-owner : (nexuses : List Nexus) (place : ℕ) (set : Set) → owner_is_local nexuses place set ≡ true → 0 < place → used set ≡ true → (get_or nexuses set.owner new_nexus).scope ≡ local_scope
unfolding owner_is_local
local-owner nexuses place set g h u =
    let p : eqb place 0 ≡ false = ne_eqb place 0 (λ z. omega arith) in
    eqb-true _ _ (or-other (empty set) _ (rw p at g) (not-true _ u))

-- and a place whose owner is LOCAL where it must be passes
pub owner-local : (nexuses : List Nexus) (place : ℕ) (set : Set) → (0 < place → used set ≡ true → (get_or nexuses set.owner new_nexus).scope ≡ local_scope) → owner_is_local nexuses place set ≡ true
unfolding owner_is_local
owner-local nexuses place set f =
    cases (eqb place 0)
    (λ e. simp e)
    (λ e. rw e (or-of (empty set) _ (λ z. eq-eqb _ _ (f (not-zero place (ap not e)) (ap not z)))))

-- ---- the record

-- what a well-formed record is, place by place and nexus by nexus
pub record Well (s : State) : Type 0 where
  pub sets : (place : ℕ) → place < length s.sets → set_good (length s.nexuses) place (set_at s place) ≡ true
  pub nexuses : (n : ℕ) → n < length s.nexuses → nexus_good s.sets n (nexus_at s n) ≡ true
  pub owners : (place : ℕ) → place < length s.sets → owner_is_local s.nexuses place (set_at s place) ≡ true
  pub single : count (λ n. has_all) s.nexuses ≤ 1

-- a well-formed record gives all four
pub well : (s : State) → well_formed s ≡ true → Well s
unfolding well_formed
well s w =
    let h = each_holds _ (_ ∷ _ ∷ _ ∷ []) w in
    record {
      sets = each_at (set_good (length s.nexuses)) no_set s.sets h.0;
      nexuses = each_at (nexus_good s.sets) new_nexus s.nexuses h.1.0;
      owners = each_at (owner_is_local s.nexuses) no_set s.sets h.1.1.0;
      single = leb-true _ _ h.1.1.1.0;
    }

-- and all four make it well formed
pub well-formed : (s : State) → Well s → well_formed s ≡ true
unfolding well_formed
well-formed s w =
    let a : each (set_good (length s.nexuses)) s.sets ≡ true = each_of (set_good (length s.nexuses)) no_set s.sets w.sets in
    let b : each (nexus_good s.sets) s.nexuses ≡ true = each_of (nexus_good s.sets) new_nexus s.nexuses w.nexuses in
    let c : each (owner_is_local s.nexuses) s.sets ≡ true = each_of (owner_is_local s.nexuses) no_set s.sets w.owners in
    simp (a, b, c, le-leb _ _ w.single)

-- power-on gives a well-formed record, with any number of nexuses and of places, but for places without a nexus
pub power-on-well : (nexuses places : ℕ) → (0 < places → 0 < nexuses) → well_formed (power_on nexuses places) ≡ true
unfolding power_on
power-on-well nexuses places h =
    let s = power_on nexuses places in
    let l : length s.sets ≡ places = length-replicate places (empty_set 0) in
    let m : length s.nexuses ≡ nexuses = length-replicate nexuses new_nexus in
    let none : count (λ n. has_all) s.nexuses ≡ 0 = count_none (λ n. has_all) new_nexus s.nexuses (λ n i. ap has_all (get_or-replicate nexuses n new_nexus new_nexus (rw m at i))) in
    well-formed s
    (record {
      sets = λ place i.
          let p : place < places = omega arith in
          rw (m, get_or-replicate places place (empty_set 0) no_set p) (empty-good nexuses place 0 (h (omega arith)));
      nexuses = λ n i. rw (get_or-replicate nexuses n new_nexus new_nexus (rw m at i)) (new-good s.sets n);
      owners = λ place i.
          rw (get_or-replicate places place (empty_set 0) no_set (rw l at i)) (owner-local s.nexuses place (empty_set 0) (λ x u. clash u refl));
      single = omega (arith, none);
    })

-- ---- the tests of the code: an empty place is only asked whether it is zero, and a used one never

-- a set that is zero is good
zero-good : (nexuses place : ℕ) (set : Set) → 0 < nexuses → set_zero set ≡ true → set_good nexuses place set ≡ true
zero-good nexuses place set h z =
    let s = zero-set set z in
    let f = s.fields in
    let k = each_holds _ (_ ∷ _ ∷ _ ∷ []) f.kads in
    let ul : set.fields.kads.ukad.length ≡ 0 = eqb-true _ _ k.0 in
    let al : set.fields.kads.akad.length ≡ 0 = eqb-true _ _ k.1.1.0 in
    set-good nexuses place set
    (record {
      owner = omega (arith, s.owner);
      scope = omega (arith, s.scope);
      fields = record {
        encryption = omega (arith, f.encryption);
        decryption = omega (arith, f.decryption);
        index = omega (arith, f.index);
        ceem = omega (arith, f.ceem);
        lengths = simp (ul, al);
      };
      supplemental = omega (arith, s.supplemental);
      indexed = λ x. clash x (simp s.scope);
      tails = simp (ul, al, k.1.0, k.1.1.1.0);
      past = simp (s.supplemental, s.keys);
      fits = λ x. clash x (simp s.scope);
      zero = λ x. z;
    })

-- the tests of a place, and what is asked of its set
module _ (count place : ℕ) (set : Set) where
  good-tested : set_good count place set ≡ true → (empty_is_zero set ≡ true) × (used_fits count place set ≡ true)
  unfolding set_good used_fits
  good-tested g =
      let h = and_both (set_fits count place set) (empty_is_zero set) g in
      (h.1, or-of (empty set) _ (λ f. h.0))

  tested-good : 0 < count → empty_is_zero set ≡ true → used_fits count place set ≡ true → set_good count place set ≡ true
  unfolding set_good used_fits
  tested-good h e u =
      cases (empty set)
      (λ t. zero-good count place set h (or-then (empty set) _ e t))
      (λ f. both (set_fits count place set) (empty_is_zero set) (or-other (empty set) _ u f) e)

-- each set is good where all places pass as empty, and all as used
pub sets-tested : (count : ℕ) → 0 < count → (sets : List Set) → each (set_good count) sets ≡ (all empty_is_zero sets && each (used_fits count) sets)
sets-tested count h sets =
    same_truth (each (set_good count) sets) _
    (λ t.
    let at = each_at (set_good count) no_set sets t in
    both _ _
    (each_of (λ k. empty_is_zero) no_set sets (λ place i. (good-tested count place (get_or sets place no_set) (at place i)).0))
    (each_of (used_fits count) no_set sets (λ place i. (good-tested count place (get_or sets place no_set) (at place i)).1)))
    (λ t.
    let parts = and_both (all empty_is_zero sets) (each (used_fits count) sets) t in
    each_of (set_good count) no_set sets
    (λ place i. tested-good count place (get_or sets place no_set) h (each_at (λ k. empty_is_zero) no_set sets parts.0 place i) (each_at (used_fits count) no_set sets parts.1 place i)))

-- what three tests in a row answer: the first that fails, or the last
pub stops_first : (a b c : Bool) → false ≡ a → false ≡ (a && b && c)
stops_first a b c e = rw (sym e)

pub stops_second : (a b c : Bool) → true ≡ a → false ≡ b → false ≡ (a && b && c)
stops_second a b c e f = rw (sym e, sym f)

pub ends-third : (a b c r : Bool) → true ≡ a → true ≡ b → r ≡ c → r ≡ (a && b && c)
ends-third a b c r e f g = rw (sym e, sym f) g

-- ---- what is so of every place and nexus of a well-formed record

-- a used place is one of the places
pub used-within : (s : State) (place : ℕ) → used (set_at s place) ≡ true → place < length s.sets
used-within s place u =
    cases (ltb place (length s.sets))
    (λ t. ltb-true _ _ t)
    (λ f. clash u (ap used (get_or-eq_default s.sets no_set (ltb-false _ _ f))))

module _ (s : State) (w : well_formed s ≡ true) where
  -- the set in each place is good
  pub set-at : (place : ℕ) → place < length s.sets → GoodSet (length s.nexuses) place (set_at s place)
  set-at place h = good-set (length s.nexuses) place (set_at s place) ((well s w).sets place h)

  -- a used place 0 has scope ALL and any other used place LOCAL
  pub scope-at : (place : ℕ) → used (set_at s place) ≡ true → (set_at s place).scope ≡ place_scope place
  scope-at place u = (set-at place (used-within s place u)).fits u

  -- each nexus is good, past the last one too
  pub nexus-at : (n : ℕ) → GoodNexus s.sets n (nexus_at s n)
  nexus-at n =
      good-nexus s.sets n (nexus_at s n)
      (cases (ltb n (length s.nexuses))
      (λ t. (well s w).nexuses n (ltb-true _ _ t))
      (λ f. rw (get_or-eq_default s.nexuses new_nexus (ltb-false n (length s.nexuses) f)) (new-good s.sets n)))

  -- each used place other than 0 is owned by a LOCAL nexus
  pub owner_at : (place : ℕ) → 0 < place → used (set_at s place) ≡ true → (nexus_at s (set_at s place).owner).scope ≡ local_scope
  owner_at place h u = local-owner s.nexuses place (set_at s place) ((well s w).owners place (used-within s place u)) h u

-- ---- a change that keeps every set and every nexus's scope

-- a nexus with the same scope is as good
nexus-kept : (sets : List Set) (n : ℕ) (old new : Nexus) → new.scope ≡ old.scope → nexus_good sets n old ≡ true → nexus_good sets n new ≡ true
unfolding nexus_good
nexus-kept sets n old new e g = rw e g

-- an owner with the same scope is LOCAL as before
owner-kept : (old new : List Nexus) (place : ℕ) (set : Set) → ((n : ℕ) → (get_or new n new_nexus).scope ≡ (get_or old n new_nexus).scope) → owner_is_local old place set ≡ true → owner_is_local new place set ≡ true
unfolding owner_is_local
owner-kept old new place set e g = rw (e set.owner) g

-- a record with the same sets, and as many nexuses with the same scopes, stays well formed: registered marks, flags, locks, saved numbers and the counter are free
pub scopes-kept : (s t : State) → t.sets ≡ s.sets → length t.nexuses ≡ length s.nexuses → ((n : ℕ) → (nexus_at t n).scope ≡ (nexus_at s n).scope) → well_formed s ≡ true → well_formed t ≡ true
scopes-kept s t same l e h =
    let w = well s h in
    let c : count (λ n. has_all) t.nexuses ≡ count (λ n. has_all) s.nexuses = count_same (λ n. has_all) new_nexus t.nexuses s.nexuses l (λ k. ap (λ (scope : ℕ). eqb scope all_scope) (e k)) in
    well-formed t
    (record {
      sets = λ place i. rw (l, same) (w.sets place (rw same at i));
      nexuses = λ n i. rw same (nexus-kept s.sets n (nexus_at s n) (nexus_at t n) (e n) (w.nexuses n (rw l at i)));
      owners = λ place i. rw same (owner-kept s.nexuses t.nexuses place (set_at s place) e (w.owners place (rw same at i)));
      single = omega (arith, c, w.single);
    })
