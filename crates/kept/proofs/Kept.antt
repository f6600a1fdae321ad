-- Taking an accepted page, and releasing sets by an event, leave a well-formed record well formed.
-- Assumes nothing.
use Rattle.std.specs.Prelude.{ℕ, Option, Some, None}
use Prim.Native.Nat.{ℕ, zero, suc, ◌+◌, ◌*◌, ◌≤◌, ◌<◌}
use mathlib.Core.Path.{◌≡◌, refl, sym, ap, subst, ◌∙◌}
use mathlib.Core.Bool.{Bool, true, false, not}
use mathlib.Core.List.{List, [], ◌∷◌}
use native.Mathlib.Omega.{arith}
use borrow.Author.Tests.{eqb-true, eqb-false, eq-eqb, lt-leb}
use lib.Dec.{eqb, leb}
use lib.ListN.{length, get_or, set, drop, length-set}
use lib.Seq.{sets, drop-drop}
use Rattle.arrays.specs.Base.{bit}
use Rattle.arrays.specs.Arrays.{map_from, find}
use Rattle.arrays.proofs.Base.{cases, clash, not-zero, and_left, and_right, if-elim, same_truth}
use Rattle.arrays.proofs.Laws.{find-by, length-map_from, get_d-set-by, drop-sets}
use Rattle.wire.specs.Buffers.{all_zero}
use Rattle.wire.proofs.Zeros.{all-zero-rest}
use Rattle.kad.specs.Kad.{tails_good}
use Rattle.parameters.specs.Codes.{local_scope, all_scope}
use Rattle.parameters.specs.Fields.{key_size, supplemental_most}
use Rattle.parameters.specs.Good.{field_codes, keys_past}
use Rattle.parameters.specs.declared.Fields.{Fields}
use Rattle.page.specs.Rules.{ceem_wrong}
use Rattle.page.specs.declared.Page.{Page}
use Rattle.device.specs.Record.{State, set_at, nexus_at, no_set, new_nexus, empty, used, established}
use Rattle.device.specs.Selecting.{owns, owned_place, selected, selected_set}
use Rattle.device.specs.WellFormed.{set_good, well_formed}
use Rattle.parameters.specs.declared.Supplemental.{Supplemental}
use Rattle.device.specs.declared.Set.{Set}
use Rattle.device.specs.declared.Nexus.{Nexus}
use Rattle.arrays.proofs.Counting.{count_none, count-some, find-counted}
use Rattle.device.proofs.Selecting.{selected-shared, selected-local, own}
use Rattle.parameters.proofs.Good.{ranges}
use Rattle.device.proofs.Scopes.{mapped-scopes, set-scopes}
use Rattle.device.proofs.WellFormed.{place-local, GoodSet, GoodNexus, set-good, established-good, used-within, nexus-at, owner_at, set-at, place_scope, scopes-kept}
use Rattle.device.specs.Updates.{with_scope, with_supplemental, with_nexuses, at_nexus}
use Rattle.places.specs.Actions.{Action, release, establish, act, acts, releases, own_place, release_found, release_own, empty_local, unlocked_local, free_at, evicting_at, room, establish_in, page_actions, nexus_after, sender_after, appended, supplemented, taken}
use Rattle.places.specs.declared.Room.{Room}
use Rattle.places.specs.declared.Room.TheVariants.{Free, Evicting, NoRoom}
use Rattle.places.proofs.Lengths.{act-size, acts-size}
use Rattle.places.proofs.Releases.{acts-append, releases-elim}
use Rattle.kept.proofs.Near.{none, only, held, Near, near_of, near-well, owns-used, owned, Proper, act-set-by, act-count, act-near, release-near, set-near}

-- ---- releases

-- releasing the used places that any test picks leaves a well-formed record well formed
pub releases-kept : (picked : ℕ → Set → Bool) (s : State) → well_formed s ≡ true → well_formed (acts s (releases picked s.sets)) ≡ true
unfolding acts
releases-kept picked s w =
    near-well (acts s (releases picked s.sets))
    (releases-elim (λ actions. (x : State) → Near none x → Near none (acts x actions)) (λ x h. h) (λ place rest keep x h. keep (act x (release place)) (release-near none x place h)) picked s.sets s (near_of none s w))

-- ---- marks

-- other nexuses of the same scopes, as many, make no difference
scopes-same : (s : State) (nexuses : List Nexus) → length nexuses ≡ length s.nexuses → ((i : ℕ) → (get_or nexuses i new_nexus).scope ≡ (nexus_at s i).scope) → well_formed (with_nexuses nexuses s) ≡ well_formed s
scopes-same s nexuses l e =
    same_truth (well_formed (with_nexuses nexuses s)) (well_formed s)
    (scopes-kept (with_nexuses nexuses s) s refl (sym l) (λ i. sym (e i)))
    (scopes-kept s (with_nexuses nexuses s) refl l e)

-- nexuses made anew with their scopes kept leave the record as well formed as it was
pub marks-kept : (f : ℕ → Nexus → Nexus) → ((i : ℕ) (x : Nexus) → (f i x).scope ≡ x.scope) → (s : State) → well_formed (with_nexuses (map_from f 0 s.nexuses) s) ≡ well_formed s
marks-kept f e s = scopes-same s (map_from f 0 s.nexuses) (length-map_from f 0 s.nexuses) (mapped-scopes f e s)

-- and so does one nexus made anew with its scope kept
pub mark-kept : (n : ℕ) (f : Nexus → Nexus) (s : State) → (f (nexus_at s n)).scope ≡ (nexus_at s n).scope → well_formed (at_nexus n f s) ≡ well_formed s
mark-kept n f s e = scopes-same s (set s.nexuses n (f (nexus_at s n))) (length-set s.nexuses n (f (nexus_at s n))) (set-scopes n (f (nexus_at s n)) s e)

-- ---- what an accepted page brings

-- fields that make a set: codes in range, index 1, zeros past the lengths, CEEM as request 2 has it
pub record SetFit (fields : Fields) : Type 0 where
  pub codes : field_codes fields ≡ true
  pub index : fields.index ≡ 1
  pub tails : tails_good fields.kads ≡ true
  pub paired : ceem_wrong fields.ceem fields.decryption ≡ false

-- a supplemental key: the nexus's scope is the page's, LOCAL or ALL, and its set has fewer than 4 keys already
pub record KeyFit (s : State) (n : ℕ) (page : Page) : Type 0 where
  pub scope : (nexus_at s n).scope ≡ page.scope
  pub some : 0 < page.scope
  pub key : length page.fields.key ≡ key_size
  pub fewer : (selected_set s n).supplemental.count < supplemental_most

-- what holds of a page that nexus n's call has accepted
pub record Fit (s : State) (n : ℕ) (page : Page) : Type 0 where
  pub scope : page.scope ≤ 2
  pub fields : page.supplemental ≡ false → 0 < page.scope → SetFit page.fields
  pub place : page.supplemental ≡ false → page.scope ≡ local_scope → room s n ≡ NoRoom → ⊥
  pub key : page.supplemental ≡ true → KeyFit s n page

-- ---- the sender after its page

-- what makes the record whole again once nexus n has the scope
record Ready (n scope : ℕ) (s : State) : Type 0 where
  near : Near (only n) s
  here : n < length s.nexuses
  local : scope ≡ local_scope → held n s ≡ 1
  shared : (scope ≡ local_scope → ⊥) → held n s ≡ 0
  all : scope ≡ all_scope → (used (set_at s 0) ≡ true) × ((set_at s 0).owner ≡ n)

-- with that scope it is
ready-near : (s : State) (n : ℕ) (x : Nexus) → x.scope ≤ 2 → Ready n x.scope s → Near none (with_nexuses (set s.nexuses n x) s)
ready-near s n x range r =
    record {
      sets = λ place l. subst (λ (k : ℕ). set_good k place (set_at s place) ≡ true) (sym (length-set s.nexuses n x)) (r.near.sets place l);
      nexuses = λ i o. get_d-set-by (λ (y : Nexus). GoodNexus s.sets i y) s.nexuses n i x new_nexus (λ q. r.here)
          (λ q. record {
            scope = range;
            local = λ e. ap (λ (k : ℕ). held k s) q ∙ r.local e;
            all = λ e. let t = r.all e in (t.0, t.1 ∙ sym q);
          })
          (λ f. r.near.nexuses i f);
      owners = λ place z u o. get_d-set-by (λ (y : Nexus). y.scope ≡ local_scope) s.nexuses n (set_at s place).owner x new_nexus (λ q. r.here)
          (λ q. mine place z u q)
          (λ f. r.near.owners place z u f);
    }
  where
    -- a used place other than 0 of the nexus's own: so its scope is LOCAL
    mine : (place : ℕ) → 0 < place → used (set_at s place) ≡ true → (set_at s place).owner ≡ n → x.scope ≡ local_scope
    mine place z u q =
        cases (eqb x.scope local_scope)
        (λ t. eqb-true _ _ t)
        (λ t.
        let o : owns n (set_at s place) ≡ true = subst (λ (k : ℕ). owns k (set_at s place) ≡ true) q (owned (only n) s r.near place z u) in
        let some : 0 < held n s = count-some (λ (p : ℕ). owns n) no_set s.sets place (used-within s place u) o in
        absurd (omega (arith, some, r.shared (eqb-false _ _ t))))

-- the record with the sender after its page is well formed
settled-kept : (s : State) (n : ℕ) (page : Page) → page.scope ≤ 2 → Ready n page.scope s → well_formed (sender_after s n page) ≡ true
unfolding sender_after
settled-kept s n page range r =
    let x : Nexus = nexus_after page (selected_set (at_nexus n (with_scope page.scope) s) n).number (nexus_at s n) in
    near-well (sender_after s n page) (ready-near s n x range r)

-- ---- the sender's own place, and a place for its LOCAL set

module _ (s : State) (w : well_formed s ≡ true) (n : ℕ) where
  -- a nexus that is not LOCAL owns no LOCAL place
  owns_none : eqb (nexus_at s n).scope local_scope ≡ false → held n s ≡ 0
  owns_none f =
      count_none (λ (p : ℕ). owns n) no_set s.sets (λ k l. cases (owns n (set_at s k))
      (λ t.
      let o = own s w n k t in
      let e : (nexus_at s n).scope ≡ local_scope = ap (λ (i : ℕ). (nexus_at s i).scope) (sym o.owner) ∙ owner_at s w k o.later o.taken in
      clash (eq-eqb _ _ e) f)
      (λ t. t))

  -- what holds where the nexus owns no place, and where it owns the place found and no other, holds of its own place
  pub own-by : (P : Option ℕ → Type 0) → ((k : ℕ) → k < length s.sets → 0 < k → owns n (set_at s k) ≡ true → held n s ≡ 1 → P (Some k)) → (held n s ≡ 0 → P None) → P (own_place s n)
  unfolding own_place owned_place
  own-by P at none =
      if-elim P (eqb (nexus_at s n).scope local_scope)
      (λ t.
      let one : held n s ≡ 1 = (nexus-at s w n).local (eqb-true _ _ t) in
      find-counted (λ (p : ℕ). owns n) no_set Some None P s.sets (λ k l o. at k l (own s w n k o).later o one) (omega (arith, one)))
      (λ f. none (owns_none f))

-- the place is one of those for LOCAL sets, and the nexus owns no other
pub record Vacant (s : State) (n place : ℕ) : Type 0 where
  pub within : place < length s.sets
  later : 0 < place
  others : held n s ≡ bit (owns n (set_at s place))

-- what a place for nexus n's LOCAL set is
abbrev pub RoomFit : State → ℕ → Room → Type 0
RoomFit s n (Free place) = Vacant s n place
RoomFit s n (Evicting place) = (Vacant s n place) × (held n s ≡ 0)
RoomFit s n NoRoom = Unit

module _ (s : State) (w : well_formed s ≡ true) (n : ℕ) where
  -- where the nexus owns none, the lowest empty place, else the lowest whose owner has lock 0
  vacant-found : held n s ≡ 0 → RoomFit s n (free_at (find Some None empty_local s.sets) (evicting_at (find Some None (unlocked_local s) s.sets)))
  vacant-found z =
      find-by Some None empty_local no_set (λ f. RoomFit s n (free_at f (evicting_at (find Some None (unlocked_local s) s.sets)))) s.sets
      (λ k l t. record { within = l; later = not-zero k (and_left _ _ t); others = z ∙ sym (ap bit (unowned (set_at s k) (and_right (not (eqb k 0)) _ t))) })
      (find-by Some None (unlocked_local s) no_set (λ f. RoomFit s n (evicting_at f)) s.sets
      (λ k l t. (record { within = l; later = not-zero k (and_left _ _ t); others = z ∙ sym (ap bit (unowned-at k l)) }, z))
      tt)
    where
      unowned : (x : Set) → empty x ≡ true → owns n x ≡ false
      unowned x e = cases (owns n x) (λ o. clash (owns-used n x o) (ap not e)) (λ o. o)

      unowned-at : (k : ℕ) → k < length s.sets → owns n (set_at s k) ≡ false
      unowned-at k l =
          cases (owns n (set_at s k))
          (λ o. let some : 0 < held n s = count-some (λ (p : ℕ). owns n) no_set s.sets k l o in absurd (omega (arith, some, z)))
          (λ o. o)

  -- a place for the nexus's LOCAL set is what it should be
  pub room-fit : RoomFit s n (room s n)
  unfolding room
  room-fit =
      own-by s w n (λ f. RoomFit s n (free_at f (free_at (find Some None empty_local s.sets) (evicting_at (find Some None (unlocked_local s) s.sets)))))
      (λ k l z o c. record { within = l; later = z; others = c ∙ sym (ap bit o) })
      vacant-found

-- ---- the actions of a page

-- a set of the nexus's own, of the place's scope, is proper there
set-proper : (s : State) (n place scope : ℕ) (fields : Fields) → n < length s.nexuses → SetFit fields → place_scope place ≡ scope → Proper (only n) s (establish place n scope fields)
set-proper s n place scope fields here f e =
    record {
      good = λ l. subst (λ (k : ℕ). set_good (length s.nexuses) place (established n k 0 fields) ≡ true) e (established-good (length s.nexuses) place n 0 fields here (ranges fields f.codes) f.index f.tails);
      mine = λ u. eq-eqb n n refl;
    }

-- LOCAL: a set of its own in a place that is vacant for it
local-ready : (s : State) (n place : ℕ) (fields : Fields) → n < length s.nexuses → SetFit fields → Near (only n) s → Vacant s n place → Ready n local_scope (act s (establish place n local_scope fields))
local-ready s n place fields here f h v =
    let new : bit (owns n (established n local_scope 0 fields)) ≡ 1 = ap bit (eq-eqb n n refl) in
    record {
      near = act-near s (establish place n local_scope fields) (only n) h (set-proper s n place local_scope fields here f (place-local place v.later));
      here = subst (λ (k : ℕ). n < k) (sym (act-size s (establish place n local_scope fields)).nexuses) here;
      local = λ e. omega (arith, act-count s (establish place n local_scope fields) n v.within, v.others, new);
      shared = λ e. absurd (e refl);
      all = λ e. absurd (omega (arith, e));
    }

-- ALL: a set of its own in place 0, once it has no LOCAL place
all-ready : (s : State) (n : ℕ) (fields : Fields) → n < length s.nexuses → 0 < length s.sets → SetFit fields → Near (only n) s → held n s ≡ 0 → Ready n all_scope (act s (establish 0 n all_scope fields))
all-ready s n fields here some f h z =
    record {
      near = act-near s (establish 0 n all_scope fields) (only n) h (set-proper s n 0 all_scope fields here f refl);
      here = subst (λ (k : ℕ). n < k) (sym (act-size s (establish 0 n all_scope fields)).nexuses) here;
      local = λ e. absurd (omega (arith, e));
      shared = λ e. omega (arith, act-count s (establish 0 n all_scope fields) n some, z);
      all = λ e. act-set-by s (establish 0 n all_scope fields) (λ (x : Set). (used x ≡ true) × (x.owner ≡ n)) 0 some (λ q. (refl, refl)) (λ q. clash refl q);
    }

-- the nexus's own place released, if any: it owns none
record Dropped (n : ℕ) (e : State) : Type 0 where
  near : Near (only n) e
  gone : held n e ≡ 0

-- a release leaves the nexus the places that it owned before, but for that one
release-count : (s : State) (n place : ℕ) → place < length s.sets → held n s ≡ bit (owns n (set_at s place)) → held n (act s (release place)) ≡ 0
release-count s n place l c = omega (arith, act-count s (release place) n l, c)

module _ (s : State) (w : well_formed s ≡ true) (n : ℕ) (here : n < length s.nexuses) where
  -- the sender's own place released, if any
  own-dropped : Dropped n (acts s (release_own s n))
  unfolding acts
  own-dropped =
      own-by s w n (λ f. Dropped n (acts s (release_found f)))
      (λ k l z o c. record {
        near = release-near (only n) s k (near_of (only n) s w);
        gone = release-count s n k l (c ∙ sym (ap bit o));
      })
      (λ z. record { near = near_of (only n) s w; gone = z })

  -- LOCAL: a place of its own, an empty one, or one first released
  room-ready : (fields : Fields) → SetFit fields → (r : Room) → (r ≡ NoRoom → ⊥) → RoomFit s n r → Ready n local_scope (acts s (establish_in r n fields))
  unfolding acts
  room-ready fields f (Free place) ne v = local-ready s n place fields here f (near_of (only n) s w) v
  room-ready fields f (Evicting place) ne v =
      let gone : held n (act s (release place)) ≡ 0 = release-count s n place v.0.within v.0.others in
      local-ready (act s (release place)) n place fields (subst (λ (k : ℕ). n < k) (sym (act-size s (release place)).nexuses) here) f (release-near (only n) s place (near_of (only n) s w))
      (record {
        within = subst (λ (k : ℕ). place < k) (sym (act-size s (release place)).places) v.0.within;
        later = v.0.later;
        others = gone ∙ act-set-by s (release place) (λ (x : Set). 0 ≡ bit (owns n x)) place v.0.within (λ q. refl) (λ q. clash (eq-eqb place place refl) q);
      })
  room-ready fields f NoRoom ne v = absurd (ne refl)

  -- after its actions the page's scope is the sender's to have
  page-ready : (page : Page) → 0 < length s.sets → Fit s n page → page.supplemental ≡ false → Ready n page.scope (acts s (page_actions s n page))
  unfolding page_actions acts
  page-ready page some fit plain =
      if-elim (λ (actions : List Action). Ready n page.scope (acts s actions)) page.supplemental
      (λ t. clash t plain)
      (λ _. if-elim (λ (actions : List Action). Ready n page.scope (acts s actions)) (eqb page.scope local_scope)
      (λ t.
      let e : page.scope ≡ local_scope = eqb-true _ _ t in
      subst (λ (k : ℕ). Ready n k (acts s (establish_in (room s n) n page.fields))) (sym e)
      (room-ready page.fields (fit.fields plain (omega (arith, e))) (room s n) (fit.place plain e) (room-fit s w n)))
      (λ f. if-elim (λ (actions : List Action). Ready n page.scope (acts s actions)) (eqb page.scope all_scope)
      (λ t.
      let e : page.scope ≡ all_scope = eqb-true _ _ t in
      subst (λ (x : State). Ready n page.scope x) (sym (acts-append s (release_own s n) (establish 0 n all_scope page.fields ∷ [])))
      (subst (λ (k : ℕ). Ready n k (act (acts s (release_own s n)) (establish 0 n all_scope page.fields))) (sym e)
      (all-ready (acts s (release_own s n)) n page.fields (omega (arith, (acts-size s (release_own s n)).nexuses)) (omega (arith, (acts-size s (release_own s n)).places)) (fit.fields plain (omega (arith, e))) own-dropped.near own-dropped.gone)))
      (λ g. record {
        near = own-dropped.near;
        here = omega (arith, (acts-size s (release_own s n)).nexuses);
        local = λ e. absurd (eqb-false _ _ f e);
        shared = λ e. own-dropped.gone;
        all = λ e. absurd (eqb-false _ _ g e);
      })))

-- ---- a supplemental key

-- the rest of zeros are zeros
zero_rest : (n : ℕ) (l : List ℕ) → all_zero l ≡ true → all_zero (drop n l) ≡ true
zero_rest zero l z = z
zero_rest (suc n) [] z = refl
zero_rest (suc n) (b ∷ l) z = zero_rest n l (all-zero-rest b l z)

-- a key stored after the others leaves zeros past it
extended-past : (key : List ℕ) (x : Supplemental) → length key ≡ key_size → keys_past x ≡ true → all_zero (drop ((x.count + 1) * key_size) (sets x.keys (x.count * key_size) key)) ≡ true
extended-past key x k past =
    let e : (x.count + 1) * key_size ≡ x.count * key_size + length key = omega (arith, k) in
    subst (λ (m : ℕ). all_zero (drop m (sets x.keys (x.count * key_size) key)) ≡ true) (sym e)
    (ap all_zero (drop-sets key x.keys (x.count * key_size) ∙ sym (drop-drop (length key) (x.count * key_size) x.keys))
    ∙ zero_rest (length key) (drop (x.count * key_size) x.keys) past)

-- a used set that has fewer than 4 keys stays good with one more
appended-good : (nexuses place : ℕ) (x : Set) (key : List ℕ) → length key ≡ key_size → x.supplemental.count < supplemental_most → used x ≡ true → GoodSet nexuses place x → GoodSet nexuses place (with_supplemental (appended key x.supplemental) x)
appended-good nexuses place x key k fewer u g =
    if-elim (λ (y : Supplemental). GoodSet nexuses place (with_supplemental y x)) (leb supplemental_most x.supplemental.count)
    (λ t. clash t (lt-leb supplemental_most x.supplemental.count fewer))
    (λ f. record {
      owner = g.owner;
      scope = g.scope;
      fields = g.fields;
      supplemental = omega (arith, fewer);
      indexed = g.indexed;
      tails = g.tails;
      past = extended-past key x.supplemental k g.past;
      fits = g.fits;
      zero = λ z. clash u (ap (λ (j : ℕ). not (eqb j 0)) z);
    })

module _ (s : State) (w : well_formed s ≡ true) (n : ℕ) where
  -- the set of a nexus that is not PUBLIC is used
  pub selected-used : 0 < (nexus_at s n).scope → used (selected_set s n) ≡ true
  selected-used h =
      cases (eqb (nexus_at s n).scope local_scope)
      (λ t. (selected-local s w n (eqb-true _ _ t)).taken)
      (λ f.
      let e : (nexus_at s n).scope ≡ all_scope = omega (arith, eqb-false (nexus_at s n).scope local_scope f, (nexus-at s w n).scope) in
      ap (λ (k : ℕ). used (set_at s k)) (selected-shared s n f) ∙ ((nexus-at s w n).all e).0)

  -- a supplemental key leaves the record well formed
  supplemented-kept : (page : Page) → KeyFit s n page → well_formed (supplemented s n page) ≡ true
  unfolding supplemented
  supplemented-kept page fit =
      let u : used (selected_set s n) ≡ true = selected-used (omega (arith, fit.scope, fit.some)) in
      let l : selected s n < length s.sets = used-within s (selected s n) u in
      let v : Set = with_supplemental (appended page.fields.key (selected_set s n).supplemental) (selected_set s n) in
      near-well (supplemented s n page)
      (set-near none s (selected s n) v l (set-good (length s.nexuses) (selected s n) v (appended-good (length s.nexuses) (selected s n) (selected_set s n) page.fields.key fit.key fit.fewer u (set-at s w (selected s n) l))) refl refl (near_of none s w))

-- ---- the whole

-- taking an accepted page leaves a well-formed record well formed
pub taken-kept : (s : State) (n : ℕ) (page : Page) → well_formed s ≡ true → n < length s.nexuses → 0 < length s.sets → Fit s n page → well_formed (taken s n page) ≡ true
unfolding taken
taken-kept s n page w here some fit =
    if-elim (λ (x : State). well_formed x ≡ true) page.supplemental
    (λ t. supplemented-kept s w n page (fit.key t))
    (λ f. settled-kept (acts s (page_actions s n page)) n page fit.scope (page-ready s w n here page some fit f))
