-- The test of a record with words, by the owners of the places, is the definition.
-- Assumes nothing.
use Prim.Native.Nat.{ℕ, zero, suc, ◌-◌, ◌%◌, ◌^◌, ◌≤◌, ◌<◌}
use mathlib.Core.Path.{◌≡◌, refl, sym, ap, ap₂, ◌∙◌}
use mathlib.Core.Bool.{Bool, true, false, not, ◌&&◌, ◌||◌}
use mathlib.Core.List.{List, [], ◌∷◌}
use native.Mathlib.Nat.{zero-mul}
use native.Mathlib.Omega.{arith}
use borrow.Author.Tests.{eqb-true, eqb-false, eq-eqb, ne_eqb, lt-ltb, ltb-true, ltb-false}
use lib.Bits.{bit_and, bit_or, bit_xor}
use lib.Dec.{eqb, ltb}
use lib.ListN.{length, get_or}
use lib.Seq.{ext_get_or}
use Rattle.arrays.specs.Arrays.{each, all, word_of}
use Rattle.arrays.specs.Words.{some_below}
use Rattle.arrays.proofs.Base.{cases, clash, both, and_both, and_right, if-true, if-false, or-of, or-other, same_truth, each_holds}
use Rattle.arrays.proofs.Laws.{each_at, each_of}
use Rattle.arrays.proofs.Counting.{count-some, count-one}
use Rattle.arrays.proofs.Algebra.{word-or, word_and, word-xor, word_same, word-bits, word_none, word-every}
use Rattle.arrays.proofs.Joining.{some_at, some-found}
use Rattle.arrays.proofs.Sorting.{shifted_one}
use Rattle.parameters.specs.Codes.{public_scope, local_scope, all_scope}
use Rattle.device.specs.Record.{State, set_at, nexus_at, no_set, new_nexus, used}
use Rattle.device.specs.Selecting.{owns, selected}
use Rattle.device.specs.WellFormed.{empty_is_zero, used_fits, set_good, has_all, well_formed}
use Rattle.device.specs.Words.{words, Worded, formed}
use Rattle.device.specs.declared.Nexus.{Nexus}
use Rattle.device.proofs.WellFormed.{place-local, GoodSet, good-set, set-good, nexus-good, owner-local, well, well-formed, sets-tested, nexus-at, owner_at}
use Rattle.device.proofs.Selecting.{own, selected-local, selected-only, selected-shared}
use Rattle.words.specs.Placing.{is_local}
use Rattle.words.specs.Fitting.{owner_bit, held_by, nexus_fits, scopes_fit, selections_fit}
use Rattle.words.specs.declared.Held.{Held}
use Rattle.words.proofs.Words.{length-words, word-at, formed-is, is-formed}
use Rattle.words.proofs.Placing.{local-word}

-- ---- the owners of places with good sets

module _ (s : State) (ws : List ℕ) (few : length s.nexuses ≤ 64) (good : (place : ℕ) → place < length s.sets → GoodSet (length s.nexuses) place (set_at s place)) where
  -- the nexus owns the place's LOCAL set
  abbrev owned : ℕ → ℕ → Bool
  owned n place = owns n (set_at s place)

  -- the word of those that own one of so many places
  abbrev owners : ℕ → ℕ
  owners places = word_of (λ n (x : Nexus). some_below places (owned n)) s.nexuses

  -- a place whose set isn't LOCAL has no bit
  no-bit : (place : ℕ) → place < length s.sets → eqb (set_at s place).scope local_scope ≡ false → owner_bit place (set_at s place) ≡ 0
  no-bit place h f =
      cases (eqb place 0)
      (λ t. if-true (eqb place 0) 0 _ t)
      (λ later.
      let scope = (set_at s place).scope in
      let free : scope ≡ 0 =
      cases (eqb scope 0)
      (λ z. eqb-true scope 0 z)
      (λ u. clash (eq-eqb scope local_scope ((good place h).fits (ap not u) ∙ if-false (eqb place 0) all_scope local_scope later)) f) in
      if-false (eqb place 0) 0 _ later ∙ rw (free, zero-mul (2 ^ ((set_at s place).owner % 64))) refl)

  -- a place with a LOCAL set has its owner's
  one_bit : (place : ℕ) → place < length s.sets → (set_at s place).scope ≡ local_scope → owner_bit place (set_at s place) ≡ 2 ^ ((set_at s place).owner % 64)
  one_bit place h e =
      let set = set_at s place in
      let taken : used set ≡ true = ap (λ (k : ℕ). not (eqb k 0)) e in
      let later : eqb place 0 ≡ false =
      cases (eqb place 0)
      (λ t. clash {b = eqb local_scope all_scope} (eq-eqb local_scope all_scope (sym e ∙ (good place h).fits taken ∙ if-true (eqb place 0) all_scope local_scope t)) refl)
      (λ f. f) in
      if-false (eqb place 0) 0 _ later ∙ rw e (shifted_one 64 (set.owner % 64) (omega arith))

  -- so the bit of a place's owner is the word of those that own it
  bit_word : (place : ℕ) → place < length s.sets → owner_bit place (set_at s place) ≡ word_of (λ n (x : Nexus). owned n place) s.nexuses
  bit_word place h =
      cases (eqb (set_at s place).scope local_scope)
      (λ t. one_bit place h (eqb-true _ _ t) ∙ sym (if-true _ _ 0 (both _ _ t (lt-ltb _ _ (good place h).owner))))
      (λ f. no-bit place h f ∙ sym (if-false (eqb (set_at s place).scope local_scope && ltb (set_at s place).owner (length s.nexuses)) _ 0 (simp f)))
      ∙ local-word s.nexuses few (set_at s place)

  -- what so many places hold
  held_word : (places : ℕ) → places ≤ length s.sets → (held_by s.sets ws places).word ≡ owners places
  unfolding held_by
  held_word zero h = sym (word_none s.nexuses)
  held_word (suc k) h =
      ap₂ bit_or (held_word k (omega arith)) (bit_word k (omega arith)) ∙ word-or (λ n (x : Nexus). some_below k (owned n)) (λ n (x : Nexus). owned n k) s.nexuses

  -- each place below has its owner's bit for its word, and no owner that a place before it has
  record Fits (places : ℕ) : Type 0 where
    worded : (place : ℕ) → 0 < place → place < places → get_or ws place 0 ≡ owner_bit place (set_at s place)
    apart : (place : ℕ) → place < places → bit_and (owners place) (owner_bit place (set_at s place)) ≡ 0

  held_fits : (places : ℕ) → places ≤ length s.sets → (held_by s.sets ws places).fits ≡ true → Fits places
  unfolding held_by
  held_fits zero h t = record { worded = λ place i j. absurd (omega arith); apart = λ place i. absurd (omega arith) }
  held_fits (suc k) h t =
      let parts = each_holds _ (_ ∷ _ ∷ []) t in
      let before = held_fits k (omega arith) parts.0 in
      record {
        worded = λ place i j. cases (eqb place k)
            (λ same. let e : place ≡ k = eqb-true place k same in rw e (eqb-true _ _ (or-other (eqb k 0) _ parts.1.0 (ne_eqb k 0 (λ z. omega (arith, e))))))
            (λ other. let ne : place ≡ k → ⊥ = eqb-false place k other in before.worded place i (omega (arith, ne)));
        apart = λ place i. cases (eqb place k)
            (λ same. let e : place ≡ k = eqb-true place k same in rw e (ap (λ (v : ℕ). bit_and v (owner_bit k (set_at s k))) (sym (held_word k (omega arith))) ∙ eqb-true _ _ parts.1.1.0))
            (λ other. let ne : place ≡ k → ⊥ = eqb-false place k other in before.apart place (omega (arith, ne)));
      }

  fits-held : (places : ℕ) → places ≤ length s.sets → Fits places → (held_by s.sets ws places).fits ≡ true
  unfolding held_by
  fits-held zero h f = refl
  fits-held (suc k) h f =
      let before = fits-held k (omega arith) (record { worded = λ place i j. f.worded place i (omega arith); apart = λ place i. f.apart place (omega arith) }) in
      let word : (eqb k 0 || eqb (get_or ws k 0) (owner_bit k (set_at s k))) ≡ true = or-of (eqb k 0) _ (λ later. let ne : k ≡ 0 → ⊥ = eqb-false k 0 later in eq-eqb _ _ (f.worded k (omega (arith, ne)) (omega arith))) in
      let alone : eqb (bit_and (held_by s.sets ws k).word (owner_bit k (set_at s k))) 0 ≡ true = eq-eqb _ 0 (ap (λ (v : ℕ). bit_and v (owner_bit k (set_at s k))) (held_word k (omega arith)) ∙ f.apart k (omega arith)) in
      both _ _ (both _ _ before word) alone

  -- no nexus that owns a place before owns this one
  apart-is : (place : ℕ) → place < length s.sets → bit_and (owners place) (owner_bit place (set_at s place)) ≡ word_of (λ n (x : Nexus). some_below place (owned n) && owned n place) s.nexuses
  apart-is place h = ap (bit_and (owners place)) (bit_word place h) ∙ word_and (λ n (x : Nexus). some_below place (owned n)) (λ n (x : Nexus). owned n place) s.nexuses

  -- so each nexus owns one place at most
  owns-one : Fits (length s.sets) → (n : ℕ) → n < length s.nexuses → (p q : ℕ) → p < q → q < length s.sets → owned n p ≡ true → owned n q ≡ true → ⊥
  owns-one f n h p q less j a b =
      let none : word_of (λ k (x : Nexus). some_below q (owned k) && owned k q) s.nexuses ≡ word_of (λ k (x : Nexus). false) s.nexuses = sym (apart-is q j) ∙ f.apart q j ∙ sym (word_none s.nexuses) in
      clash (both _ _ (some_at (owned n) q p less a) b) (word-bits (λ k (x : Nexus). some_below q (owned k) && owned k q) (λ k (x : Nexus). false) new_nexus s.nexuses none n h)

  -- ---- what the test says makes the record well formed

  module _ (f : Fits (length s.sets)) (nexus : (n : ℕ) → n < length s.nexuses → nexus_fits (set_at s 0) n (nexus_at s n) ≡ true) (locals : word_of is_local s.nexuses ≡ owners (length s.sets)) where
    local-owns : (n : ℕ) → n < length s.nexuses → is_local n (nexus_at s n) ≡ some_below (length s.sets) (owned n)
    local-owns n h = word-bits is_local (λ k (x : Nexus). some_below (length s.sets) (owned k)) new_nexus s.nexuses locals n h

    owns-some : (n : ℕ) → n < length s.nexuses → (i j : ℕ) → i < length s.sets → j < length s.sets → owned n i ≡ true → owned n j ≡ true → i ≡ j
    owns-some n h i j a b x y =
        cases (ltb i j)
        (λ t. absurd (owns-one f n h i j (ltb-true i j t) b x y))
        (λ t. cases (ltb j i)
        (λ u. absurd (owns-one f n h j i (ltb-true j i u) a y x))
        (λ u. omega (arith, ltb-false i j t, ltb-false j i u)))

    -- who is neither PUBLIC nor LOCAL is ALL and owns place 0
    all-owns : (n : ℕ) → n < length s.nexuses → eqb (nexus_at s n).scope public_scope ≡ false → eqb (nexus_at s n).scope local_scope ≡ false
        → (eqb (nexus_at s n).scope all_scope && used (set_at s 0) && eqb (set_at s 0).owner n) ≡ true
    all-owns n h a b = or-other (eqb (nexus_at s n).scope local_scope) _ (or-other (eqb (nexus_at s n).scope public_scope) _ (nexus n h) a) b

    first-owner : (n : ℕ) → n < length s.nexuses → (nexus_at s n).scope ≡ all_scope → (used (set_at s 0) ≡ true) × ((set_at s 0).owner ≡ n)
    first-owner n h e =
        let parts = and_both (eqb (nexus_at s n).scope all_scope && used (set_at s 0)) (eqb (set_at s 0).owner n) (all-owns n h (simp e) (simp e)) in
        (and_right (eqb (nexus_at s n).scope all_scope) (used (set_at s 0)) parts.0, eqb-true _ _ parts.1)

    scope-most : (n : ℕ) → n < length s.nexuses → (nexus_at s n).scope ≤ 2
    scope-most n h =
        cases (eqb (nexus_at s n).scope public_scope)
        (λ t. let e : (nexus_at s n).scope ≡ 0 = eqb-true _ _ t in omega (arith, e))
        (λ u. cases (eqb (nexus_at s n).scope local_scope)
        (λ t. let e : (nexus_at s n).scope ≡ 1 = eqb-true _ _ t in omega (arith, e))
        (λ v. let e : (nexus_at s n).scope ≡ 2 = eqb-true _ _ (each_holds _ (_ ∷ _ ∷ []) (all-owns n h u v)).0 in omega (arith, e)))

    fits-well : well_formed s ≡ true
    fits-well =
        well-formed s
        (record {
          sets = λ place h. set-good (length s.nexuses) place (set_at s place) (good place h);
          nexuses = λ n h.
              nexus-good s.sets n (nexus_at s n)
              (record {
                scope = scope-most n h;
                local = λ e.
                    some-found (owned n) (length s.sets) (sym (local-owns n h) ∙ eq-eqb _ _ e)
                    (λ k i t. let some = count-some (λ place. owns n) no_set s.sets k i t in
                    let one = count-one (λ place. owns n) no_set s.sets (λ i j a b x y. owns-some n h i j a b x y) in
                    omega (arith, some, one));
                all = λ e. first-owner n h e;
              });
          owners = λ place h.
              owner-local s.nexuses place (set_at s place)
              (λ later taken.
              let n = (set_at s place).owner in
              let l : (set_at s place).scope ≡ local_scope = (good place h).fits taken ∙ place-local place later in
              let mine : owned n place ≡ true = both _ _ (eq-eqb _ _ l) (eq-eqb n n refl) in
              eqb-true _ _ (local-owns n (good place h).owner ∙ some_at (owned n) (length s.sets) place h mine));
          single = count-one (λ n. has_all) new_nexus s.nexuses (λ i j m k a b. sym (first-owner i m (eqb-true _ _ a)).1 ∙ (first-owner j k (eqb-true _ _ b)).1);
        })

  -- ---- what is so in a well-formed record

  module _ (w : well_formed s ≡ true) where
    -- the owner of a place is LOCAL and selects it
    owner-selects : (n place : ℕ) → owned n place ≡ true → ((nexus_at s n).scope ≡ local_scope) × (selected s n ≡ place)
    owner-selects n place t =
        let mine = own s w n place t in
        let l : (nexus_at s n).scope ≡ local_scope = rw mine.owner at (owner_at s w place mine.later mine.taken) in
        (l, selected-only s w n place l t)

    -- a place other than 0 is selected by its owner alone
    selects-own : (n place : ℕ) → 0 < place → eqb (selected s n) place ≡ owned n place
    selects-own n place later =
        same_truth (eqb (selected s n) place) (owned n place)
        (λ t.
        let e : selected s n ≡ place = eqb-true _ _ t in
        cases (eqb (nexus_at s n).scope local_scope)
        (λ l. let mine = selected-local s w n (eqb-true _ _ l) in rw (← e) (both _ _ (eq-eqb _ _ mine.local) (eq-eqb _ _ mine.owner)))
        (λ l. absurd (omega (arith, e, selected-shared s n l))))
        (λ t. eq-eqb _ _ (owner-selects n place t).1)

    -- place 0 by who isn't LOCAL
    selects-shared : (n : ℕ) → eqb (selected s n) 0 ≡ not (is_local n (nexus_at s n))
    selects-shared n =
        cases (eqb (nexus_at s n).scope local_scope)
        (λ l. ne_eqb (selected s n) 0 (λ z. omega (arith, (selected-local s w n (eqb-true _ _ l)).later)) ∙ ap not (sym l))
        (λ l. eq-eqb (selected s n) 0 (selected-shared s n l) ∙ ap not (sym l))

    -- the owners are the LOCAL nexuses
    owners-local : owners (length s.sets) ≡ word_of is_local s.nexuses
    owners-local =
        word_same (λ n (x : Nexus). some_below (length s.sets) (owned n)) is_local new_nexus new_nexus s.nexuses s.nexuses refl
        (λ n h. same_truth (some_below (length s.sets) (owned n)) (is_local n (nexus_at s n))
        (λ t. some-found (owned n) (length s.sets) t (λ k i u. eq-eqb _ _ (owner-selects n k u).0))
        (λ t. let mine = selected-local s w n (eqb-true _ _ t) in
        some_at (owned n) (length s.sets) (selected s n) mine.within (both _ _ (eq-eqb _ _ mine.local) (eq-eqb _ _ mine.owner))))

    -- the word of a place other than 0 is its owner's bit
    later-word : (place : ℕ) → 0 < place → place < length s.sets → get_or (words s) place 0 ≡ owner_bit place (set_at s place)
    later-word place later h =
        word-at s place h
        ∙ word_same (λ n (x : Nexus). eqb (selected s n) place) (λ n (x : Nexus). owned n place) new_nexus new_nexus s.nexuses s.nexuses refl (λ n k. selects-own n place later)
        ∙ sym (bit_word place h)

    -- and that of place 0 has every other nexus
    first_word : 0 < length s.sets → get_or (words s) 0 0 ≡ bit_xor (2 ^ length s.nexuses - 1) (owners (length s.sets))
    first_word h =
        word-at s 0 h
        ∙ word_same (λ n (x : Nexus). eqb (selected s n) 0) (λ n x. not (is_local n x)) new_nexus new_nexus s.nexuses s.nexuses refl (λ n k. selects-shared n)
        ∙ sym (word-xor (λ n (x : Nexus). true) is_local s.nexuses)
        ∙ ap₂ bit_xor (word-every s.nexuses) (sym owners-local)

    -- no nexus owns two places
    own-apart : (place : ℕ) → place < length s.sets → bit_and (owners place) (owner_bit place (set_at s place)) ≡ 0
    own-apart place h =
        apart-is place h
        ∙ word_same (λ n (x : Nexus). some_below place (owned n) && owned n place) (λ n (x : Nexus). false) new_nexus new_nexus s.nexuses s.nexuses refl
        (λ n k. cases (some_below place (owned n) && owned n place)
        (λ t. let b = and_both (some_below place (owned n)) (owned n place) t in
        some-found (owned n) place b.0 (λ q i u. absurd (omega (arith, (owner-selects n q u).1, (owner-selects n place b.1).1))))
        (λ t. t))
        ∙ word_none s.nexuses

    nexus-fits : (n : ℕ) → nexus_fits (set_at s 0) n (nexus_at s n) ≡ true
    nexus-fits n =
        let scope = (nexus_at s n).scope in
        let g = nexus-at s w n in
        or-of (eqb scope public_scope) _ (λ a. or-of (eqb scope local_scope) _ (λ b.
        let no : scope ≡ public_scope → ⊥ = eqb-false scope public_scope a in
        let nor : scope ≡ local_scope → ⊥ = eqb-false scope local_scope b in
        let e : scope ≡ all_scope = omega (arith, g.scope, no, nor) in
        both _ _ (both _ _ (eq-eqb scope all_scope e) (g.all e).0) (eq-eqb _ _ (g.all e).1)))

-- ---- the whole

module _ (r : Worded) (some : 0 < length r.state.nexuses) (few : length r.state.nexuses ≤ 64) (places : 0 < length r.state.sets) (sized : length r.words ≡ length r.state.sets) where
  abbrev s : State
  s = r.state

  abbrev many : ℕ
  many = length s.nexuses

  abbrev zeros : Bool
  zeros = all empty_is_zero s.sets

  abbrev taken : Bool
  taken = each (used_fits many) s.sets

  abbrev held : Held
  held = held_by s.sets r.words (length s.sets)

  abbrev first : Bool
  first = eqb (get_or r.words 0 0) (bit_xor (2 ^ many - 1) held.word)

  abbrev nexuses : Bool
  nexuses = each (nexus_fits (set_at s 0)) s.nexuses

  abbrev locals : Bool
  locals = eqb (word_of is_local s.nexuses) held.word

  abbrev test : Bool
  test = zeros && taken && selections_fit (2 ^ many - 1) s.sets s.nexuses r.words

  fits-parts : selections_fit (2 ^ many - 1) s.sets s.nexuses r.words ≡ (held.fits && first && (nexuses && locals))
  unfolding selections_fit scopes_fit
  fits-parts = refl

  module _ (good : (place : ℕ) → place < length s.sets → GoodSet many place (set_at s place)) where
    -- what all places hold
    all_held : held.word ≡ owners s r.words few good (length s.sets)
    all_held = held_word s r.words few good (length s.sets) (omega arith)

    there : well_formed s ≡ true → r.words ≡ words s → (held.fits && first && (nexuses && locals)) ≡ true
    there w same =
        let fits : held.fits ≡ true =
        fits-held s r.words few good (length s.sets) (omega arith)
        (record {
          worded = λ place i j. ap (λ (l : List ℕ). get_or l place 0) same ∙ later-word s r.words few good w place i j;
          apart = λ place i. own-apart s r.words few good w place i;
        }) in
        let shared : first ≡ true = eq-eqb _ _ (ap (λ (l : List ℕ). get_or l 0 0) same ∙ first_word s r.words few good w places ∙ ap (bit_xor (2 ^ many - 1)) (sym all_held)) in
        let each_fits : nexuses ≡ true = each_of (nexus_fits (set_at s 0)) new_nexus s.nexuses (λ n h. nexus-fits s r.words few good w n) in
        let own-fits : locals ≡ true = eq-eqb _ _ (sym (all_held ∙ owners-local s r.words few good w)) in
        both (held.fits && first) (nexuses && locals) (both held.fits first fits shared) (both nexuses locals each_fits own-fits)

    back : (held.fits && first && (nexuses && locals)) ≡ true → (well_formed s ≡ true) × (r.words ≡ words s)
    back t =
        let parts = and_both (held.fits && first) (nexuses && locals) t in
        let words-fit = and_both held.fits first parts.0 in
        let scopes-fit = and_both nexuses locals parts.1 in
        let fits = held_fits s r.words few good (length s.sets) (omega arith) words-fit.0 in
        let w : well_formed s ≡ true =
        fits-well s r.words few good fits (each_at (nexus_fits (set_at s 0)) new_nexus s.nexuses scopes-fit.0) (eqb-true (word_of is_local s.nexuses) held.word scopes-fit.1 ∙ all_held) in
        let shared : get_or r.words 0 0 ≡ get_or (words s) 0 0 =
        eqb-true _ _ words-fit.1 ∙ ap (bit_xor (2 ^ many - 1)) all_held ∙ sym (first_word s r.words few good w places) in
        let later : (place : ℕ) → 0 < place → place < length s.sets → get_or r.words place 0 ≡ get_or (words s) place 0 =
        λ place i j. fits.worded place i j ∙ sym (later-word s r.words few good w place i j) in (
          w,
          ext_get_or 0 r.words (words s) (sized ∙ sym (length-words s))
              (λ place h. at_place place shared later (omega (arith, h, sized))),
        )
      where
        at_place : (place : ℕ) → get_or r.words 0 0 ≡ get_or (words s) 0 0 → ((place : ℕ) → 0 < place → place < length s.sets → get_or r.words place 0 ≡ get_or (words s) place 0)
            → place < length s.sets → get_or r.words place 0 ≡ get_or (words s) place 0
        at_place zero a b h = a
        at_place (suc place) a b h = b (suc place) (omega arith) h

  sets-good : (each (set_good many) s.sets ≡ true) → (place : ℕ) → place < length s.sets → GoodSet many place (set_at s place)
  sets-good t place h = good-set many place (set_at s place) (each_at (set_good many) no_set s.sets t place h)

  formed-passes : formed r ≡ true → test ≡ true
  formed-passes t =
      let f = formed-is r t in
      let all-good : each (set_good many) s.sets ≡ true = each_of (set_good many) no_set s.sets (well s f.0).sets in
      both (zeros && taken) _ (sym (sets-tested many some s.sets) ∙ all-good)
      (fits-parts ∙ there (sets-good all-good) f.0 (ap (λ (x : Worded). x.words) f.1))

  passes-formed : test ≡ true → formed r ≡ true
  passes-formed t =
      let tests = and_both (zeros && taken) _ t in
      let is = back (sets-good (sets-tested many some s.sets ∙ tests.0)) (sym fits-parts ∙ tests.1) in
      ap formed (λ i. record { state = s; words = is.1 i }) ∙ is-formed s ∙ is.0

  -- A record is well formed exactly if all places pass as empty, all as used, and words and scopes fit.
  pub formed-tested : formed r ≡ (all empty_is_zero r.state.sets && each (used_fits (length r.state.nexuses)) r.state.sets && selections_fit (2 ^ length r.state.nexuses - 1) r.state.sets r.state.nexuses r.words)
  formed-tested = same_truth (formed r) test formed-passes passes-formed
