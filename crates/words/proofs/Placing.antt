-- The words made place by place are what the scopes say, of any record.
-- Assumes nothing.
use Rattle.std.specs.Prelude.{Some, None}
use Prim.Native.Nat.{ℕ, ◌-◌, ◌%◌, ◌^◌, ◌≤◌, ◌<◌}
use mathlib.Core.Path.{◌≡◌, refl, sym, ap, ◌∙◌}
use mathlib.Core.Bool.{Bool, true, false, not, ◌&&◌, ◌||◌, and-false, or-true, or-false}
use mathlib.Core.List.{List}
use native.Mathlib.Nat.{mod-eq_of_lt}
use native.Mathlib.Omega.{arith}
use borrow.Author.Tests.{eqb-true, eqb-false, eq-eqb, ne_eqb, lt-ltb, ltb-true}
use lib.Bits.{bit_and, bit_or, bit_xor}
use lib.Dec.{eqb, ltb}
use lib.ListN.{length, get_or, set}
use Rattle.arrays.specs.Arrays.{word_of}
use Rattle.arrays.specs.Words.{words_of, some_below}
use Rattle.arrays.proofs.Base.{cases, clash, if-true, if-false, both, and_both, same_truth}
use Rattle.arrays.proofs.Laws.{find-by, find-lowest}
use Rattle.arrays.proofs.Algebra.{apart, word-or, word_and, word-xor, word_same, word_none, word-every, word-one}
use Rattle.arrays.proofs.Joining.{some_at}
use Rattle.arrays.proofs.Sorting.{words-at, words-set}
use Rattle.arrays.proofs.Placing.{some_first, first-only, waiting, taking, Placed}
use Rattle.parameters.specs.Codes.{local_scope}
use Rattle.device.specs.Record.{State, no_set, new_nexus}
use Rattle.device.specs.Selecting.{owns, owned_place, or_else, place_of}
use Rattle.device.specs.Words.{words}
use Rattle.device.specs.declared.Set.{Set}
use Rattle.device.specs.declared.Nexus.{Nexus}
use Rattle.words.specs.Placing.{is_local, local_bit}
use Rattle.words.proofs.Words.{words-by}

-- the bit of a LOCAL set's owner is the word of those that own it
pub local-word : (xs : List Nexus) → length xs ≤ 64 → (set : Set) → local_bit (length xs) set ≡ word_of (λ n (x : Nexus). owns n set) xs
local-word xs few set =
    let owner = set.owner in
    let there : Bool = eqb set.scope local_scope && ltb owner (length xs) in
    cases there
    (λ t.
    let parts = and_both (eqb set.scope local_scope) (ltb owner (length xs)) t in
    let less : owner < length xs = ltb-true owner (length xs) parts.1 in
    let small : owner % 64 ≡ owner = mod-eq_of_lt (omega arith) in
    if-true there _ 0 t ∙ ap (λ (k : ℕ). 2 ^ k) small ∙ sym (word-one xs owner less)
    ∙ word_same (λ n (x : Nexus). eqb n owner) (λ n (x : Nexus). owns n set) new_nexus new_nexus xs xs refl (λ n k. sym (ap (λ (b : Bool). b && eqb owner n) parts.0 ∙ turned owner n)))
    (λ f. if-false there _ 0 f ∙ sym (word_none xs) ∙ word_same (λ n (x : Nexus). false) (λ n (x : Nexus). owns n set) new_nexus new_nexus xs xs refl (λ n k. sym (cases (owns n set)
    (λ t.
    let parts = and_both (eqb set.scope local_scope) (eqb owner n) t in
    let mine : owner ≡ n = eqb-true owner n parts.1 in
    clash (both _ _ parts.0 (rw mine (lt-ltb n (length xs) k))) f)
    (λ none. none))))
  where
    turned : (a b : ℕ) → eqb a b ≡ eqb b a
    turned a b = same_truth (eqb a b) (eqb b a) (λ t. eq-eqb b a (sym (eqb-true a b t))) (λ t. eq-eqb a b (sym (eqb-true b a t)))

module _ (sets : List Set) where
  abbrev many : ℕ
  many = length sets

  -- the nexus owns the place's LOCAL set
  abbrev owned : ℕ → ℕ → Bool
  owned n place = owns n (get_or sets place no_set)

  abbrev pub owned_at : ℕ → ℕ → Nexus → Bool
  owned_at place n x = owned n place

  -- a nexus selects place 0, or, LOCAL, the first that it owns
  picks : {C : Type 0} (n : ℕ) (x : Nexus)
      → (is_local n x ≡ false → place_of x n sets ≡ 0 → C)
      → (is_local n x ≡ true → some_below many (owned n) ≡ false → place_of x n sets ≡ 0 → C)
      → (is_local n x ≡ true → (k : ℕ) → k < many → owned n k ≡ true → some_below k (owned n) ≡ false → place_of x n sets ≡ k → C)
      → C
  unfolding owned_place
  picks n x other none first =
      cases (is_local n x)
      (λ l. cases (some_below many (owned n))
      (λ t. some_first (owned n) many t (λ k h u v.
      let found : owned_place sets n ≡ Some k = find-lowest Some None (λ place. owns n) no_set sets k h u
      (λ i g. cases (owned n i) (λ w. clash (some_at (owned n) k i g w) v) (λ w. w)) in
      first l k h u v (if-true (is_local n x) _ 0 l ∙ ap (λ f. or_else f 0) found)))
      (λ f. none l f (if-true (is_local n x) _ 0 l ∙ find-by Some None (λ place. owns n) no_set (λ r. or_else r 0 ≡ 0) sets (λ k h t. clash (some_at (owned n) many k h t) f) refl)))
      (λ f. other f (if-false (is_local n x) _ 0 f))

  -- a place other than 0 is selected by those that it takes first
  later-taken : (place n : ℕ) (x : Nexus) → eqb place 0 ≡ false → place < many → taking is_local owned_at place n x ≡ eqb (place_of x n sets) place
  later-taken place n x later h =
      let no : eqb 0 place ≡ false = ne_eqb 0 place (λ e. eqb-false place 0 later (sym e)) in
      picks n x
      (λ f z. rw (z, f, no))
      (λ l f z. rw (z, l, no) (cases (owned n place) (λ t. clash (some_at (owned n) many place h t) f) (λ t. rw t (and-false (not (some_below place (owned n)))))))
      (λ l k g t v z. rw (z, l) (first-only (owned n) k place t v))

  -- and place 0 by those, by who isn't LOCAL and by who waits in the end
  first_taken : (n : ℕ) (x : Nexus) → (taking is_local owned_at 0 n x || apart (apart true (is_local n x)) (waiting is_local owned_at many n x)) ≡ eqb (place_of x n sets) 0
  first_taken n x =
      picks n x
      (λ f z. rw (z, f))
      (λ l f z. rw (z, l, f) (or-true (owned n 0)))
      (λ l k g t v z. rw (z, l, some_at (owned n) many k g t) (or-false (owned n 0) ∙ first-only (owned n) k 0 t v))

  -- those that wait, and own the place, are those that it takes
  pub own-taken : {xs : List Nexus} {m place rest nexuses own : ℕ} {ws : List ℕ} → Placed is_local owned_at m xs sets place ws rest → length xs ≡ nexuses → nexuses ≤ 64 → own ≡ local_bit nexuses (get_or sets place no_set)
      → bit_and rest own ≡ word_of (taking is_local owned_at place) xs
  own-taken {xs} {place} r n few e =
      rw (r.left, e, ← n, local-word xs (omega (arith, n)) (get_or sets place no_set)) (word_and (waiting is_local owned_at place) (owned_at place) xs)

-- So the loop over the places makes the words.
pub words_placed : (s : State) {ws : List ℕ} {locals rest : ℕ} → 0 < length s.sets → locals ≡ word_of is_local s.nexuses → ws ≡ words_of (taking is_local (owned_at s.sets)) s.nexuses s.sets
    → rest ≡ word_of (waiting is_local (owned_at s.sets) (length s.sets)) s.nexuses
    → set ws 0 (bit_or (get_or ws 0 0) (bit_xor (bit_xor (2 ^ length s.nexuses - 1) locals) rest)) ≡ words s
words_placed s {ws} {locals} {rest} some local made left =
    rw (made, local, left)
    (words-set new_nexus no_set takes (λ place n x. eqb (place_of x n s.sets) place) s.nexuses s.nexuses s.sets refl 0 _ here (λ place n later h k. later-taken s.sets place n (get_or s.nexuses n new_nexus) later h)
    ∙ words-by s)
  where
    takes : ℕ → ℕ → Nexus → Bool
    takes = taking is_local (owned_at s.sets)

    waits : ℕ → Nexus → Bool
    waits = waiting is_local (owned_at s.sets) (length s.sets)

    here : bit_or (get_or (words_of takes s.nexuses s.sets) 0 0) (bit_xor (bit_xor (2 ^ length s.nexuses - 1) (word_of is_local s.nexuses)) (word_of waits s.nexuses))
        ≡ word_of (λ n x. eqb (place_of x n s.sets) 0) s.nexuses
    here =
        rw (words-at takes s.nexuses s.sets no_set 0 some, ← word-every s.nexuses, word-xor (λ n (x : Nexus). true) is_local s.nexuses, word-xor (λ n (x : Nexus). apart true (is_local n x)) waits s.nexuses)
        (word-or (takes 0) (λ n (x : Nexus). apart (apart true (is_local n x)) (waits n x)) s.nexuses
        ∙ word_same (λ n (x : Nexus). takes 0 n x || apart (apart true (is_local n x)) (waits n x)) (λ n x. eqb (place_of x n s.sets) 0) new_nexus new_nexus s.nexuses s.nexuses refl (λ n k. first_taken s.sets n (get_or s.nexuses n new_nexus)))
