-- Who selects which place, from the words.
-- Assumes nothing.
use Prim.Native.Nat.{ℕ, zero, suc, ◌-◌, ◌^◌, ◌<◌}
use mathlib.Core.Path.{◌≡◌, refl, sym, ap, ap₂, ◌∙◌}
use mathlib.Core.Bool.{true, false, and-true}
use mathlib.Core.List.{List, [], ◌∷◌}
use native.Mathlib.Omega.{arith}
use borrow.Author.Tests.{eqb-true, eq-eqb, ne_eqb, ltb-true, ltb-false}
use lib.Dec.{eqb, ltb}
use lib.ListN.{length, get_or, replicate, length-replicate, get_or-replicate, get_or-eq_default}
use lib.Seq.{ext_get_or}
use Rattle.arrays.specs.Arrays.{word_of}
use Rattle.arrays.specs.Words.{bit_of, words_of, words_by, ones_over}
use Rattle.arrays.proofs.Base.{cases, clash, and_both, both}
use Rattle.arrays.proofs.Algebra.{word_same, word-bit, word_none, word-every}
use Rattle.arrays.proofs.Sorting.{words-at, words-length, words_same}
use Rattle.arrays.proofs.Total.{ones-picked}
use Rattle.parameters.specs.Codes.{local_scope}
use Rattle.device.specs.Record.{State, power_on, empty_set, no_set, new_nexus, nexus_at}
use Rattle.device.specs.Selecting.{place_of, selected}
use Rattle.device.specs.WellFormed.{well_formed}
use Rattle.device.specs.Words.{words, Worded, with_words, same_words, formed}
use Rattle.device.specs.declared.Nexus.{Nexus}
use Rattle.device.proofs.Selecting.{selected-within, selected-shared}
use Rattle.words.specs.Served.{InOne}

-- ---- the words of a record

-- as many words as places
pub length-words : (s : State) → length (words s) ≡ length s.sets
unfolding words
length-words s = words-length (λ place n (x : Nexus). eqb (selected s n) place) s.nexuses s.sets

-- the word of a place
pub word-at : (s : State) (place : ℕ) → place < length s.sets → get_or (words s) place 0 ≡ word_of (λ n (x : Nexus). eqb (selected s n) place) s.nexuses
unfolding words
word-at s place h = words-at (λ p n (x : Nexus). eqb (selected s n) p) s.nexuses s.sets no_set place h

-- "bit n says that nexus n selects this place"
pub bit-selects : (s : State) (place n : ℕ) → place < length s.sets → n < length s.nexuses → bit_of (get_or (words s) place 0) n ≡ eqb (selected s n) place
bit-selects s place n h l =
    ap (λ (w : ℕ). bit_of w n) (word-at s place h) ∙ word-bit (λ k (x : Nexus). eqb (selected s k) place) new_nexus s.nexuses n l

-- so each nexus's bit is in exactly one word
pub in_one : (s : State) (n : ℕ) → n < length s.nexuses → 0 < length s.sets → InOne s n
in_one s n l some =
    let h = selected-within s n some in
    record {
      within = h;
      there = bit-selects s (selected s n) n h l ∙ eq-eqb (selected s n) (selected s n) refl;
      only = λ place i t. sym (eqb-true _ _ (sym (bit-selects s place n i l) ∙ t));
    }

-- "the number of ones over all places is" the number of nexuses
pub words-total : (s : State) → 0 < length s.sets → ones_over (words s) ≡ length s.nexuses
unfolding words
words-total s h = ones-picked (λ n (x : Nexus). selected s n) new_nexus s.nexuses s.sets (λ n l. selected-within s n h)

-- "at power-on 16 ones for place 0, zeros elsewhere": as many ones as nexuses, and a zero for each later place
pub power-on-words : (nexuses later : ℕ) → words (power_on nexuses (suc later)) ≡ (2 ^ nexuses - 1) ∷ replicate later 0
unfolding words power_on
power-on-words nexuses later =
    let s = power_on nexuses (suc later) in
    let size : length s.sets ≡ suc later = length-replicate (suc later) (empty_set 0) in
    let shared : (n : ℕ) → selected s n ≡ 0 = λ n. selected-shared s n (ap (λ (x : Nexus). eqb x.scope local_scope) (new-at nexuses n)) in
    ext_get_or 0 (words s) ((2 ^ nexuses - 1) ∷ replicate later 0) (length-words s ∙ size ∙ sym (ap suc (length-replicate later 0)))
    (λ place h. word-at s place (omega (arith, h, length-words s)) ∙ at place (omega (arith, h, length-words s, size)) shared)
  where
    s : State
    s = power_on nexuses (suc later)

    new-at : (nexuses n : ℕ) → get_or (replicate nexuses new_nexus) n new_nexus ≡ new_nexus
    new-at nexuses n =
        cases (ltb n nexuses)
        (λ t. get_or-replicate nexuses n new_nexus new_nexus (ltb-true n nexuses t))
        (λ f. get_or-eq_default (replicate nexuses new_nexus) new_nexus (omega (arith, ltb-false n nexuses f, length-replicate nexuses new_nexus)))

    at : (place : ℕ) → place < suc later → ((n : ℕ) → selected s n ≡ 0) → word_of (λ n (x : Nexus). eqb (selected s n) place) s.nexuses ≡ get_or ((2 ^ nexuses - 1) ∷ replicate later 0) place 0
    at zero h e =
        word_same (λ n (x : Nexus). eqb (selected s n) 0) (λ n (x : Nexus). true) new_nexus new_nexus s.nexuses s.nexuses refl (λ n l. eq-eqb (selected s n) 0 (e n))
        ∙ word-every s.nexuses ∙ ap (λ (k : ℕ). 2 ^ k - 1) (length-replicate nexuses new_nexus)
    at (suc place) h e =
        word_same (λ n (x : Nexus). eqb (selected s n) (suc place)) (λ n (x : Nexus). false) new_nexus new_nexus s.nexuses s.nexuses refl (λ n l. ne_eqb (selected s n) (suc place) (λ z. omega (arith, e n, z)))
        ∙ word_none s.nexuses ∙ sym (get_or-replicate later place 0 0 (omega arith))

-- ---- what they follow from

-- the words by the nexuses' own scopes, as the code makes them
pub words-by : (s : State) → words_by (λ n x. place_of x n s.sets) s.nexuses s.sets ≡ words s
unfolding words selected
words-by s =
    words_same new_nexus no_set (λ place n x. eqb (place_of x n s.sets) place) (λ place n (x : Nexus). eqb (selected s n) place) s.nexuses s.nexuses s.sets refl (λ place n h k. refl)

-- who selects what follows from the sets and the scopes alone
selected-kept : (s t : State) (n : ℕ) → t.sets ≡ s.sets → (nexus_at t n).scope ≡ (nexus_at s n).scope → selected t n ≡ selected s n
unfolding selected
selected-kept s t n same e = rw (same, e)

-- so do the words: marks, flags, locks, saved numbers and the counter are free
pub words-kept : (s t : State) → t.sets ≡ s.sets → length t.nexuses ≡ length s.nexuses → ((n : ℕ) → (nexus_at t n).scope ≡ (nexus_at s n).scope) → words t ≡ words s
unfolding words
words-kept s t same l e =
    ap (λ ys. words_of (λ place n (x : Nexus). eqb (selected t n) place) t.nexuses ys) same
    ∙ words_same new_nexus no_set (λ place n (x : Nexus). eqb (selected t n) place) (λ place n (x : Nexus). eqb (selected s n) place) t.nexuses s.nexuses s.sets l
    (λ place n h k. ap (λ (p : ℕ). eqb p place) (selected-kept s t n same (e n)))

-- ---- the same words

pub same-words : (v w : List ℕ) → same_words v w ≡ true → v ≡ w
same-words [] [] e = refl
same-words [] (y ∷ w) e = clash e refl
same-words (x ∷ v) [] e = clash e refl
same-words (x ∷ v) (y ∷ w) e = let h = and_both (eqb x y) (same_words v w) e in ap₂ {C = List ℕ} ◌∷◌ (eqb-true x y h.0) (same-words v w h.1)

pub words-same-as : (w : List ℕ) → same_words w w ≡ true
words-same-as [] = refl
words-same-as (x ∷ w) = both (eqb x x) (same_words w w) (eq-eqb x x refl) (words-same-as w)

-- a record is well formed exactly if its device is and its words are what the scopes say
pub formed-is : (r : Worded) → formed r ≡ true → (well_formed r.state ≡ true) × (r ≡ with_words r.state)
unfolding formed
formed-is r t =
    let h = and_both _ _ t in
    let e = same-words r.words (words r.state) h.1 in
    (h.0, λ i. record { state = r.state; words = e i })

pub is-formed : (s : State) → formed (with_words s) ≡ well_formed s
unfolding formed
is-formed s = simp (words-same-as (words s)) (and-true (well_formed s))
