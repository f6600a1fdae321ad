-- What a nexus is told, from parts of the record.
-- Assumes nothing.
use Rattle.std.specs.Prelude.{ℕ, Option, Some, None}
use Prim.Native.Nat.{ℕ, ◌+◌, ◌/◌, ◌%◌, ◌^◌, ◌≤◌, ◌<◌}
use mathlib.Core.Path.{◌≡◌, refl, sym, ap, ap₂, subst, ◌∙◌}
use mathlib.Core.Bool.{Bool, true, false, not, ◌&&◌, ◌||◌, or-false, and-false, and_assoc, and_comm}
use mathlib.Core.List.{List}
use native.Mathlib.Omega.{arith}
use borrow.Author.Tests.{eqb-true, eqb-false, eq-eqb, ne_eqb, ltb-true}
use lib.Dec.{eqb, ltb}
use lib.ListN.{length, get_or, set}
use lib.Pow.{shr-shr}
use Rattle.arrays.specs.Arrays.{map_from}
use Rattle.arrays.specs.Words.{bit_of}
use Rattle.arrays.proofs.Base.{cases, if-true, if-false, or-other}
use Rattle.arrays.proofs.Algebra.{word-bit, word_none, word-one, bits-end}
use Rattle.arrays.proofs.Laws.{map_from-kept, map_from-same}
use Rattle.arrays.proofs.Loops.{Rewritten, rewrite-starts, rewrite-more, rewrite-passes, rewrite-rest, rewrite-ends}
use Rattle.device.specs.Record.{State, nexus_at, new_nexus}
use Rattle.device.specs.Selecting.{selected, selected_set}
use Rattle.device.specs.Updates.{with_nexuses}
use Rattle.device.specs.declared.Nexus.{Nexus}
use Rattle.marks.specs.Marks.{remarked, is_actor, differs, told, alerted, flagged}
use Rattle.marks.specs.Parts.{told_in, actor_bit}

-- a nexus that is told nothing stays as it is
pub untold : (actor : Option ℕ) (nexus : Nexus) → remarked (alerted actor false) nexus ≡ nexus
untold None nexus = simp (or-false)
untold (Some m) nexus = simp (or-false)

-- a nexus is told nothing where nothing changed
nobody-told : (actor : Option ℕ) (s : State) (n : ℕ) → told (differs s s) s actor n ≡ false
nobody-told actor s n =
    simp (eq-eqb (selected s n) (selected s n) refl, eq-eqb (selected_set s n).number (selected_set s n).number refl, and-false)

-- where nothing changed nobody is told
pub flag-none : (actor : Option ℕ) (s : State) → flagged (differs s s) actor s s ≡ s
unfolding flagged
flag-none actor s =
    ap (λ (l : List Nexus). with_nexuses l s)
    (map_from-kept (λ n. remarked (alerted actor (told (differs s s) s actor n)))
    (λ n x. ap (λ (b : Bool). remarked (alerted actor b) x) (nobody-told actor s n) ∙ untold actor x) 0 s.nexuses)

-- ---- from a word of those for whom something changes

-- the loop that tells each nexus, its bits halved away
module _ (count : ℕ) (actor : Option ℕ) (word : ℕ) (was nexuses : List Nexus) where
  abbrev pub tells : ℕ → Nexus → Nexus
  tells n = remarked (alerted actor (told_in (get_or was n new_nexus) n actor word))

  -- the invariant
  pub record Telling (n : ℕ) (out : List Nexus) (rest : ℕ) : Type 0 where
    pub rewritten : Rewritten tells count nexuses n out
    pub halved : rest ≡ word / 2 ^ n

  pub tell-starts : length nexuses ≡ count → Telling 0 nexuses word
  tell-starts h = record { rewritten = rewrite-starts h; halved = omega arith }

  halves : (n rest : ℕ) → rest ≡ word / 2 ^ n → rest / 2 ≡ word / 2 ^ (n + 1)
  halves n rest e = ap (λ (k : ℕ). k / 2 ^ 1) e ∙ shr-shr word n 1

  module _ {n rest : ℕ} {out : List Nexus} (l : Telling n out rest) (h : n < count) {asked : Bool} (e : asked ≡ ((get_or was n new_nexus).marks.registered && not (is_actor actor n))) where
    is-told : (eqb (rest % 2) 1 && asked) ≡ told_in (get_or was n new_nexus) n actor word
    is-told =
        ap₂ ◌&&◌ (ap (λ (k : ℕ). eqb (k % 2) 1) l.halved) e
        ∙ and_comm (bit_of word n) ((get_or was n new_nexus).marks.registered && not (is_actor actor n))

    -- one that is told
    pub tell-one : {out' : List Nexus} {v : Nexus} → (eqb (rest % 2) 1 && asked) ≡ true → v ≡ remarked (alerted actor true) (get_or out n new_nexus) → out' ≡ set out n v → Telling (n + 1) out' (rest / 2)
    tell-one t f s =
        record {
          rewritten = subst (Rewritten tells count nexuses (n + 1)) (sym s) (rewrite-more l.rewritten h new_nexus (f ∙ ap (λ (b : Bool). remarked (alerted actor b) (get_or out n new_nexus)) (sym t ∙ is-told)));
          halved = halves n rest l.halved;
        }

    -- one that is not
    pub tell_none : {out' : List Nexus} → (eqb (rest % 2) 1 && asked) ≡ false → out' ≡ out → Telling (n + 1) out' (rest / 2)
    tell_none t s =
        record {
          rewritten = subst (Rewritten tells count nexuses (n + 1)) (sym s)
              (rewrite-passes l.rewritten h new_nexus (ap (λ (b : Bool). remarked (alerted actor b) (get_or nexuses n new_nexus)) (sym is-told ∙ t) ∙ untold actor (get_or nexuses n new_nexus)));
          halved = halves n rest l.halved;
        }

  -- no bit is left: the others are told nothing
  pub tell-stops : {n rest : ℕ} {out : List Nexus} → Telling n out rest → rest ≡ 0 → out ≡ map_from tells 0 nexuses
  tell-stops {n} {rest} l e =
      let none : word / 2 ^ n ≡ 0 = sym l.halved ∙ e in
      rewrite-rest l.rewritten
      (λ k x h. ap (λ (b : Bool). remarked (alerted actor ((get_or was k new_nexus).marks.registered && not (is_actor actor k) && b)) x) (bits-end word n k none h)
      ∙ ap (λ (b : Bool). remarked (alerted actor b) x) (and-false ((get_or was k new_nexus).marks.registered && not (is_actor actor k))) ∙ untold actor x)

  -- all are told
  pub tell-ends : {n rest : ℕ} {out : List Nexus} → Telling n out rest → count ≤ n → out ≡ map_from tells 0 nexuses
  tell-ends l h = rewrite-ends l.rewritten h

-- nobody is told where the word has no bit, or the acting nexus's alone
module _ (count : ℕ) (actor : Option ℕ) (s t : State) (word : ℕ) (sized : length t.nexuses ≡ count) where
  -- none but the acting nexus has a bit
  abbrev OnlyActor : Type 0
  OnlyActor = (n : ℕ) → n < count → (not (is_actor actor n) && bit_of word n) ≡ false

  unflagged : OnlyActor → flagged (bit_of word) actor s t ≡ t
  unfolding flagged
  unflagged f =
      ap (λ (l : List Nexus). with_nexuses l t)
      (map_from-same (λ n. remarked (alerted actor (told (bit_of word) s actor n))) (λ n x. x) t.nexuses
      (λ n x h. ap (λ (b : Bool). remarked (alerted actor b) x) (and_assoc (nexus_at s n).marks.registered (not (is_actor actor n)) (bit_of word n) ∙ ap (λ (b : Bool). (nexus_at s n).marks.registered && b) (f n (omega (arith, sized))) ∙ and-false (nexus_at s n).marks.registered) ∙ untold actor x)
      ∙ map_from-kept (λ n (x : Nexus). x) (λ i x. refl) 0 t.nexuses)

  no-bit : (n : ℕ) → n < count → bit_of 0 n ≡ false
  no-bit n h = ap (λ (w : ℕ). bit_of w n) (sym (word_none t.nexuses)) ∙ word-bit (λ k (x : Nexus). false) new_nexus t.nexuses n (omega (arith, sized))

  nothing-changed : word ≡ 0 → OnlyActor
  nothing-changed e n h = ap (λ (w : ℕ). not (is_actor actor n) && bit_of w n) e ∙ ap (λ (b : Bool). not (is_actor actor n) && b) (no-bit n h) ∙ and-false (not (is_actor actor n))

pub quiet : (count : ℕ) (actor : Option ℕ) (s t : State) (word bit : ℕ) → length t.nexuses ≡ count → bit ≡ actor_bit count actor → (eqb word 0 || eqb word bit) ≡ true → flagged (bit_of word) actor s t ≡ t
quiet count actor s t word bit sized e h =
    cases (eqb word 0)
    (λ z. unflagged count actor s t word sized (nothing-changed count actor s t word sized (eqb-true word 0 z)))
    (λ z. unflagged count actor s t word sized (only actor (eqb-true word bit (or-other (eqb word 0) (eqb word bit) h z) ∙ e)))
  where
    only : (actor : Option ℕ) → word ≡ actor_bit count actor → (n : ℕ) → n < count → (not (is_actor actor n) && bit_of word n) ≡ false
    only None same n l = nothing-changed count None s t word sized same n l
    only (Some m) same n l =
        cases (ltb m count)
        (λ i.
        let one : word ≡ 2 ^ m = same ∙ if-true (ltb m count) (2 ^ m) 0 i in
        let is : bit_of word n ≡ eqb n m =
        ap (λ (w : ℕ). bit_of w n) (one ∙ sym (word-one t.nexuses m (omega (arith, sized, ltb-true m count i))))
        ∙ word-bit (λ k (x : Nexus). eqb k m) new_nexus t.nexuses n (omega (arith, sized)) in
        cases (eqb m n)
        (λ y. simp y)
        (λ y. simp (is, y, ne_eqb n m (λ z. eqb-false m n y (sym z)))))
        (λ i. nothing-changed count (Some m) s t word sized (same ∙ if-false (ltb m count) (2 ^ m) 0 i) n l)
