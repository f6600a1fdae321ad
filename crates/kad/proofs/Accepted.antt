-- A list of descriptors without a fault is two descriptors at most, U-KAD before A-KAD.
-- Assumes nothing.
use Rattle.std.specs.Prelude.{ℕ, Option, Some, None}
use mathlib.Core.Path.{◌≡◌, refl, sym, ap, ◌∙◌}
use mathlib.Core.Bool.{true, false, not}
use mathlib.Core.List.{List, [], ◌∷◌, ◌++◌, append-nil}
use Prim.Native.Nat.{ℕ, zero, suc, ◌+◌, ◌<◌, ◌≤◌}
use native.Mathlib.Nat.{not-suc-le-zero}
use native.Mathlib.Omega.{arith}
use borrow.Author.Tests.{eqb-true, eqb-false, leb-true, ltb-true, ltb-false, le-leb, eq-eqb, ne_eqb, not-true}
use lib.Dec.{ltb}
use lib.ListN.{length, get_or, drop, length-take, length-drop, take-append-drop}
use lib.Seq.{drop-cons, drop-drop, length-take-le}
use Rattle.arrays.proofs.Base.{cases, clash}
use Rattle.wire.specs.Numbers.{byte_at}
use Rattle.wire.specs.Rules.{breach}
use Rattle.wire.proofs.Rules.{none}
use Rattle.kad.specs.Kad.{u_most, a_most, with_data}
use Rattle.kad.specs.Reading.{descriptor_head, type_of, length_of, data_of, next_of, most, rising, descriptor_rules, one_step, listed}
use Rattle.kad.specs.Writing.{descriptor}
use Rattle.kad.specs.declared.Kads.{Kads}
use Rattle.kad.specs.declared.Listed.{Listed}
use Rattle.kad.proofs.Reading.{most-le, rules-hold, fault-lt}
use Rattle.kad.proofs.Writing.{some}

-- ---- bytes written out

-- the n elements from index i on, written out, and the rest
abbrev pub elements : ℕ → ℕ → List ℕ → List ℕ
elements zero i l = drop i l
elements (suc n) i l = get_or l i 0 ∷ elements n (suc i) l

-- a list that has so many is these
pub elements-eq : (n i : ℕ) (l : List ℕ) → i + n ≤ length l → drop i l ≡ elements n i l
elements-eq zero i l h = refl
elements-eq (suc n) i l h = drop-cons l i 0 (omega arith) ∙ ap (λ (t : List ℕ). get_or l i 0 ∷ t) (elements-eq n (suc i) l (omega arith))

-- ---- a list's first descriptor

-- data are at most as many bytes as the length states
pub data-few : (s : List ℕ) → length (data_of s) ≤ length_of s
data-few s = omega (arith, length-take (length_of s) (drop descriptor_head s))

-- what the rules of a list's first descriptor say
pub record Formed (s : List ℕ) (seen : Option ℕ) : Type 0 where
  pub low : type_of s ≤ 1
  pub rises : rising seen (type_of s) ≡ true
  pub fits : next_of s ≤ length s
  pub blank : byte_at s 1 ≡ 0
  pub some : length_of s ≡ 0 → ⊥
  pub few : length_of s ≤ most (type_of s)

-- where none of them breaks
pub formed : (s : List ℕ) (seen : Option ℕ) → descriptor_head ≤ breach (descriptor_rules s seen) descriptor_head → Formed s seen
unfolding descriptor_rules
formed s seen h =
    let all = rules-hold s seen h in
    record {
      low = leb-true _ _ all.0;
      rises = all.1.0;
      fits = leb-true _ _ all.1.1.1.0;
      blank = eqb-true _ _ all.1.1.1.1.0;
      some = eqb-false _ _ (not-true _ all.1.1.1.1.1.0);
      few = leb-true _ _ all.1.1.1.1.1.1.0;
    }

-- and only there
pub passes : (s : List ℕ) (seen : Option ℕ) → Formed s seen → breach (descriptor_rules s seen) descriptor_head ≡ descriptor_head
unfolding descriptor_rules
passes s seen f =
    none (descriptor_rules s seen) descriptor_head
    (le-leb _ _ f.low, (f.rises, (le-leb descriptor_head (length s) (omega arith), (le-leb _ _ f.fits, (eq-eqb _ _ f.blank, (ap not (ne_eqb _ _ f.some), (le-leb _ _ f.few, tt)))))))

-- a list that starts with a descriptor is that descriptor and the rest
pub front : (s : List ℕ) (seen : Option ℕ) → Formed s seen → s ≡ descriptor (type_of s) (data_of s) ++ drop (next_of s) s
front s seen f =
    let few : length_of s ≤ u_most = omega (arith, most-le (type_of s), f.few) in
    let size : length (data_of s) ≡ length_of s = length-take-le (length_of s) (drop descriptor_head s) (omega (arith, length-drop descriptor_head s, f.fits)) in
    let high : byte_at s 2 ≡ 0 = omega arith in
    let low : byte_at s 3 ≡ length_of s = omega arith in
    let blank = f.blank in
    let start : s ≡ type_of s ∷ 0 ∷ 0 ∷ length_of s ∷ drop descriptor_head s = elements-eq 4 0 s (omega arith) ∙ cc in
    start
    ∙ rw (some (type_of s) (data_of s) (λ e. f.some (sym size ∙ e)) (omega arith), size, ← drop-drop (length_of s) descriptor_head s, take-append-drop (length_of s) (drop descriptor_head s)) refl

-- ---- a list without a fault

-- two descriptors at most, and only of types above the last one seen
pub record Parts (seen : Option ℕ) (s : List ℕ) : Type 0 where
  pub u : List ℕ
  pub a : List ℕ
  pub ushort : length u ≤ u_most
  pub ashort : length a ≤ a_most
  pub is : s ≡ descriptor 0 u ++ descriptor 1 a
  pub unone : rising seen 0 ≡ false → u ≡ []
  pub anone : rising seen 1 ≡ false → a ≡ []

-- the empty list
no-parts : (seen : Option ℕ) → Parts seen []
no-parts seen = record { u = []; a = []; ushort = omega arith; ashort = omega arith; is = refl; unone = λ e. refl; anone = λ e. refl }

-- U-KAD comes first
join-u : (seen : Option ℕ) (d rest : List ℕ) → rising seen 0 ≡ true → length d ≤ u_most → Parts (Some 0) rest → Parts seen (descriptor 0 d ++ rest)
join-u None d rest r h p = record {
  u = d;
  a = p.a;
  ushort = h;
  ashort = p.ashort;
  is = ap (λ (t : List ℕ). descriptor 0 d ++ t) (p.is ∙ ap (λ (t : List ℕ). descriptor 0 t ++ descriptor 1 p.a) (p.unone refl));
  unone = λ e. clash refl e;
  anone = λ e. clash refl e;
}
join-u (Some last) d rest r h p = absurd (not-suc-le-zero (ltb-true last 0 r))

-- A-KAD comes last
join-a : (seen : Option ℕ) (d rest : List ℕ) → rising seen 1 ≡ true → length d ≤ a_most → Parts (Some 1) rest → Parts seen (descriptor 1 d ++ rest)
join-a seen d rest r h p = record {
  u = [];
  a = d;
  ushort = omega arith;
  ashort = h;
  is = ap (λ (t : List ℕ). descriptor 1 d ++ t) (p.is ∙ rw (p.unone refl, p.anone refl) refl) ∙ append-nil (descriptor 1 d);
  unone = λ e. refl;
  anone = λ e. clash r e;
}

-- a descriptor before such a list
join : (seen : Option ℕ) (kind : ℕ) (d rest : List ℕ) → kind ≤ 1 → rising seen kind ≡ true → length d ≤ most kind → Parts (Some kind) rest → Parts seen (descriptor kind d ++ rest)
join seen zero d rest l r h p = join-u seen d rest r h p
join seen (suc zero) d rest l r h p = join-a seen d rest r h p
join seen (suc (suc kind)) d rest l r h p = absurd (omega arith)

-- one step: where the rest is such a list, so is the whole
step-parts : (f : List ℕ → Option ℕ → Kads → Listed) (s : List ℕ) (seen : Option ℕ) (k : Kads) → 0 < length s
    → ((t : List ℕ) (seen : Option ℕ) (k : Kads) → length t < length s → (f t seen k).good ≡ length t → Parts seen t) → (one_step f s seen k).good ≡ length s → Parts seen s
step-parts f s seen k l p e =
    let fault = breach (descriptor_rules s seen) descriptor_head in
    cases (ltb fault descriptor_head)
    (λ t. let ends : fault ≡ length s = rw t at e in absurd (omega (arith, fault-lt s seen l (ltb-true _ _ t))))
    (λ t.
    let d = formed s seen (ltb-false fault descriptor_head t) in
    let rest = drop (next_of s) s in
    let more = with_data k (type_of s) (data_of s) in
    let size = length-drop (next_of s) s in
    let ends : next_of s + (f rest (Some (type_of s)) more).good ≡ length s = rw t at e in
    let q = p rest (Some (type_of s)) more (omega arith) (omega (arith, d.fits)) in
    rw (front s seen d) (join seen (type_of s) (data_of s) rest d.low d.rises (omega (arith, data-few s, d.few)) q))

-- so a list of which all bytes are good is two descriptors at most
pub parts : (n : ℕ) (s : List ℕ) (seen : Option ℕ) (k : Kads) → length s ≤ n → (listed n s seen k).good ≡ length s → Parts seen s
unfolding listed
parts zero [] seen k h e = no-parts seen
parts zero (b ∷ s) seen k h e = absurd (not-suc-le-zero h)
parts (suc n) [] seen k h e = no-parts seen
parts (suc n) (b ∷ s) seen k h e = step-parts (listed n) (b ∷ s) seen k (omega arith) (λ t seen k l. parts n t seen k (omega arith)) e
