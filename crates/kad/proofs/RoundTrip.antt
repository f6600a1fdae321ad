-- Key-associated data: written and read they are the same, and a list of descriptors, read and written, has the same bytes.
-- Assumes nothing.
use Rattle.std.specs.Prelude.{ℕ, Option, Some, None}
use mathlib.Core.Path.{◌≡◌, refl, sym, ap, ◌∙◌}
use mathlib.Core.Bool.{true}
use mathlib.Core.List.{List, [], ◌∷◌, ◌++◌, append-nil}
use Prim.Native.Nat.{ℕ, ◌+◌, ◌≤◌}
use native.Mathlib.Nat.{le_refl}
use native.Mathlib.Omega.{arith}
use borrow.Author.Tests.{leb-true, le-ltb}
use lib.Dec.{leb}
use lib.ListN.{length, take, drop, length-append, length-take}
use lib.Seq.{take_at, drop_at, drop-drop, length-take-le}
use Rattle.arrays.proofs.Base.{and_left, and_right}
use Rattle.wire.specs.Buffers.{padded}
use Rattle.wire.specs.Rules.{breach}
use Rattle.wire.proofs.Stores.{take-padded, padded-back}
use Rattle.kad.specs.Kad.{u_most, a_most, no_kads, kads_of, with_data, lengths_good, tails_good, Sized}
use Rattle.kad.specs.Reading.{descriptor_head, length_of, data_of, next_of, most, rising, descriptor_rules, read_kads}
use Rattle.kad.specs.Writing.{descriptor, u_data, a_data, descriptors, list_most}
use Rattle.kad.specs.declared.Kads.{Kads}
use Rattle.kad.specs.declared.Listed.{Listed}
use Rattle.kad.proofs.Reading.{most-le, reading, reading-nil, reading-cons}
use Rattle.kad.proofs.Writing.{some, size}
use Rattle.kad.proofs.Good.{Filled, Good, good_of, good_none, good-listed, good-lengths, good-tails, good-sized}
use Rattle.kad.proofs.Accepted.{Formed, passes, parts}

-- ---- written, then read

-- no fault in the list, and the data in it
abbrev pub whole : List ℕ → Kads → Listed
whole l k = record { good = length l; kads = k }

-- a descriptor before a list without a fault
read_first : (seen : Option ℕ) (kind : ℕ) (d rest : List ℕ) (k k' : Kads) → kind ≤ 1 → rising seen kind ≡ true → (length d ≡ 0 → ⊥) → length d ≤ most kind
    → reading rest (Some kind) (with_data k kind d) ≡ whole rest k' → reading (descriptor kind d ++ rest) seen k ≡ whole (descriptor kind d ++ rest) k'
read_first seen kind d rest k k' l r z m e =
    let s : List ℕ = kind ∷ 0 ∷ 0 ∷ length d ∷ (d ++ rest) in
    let is : descriptor kind d ++ rest ≡ s = ap (λ (t : List ℕ). t ++ rest) (some kind d z (omega (arith, most-le kind))) in
    let count : length s ≡ descriptor_head + length d + length rest = omega (arith, length-append d rest) in
    let stated : length_of s ≡ length d = omega arith in
    let content : data_of s ≡ d = rw stated (take_at d rest (length d) refl) in
    let after : drop (next_of s) s ≡ rest = rw (stated, ← drop-drop (length d) descriptor_head s) (drop_at d rest (length d) refl) in
    let formed : Formed s seen = record { low = l; rises = r; fits = omega arith; blank = refl; some = λ y. z (sym stated ∙ y); few = omega arith } in
    let sum : next_of s + length rest ≡ length s = omega arith in
    rw is (reading-cons s seen k (omega arith) ∙ rw (le-ltb (breach (descriptor_rules s seen) descriptor_head) descriptor_head (omega (arith, passes s seen formed)), after, content, e, sum) refl)

-- A-KAD alone, or nothing, after U-KAD
read-second : (seen : Option ℕ) (u a : List ℕ) → rising seen 1 ≡ true → length a ≤ a_most → reading (descriptor 1 a) seen (kads_of u []) ≡ whole (descriptor 1 a) (kads_of u a)
read-second seen u [] r h = reading-nil [] seen (kads_of u []) refl
read-second seen u (x ∷ a) r h =
    rw (append-nil a) at (read_first seen 1 (x ∷ a) [] (kads_of u []) (kads_of u (x ∷ a)) (omega arith) r (λ e. omega arith) h (reading-nil [] (Some 1) (kads_of u (x ∷ a)) refl))

-- Data that fit, written as descriptors, are read back, and the reader finds no fault.
pub read-of-data : (u a : List ℕ) → length u ≤ u_most → length a ≤ a_most
    → read_kads (descriptor 0 u ++ descriptor 1 a) ≡ record { good = length (descriptor 0 u ++ descriptor 1 a); kads = kads_of u a }
read-of-data [] a h l = read-second None [] a refl l
read-of-data (x ∷ u) a h l =
    read_first None 0 (x ∷ u) (descriptor 1 a) no_kads (kads_of (x ∷ u) a) (omega arith) refl (λ e. omega arith) h (read-second (Some 0) (x ∷ u) a refl l)

-- the first m bytes are no more than m
taken : (n m : ℕ) (b : List ℕ) → leb m n ≡ true → length (take m b) ≤ n
taken n m b h = omega (arith, length-take m b, leb-true m n h)

module _ (k : Kads) (g : lengths_good k ≡ true) where
  -- with lengths in range, U-KAD fits
  u-fits : length (u_data k) ≤ u_most
  u-fits = taken u_most k.ukad.length k.ukad.bytes (and_left (leb k.ukad.length u_most) (leb k.akad.length a_most) g)

  -- and A-KAD
  a-fits : length (a_data k) ≤ a_most
  a-fits = taken a_most k.akad.length k.akad.bytes (and_right (leb k.ukad.length u_most) (leb k.akad.length a_most) g)

  -- With lengths in range the descriptors have at most 52 bytes,
  pub descriptors-le : length (descriptors k) ≤ list_most
  unfolding descriptors
  descriptors-le =
      omega (arith, length-append (descriptor 0 (u_data k)) (descriptor 1 (a_data k)), size 0 (u_data k), size 1 (a_data k), u-fits, a-fits)

  -- and the reader finds no fault in them.
  pub written-is-good : (read_kads (descriptors k)).good ≡ length (descriptors k)
  unfolding descriptors
  written-is-good = ap (λ (r : Listed). r.good) (read-of-data (u_data k) (a_data k) u-fits a-fits)

-- an array with zeros past its data is the data, padded
again : (n m : ℕ) (b : List ℕ) → Filled n m b → (length (take m b) ≡ m) × (padded n (take m b) ≡ b)
again n m b f = (length-take-le m b (omega arith), padded-back n m b f.sized f.few f.zeros)

-- Key-associated data with lengths in range and zeros past them, written as descriptors and read, are the same.
pub read-of-written : (k : Kads) → lengths_good k ≡ true → tails_good k ≡ true → Sized k → read_kads (descriptors k) ≡ record { good = length (descriptors k); kads = k }
unfolding descriptors
read-of-written k l t s =
    let g = good_of k l t s in
    let u = again u_most k.ukad.length k.ukad.bytes g.u in
    let a = again a_most k.akad.length k.akad.bytes g.a in
    let same : kads_of (u_data k) (a_data k) ≡ k = rw (u.1, u.0, a.1, a.0) refl in
    read-of-data (u_data k) (a_data k) (u-fits k l) (a-fits k l) ∙ ap (λ (x : Kads). whole (descriptors k) x) same

-- ---- read, then written

-- the descriptors of data that fit
pub descriptors-of : (u a : List ℕ) → length u ≤ u_most → length a ≤ a_most → descriptors (kads_of u a) ≡ descriptor 0 u ++ descriptor 1 a
unfolding descriptors
descriptors-of u a h l = rw (take-padded u_most u h, take-padded a_most a l) refl

-- A list in which the reader finds no fault, read and written again, has the same bytes.
pub written-of-read : (l : List ℕ) → (read_kads l).good ≡ length l → descriptors (read_kads l).kads ≡ l
written-of-read l e =
    let p = parts (length l) l None no_kads (le_refl (length l)) e in
    let d = descriptor 0 p.u ++ descriptor 1 p.a in
    let back : descriptors (read_kads d).kads ≡ d =
    ap (λ (r : Listed). descriptors r.kads) (read-of-data p.u p.a p.ushort p.ashort) ∙ descriptors-of p.u p.a p.ushort p.ashort in
    rw p.is back

-- ---- what is read

module _ (l : List ℕ) where
  -- whatever the list, without a fault or not
  good : Good (read_kads l).kads
  good = good-listed (length l) l None no_kads good_none

  -- What is read of any list has lengths in range,
  pub read-lengths-good : lengths_good (read_kads l).kads ≡ true
  read-lengths-good = good-lengths good

  -- zeros past them,
  pub read-tails-good : tails_good (read_kads l).kads ≡ true
  read-tails-good = good-tails good

  -- and arrays of their sizes.
  pub read-sized : Sized (read_kads l).kads
  read-sized = good-sized good
