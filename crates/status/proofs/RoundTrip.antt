-- The status page, written and read, read and written; and that of a well-formed record.
-- Assumes nothing.
use mathlib.Core.Path.{◌≡◌, refl, sym, ap, subst, ◌∙◌}
use mathlib.Core.Bool.{true, false}
use mathlib.Core.List.{List, ◌∷◌, ◌++◌}
use Prim.Native.Nat.{ℕ, ◌+◌, ◌^◌, ◌<◌, ◌≤◌}
use native.Mathlib.Nat.{le_refl}
use native.Mathlib.Omega.{arith}
use borrow.Author.Tests.{ltb-true, ltb-false, le-ltb, eq-eqb}
use lib.Dec.{lit≤, ltb}
use lib.ListN.{length, drop, replicate, length-drop, take-append-drop, get_or-eq_default}
use lib.Seq.{drop-drop, length-take-le}
use Rattle.arrays.proofs.Base.{cases}
use Rattle.wire.specs.Numbers.{byte_at, word_at, two}
use Rattle.wire.specs.Bits.{bits, bit_at}
use Rattle.wire.specs.Rules.{length_wrong}
use Rattle.wire.proofs.Numbers.{word_two, two-word, number-below, number-four, four-number}
use Rattle.wire.proofs.Rules.{none}
use Rattle.wire.proofs.Zeros.{zeros-are}
use Rattle.answer.specs.declared.Answer.TheVariants.{Done}
use Rattle.kad.specs.Kad.{tails_good, Sized}
use Rattle.kad.specs.Reading.{read_kads}
use Rattle.kad.specs.Writing.{descriptors}
use Rattle.kad.specs.declared.Kads.{Kads}
use Rattle.kad.specs.declared.Listed.{Listed}
use Rattle.kad.proofs.Accepted.{elements-eq}
use Rattle.kad.proofs.RoundTrip as kad
use Rattle.device.specs.Record.{State, nexus_at, no_set}
use Rattle.device.specs.Selecting.{selected, selected_set}
use Rattle.device.specs.WellFormed.{well_formed}
use Rattle.device.proofs.WellFormed.{set-at, nexus-at}
use Rattle.status.specs.Pages.{status_code, page_of}
use Rattle.status.specs.Bytes.{status_byte4, joined4, status_byte12, joined12}
use Rattle.status.specs.Status.{status_fields, status_bytes, status_with, status_of, CodesInRange, InRange}
use Rattle.status.specs.Rules.{descriptors_from, zero_bytes, head_rules}
use Rattle.status.specs.Reading.{StatusRead, read_of, values_with, values, read_status}
use Rattle.status.specs.declared.StatusByte4.{StatusByte4}
use Rattle.status.specs.declared.StatusByte12.{StatusByte12}
use Rattle.status.specs.declared.Status.{Status}
use Rattle.status.proofs.Bytes.{split-joined-4, joined-split-4, split-joined-12, joined-split-12}
use Rattle.status.proofs.Reading.{all-good, Accepted, known, Head, head-is, head-holds}

-- ---- written, then read

-- a page has as many bytes as it says
page-length : (code : ℕ) (body : List ℕ) → 20 ≤ length body → length body < 65536 → length_wrong descriptors_from (page_of code body) ≡ false
page-length code body l h =
    let p = page_of code body in
    rw (le-ltb (length p) descriptors_from (omega arith), eq-eqb (word_at p 2 + 4) (length p) (omega (arith, word_two (length body) h))) refl

module _ (s : Status) (c : CodesInRange s) where
  -- bytes 4 and 12 of what is written, taken apart
  scopes : status_byte4 (joined4 s.nexus_scope s.set_scope) ≡ record { nexus_scope = s.nexus_scope; zeros = 0; set_scope = s.set_scope }
  scopes = split-joined-4 s.nexus_scope s.set_scope (omega (arith, c.nexus_scope)) (omega (arith, c.set_scope))

  marks : status_byte12 (joined12 s.ceems s.rdmd) ≡ record { zeros = 0; ceems = s.ceems; rdmd = s.rdmd }
  marks = split-joined-12 s.ceems s.rdmd c.ceems

  -- the first 24 bytes of what is written
  written-head : Head (status_bytes s)
  unfolding status_bytes
  written-head =
      let nexus_scope : bits 7 5 (joined4 s.nexus_scope s.set_scope) ≡ s.nexus_scope = ap (λ (x : StatusByte4). x.nexus_scope) scopes in
      let set_scope : bits 2 0 (joined4 s.nexus_scope s.set_scope) ≡ s.set_scope = ap (λ (x : StatusByte4). x.set_scope) scopes in
      record {
        code = refl;
        nexus_scope = rw nexus_scope c.nexus_scope;
        between = ap (λ (x : StatusByte4). x.zeros) scopes;
        set_scope = rw set_scope c.set_scope;
        encryption = c.encryption;
        decryption = c.decryption;
        index = c.index;
        control = ap (λ (x : StatusByte12). x.zeros) marks;
        zeros = refl;
      }

  -- Values whose codes are in range, written as a page, are accepted by the reader.
  pub written-accepted : read_status (status_bytes s) ≡ read_of (values (status_bytes s))
  unfolding status_bytes
  written-accepted =
      let list = kad.written-is-good s.kads c.lengths in
      let few = kad.descriptors-le s.kads c.lengths in
      let p = status_bytes s in
      all-good p (page-length status_code (status_fields s ++ descriptors s.kads) (omega arith) (omega arith)) descriptors_from _
      (sym (none (head_rules p) descriptors_from (head-holds p written-head))) (le_refl descriptors_from) refl (omega (arith, list))

  -- and what it reads is these, where the number has 32 bits
  written-values : s.number < 2 ^ 32 → values_with (status_bytes s) s.kads ≡ s
  unfolding status_bytes
  written-values n =
      let nexus_scope : bits 7 5 (joined4 s.nexus_scope s.set_scope) ≡ s.nexus_scope = ap (λ (x : StatusByte4). x.nexus_scope) scopes in
      let set_scope : bits 2 0 (joined4 s.nexus_scope s.set_scope) ≡ s.set_scope = ap (λ (x : StatusByte4). x.set_scope) scopes in
      let ceems : bits 2 1 (joined12 s.ceems s.rdmd) ≡ s.ceems = ap (λ (x : StatusByte12). x.ceems) marks in
      let rdmd : bit_at 0 (joined12 s.ceems s.rdmd) ≡ s.rdmd = ap (λ (x : StatusByte12). x.rdmd) marks in
      rw (nexus_scope, set_scope, number-four s.number n, ceems, rdmd) refl

-- Values in range, written as a page, are read back the same.
pub read-of-written : (s : Status) → InRange s → read_status (status_bytes s) ≡ read_of s
unfolding status_bytes
read-of-written s r =
    let c = r.codes in
    let list = kad.read-of-written s.kads c.lengths r.tails r.sized in
    written-accepted s c ∙ ap read_of (ap (λ (x : Listed). values_with (status_bytes s) x.kads) list ∙ written-values s c r.number)

-- ---- read, then written

-- bytes 13 to 23 of a page are zeros
middle : (p : List ℕ) → descriptors_from ≤ length p → Head p → drop 13 p ≡ replicate 11 0 ++ drop descriptors_from p
middle p l h =
    let zeros = zero_bytes p in
    let count : length zeros ≡ 11 = length-take-le 11 (drop 13 p) (omega (arith, length-drop 13 p)) in
    let blank : zeros ≡ replicate 11 0 = zeros-are zeros h.zeros ∙ ap (λ (n : ℕ). replicate n 0) count in
    sym (take-append-drop 11 (drop 13 p)) ∙ rw (blank, drop-drop 11 13 p) refl

-- its first 24 bytes, written out
spread : (p : List ℕ) → descriptors_from ≤ length p → Head p
    → p ≡ 0x00 ∷ 0x20 ∷ byte_at p 2 ∷ byte_at p 3 ∷ byte_at p 4 ∷ byte_at p 5 ∷ byte_at p 6 ∷ byte_at p 7 ∷ byte_at p 8 ∷ byte_at p 9 ∷ byte_at p 10 ∷ byte_at p 11 ∷ byte_at p 12 ∷ (replicate 11 0 ++ drop descriptors_from p)
spread p l h =
    let code = h.code in
    let high : byte_at p 0 ≡ 0 = omega arith in
    let low : byte_at p 1 ≡ 0x20 = omega arith in
    elements-eq 13 0 p (omega arith) ∙ rw (high, low, middle p l h) refl

-- equal lists have equal bytes
at : (i : ℕ) {a b : List ℕ} → a ≡ b → byte_at a i ≡ byte_at b i
at i e = ap (λ (l : List ℕ). byte_at l i) e

module _ (p : List ℕ) (bytes : (i : ℕ) → byte_at p i < 256) where
  -- a page that the reader accepts is written again, where the descriptors are
  again : Accepted p → (k : Kads) → descriptors k ≡ drop descriptors_from p → status_bytes (values_with p k) ≡ p
  unfolding status_bytes
  again a k d =
      let h = head-is p a.head in
      let count : ℕ = length (status_fields (values_with p k) ++ descriptors k) in
      let says : count ≡ word_at p 2 = omega (arith, ap length d, length-drop descriptors_from p, a.long, a.exact) in
      let size = ap two says ∙ two-word (byte_at p 2) (byte_at p 3) (bytes 2) (bytes 3) in
      let instance = four-number (byte_at p 8) (byte_at p 9) (byte_at p 10) (byte_at p 11) (bytes 8) (bytes 9) (bytes 10) (bytes 11) in
      let scopes = joined-split-4 (byte_at p 4) (bytes 4) h.between in
      let marks = joined-split-12 (byte_at p 12) (bytes 12) h.control in
      rw (at 0 size, at 1 size, at 0 instance, at 1 instance, at 2 instance, at 3 instance, scopes, marks, d) (sym (spread p a.long h))

  -- A page that the reader accepts is written again with the same bytes.
  pub written-of-read : (read_status p).answer ≡ Done → status_bytes (read_status p).status ≡ p
  written-of-read e =
      let a = known p e in
      ap (λ (r : StatusRead). status_bytes r.status) a.is ∙ again a (read_kads (drop descriptors_from p)).kads (kad.written-of-read (drop descriptors_from p) a.list)

  -- What is read of it is in range.
  pub read-in-range : (read_status p).answer ≡ Done → InRange (read_status p).status
  read-in-range e =
      let a = known p e in
      let h = head-is p a.head in
      let rest = drop descriptors_from p in
      subst (λ (r : StatusRead). InRange r.status) (sym a.is)
      (record {
        codes = record {
          nexus_scope = h.nexus_scope;
          set_scope = h.set_scope;
          encryption = h.encryption;
          decryption = h.decryption;
          index = h.index;
          ceems = omega arith;
          lengths = kad.read-lengths-good rest;
        };
        number = number-below (byte_at p 8) (byte_at p 9) (byte_at p 10) (byte_at p 11) (bytes 8) (bytes 9) (bytes 10) (bytes 11);
        tails = kad.read-tails-good rest;
        sized = kad.read-sized rest;
      })

-- ---- of a well-formed record

-- no set, as past the last place, has its codes in range
none-in-range : (scope : ℕ) → scope ≤ 2 → CodesInRange (status_with scope no_set)
none-in-range scope h = record {
  nexus_scope = h;
  set_scope = lit≤ tt;
  encryption = lit≤ tt;
  decryption = lit≤ tt;
  index = lit≤ tt;
  ceems = lit≤ tt;
  lengths = refl;
}

module _ (s : State) (w : well_formed s ≡ true) (n : ℕ) where
  -- the set that a nexus uses is good, or there is no place
  codes : CodesInRange (status_of s n) × (tails_good (status_of s n).kads ≡ true)
  codes =
      let place = selected s n in
      let scope = (nexus-at s w n).scope in
      cases (ltb place (length s.sets))
      (λ t.
      let g = set-at s w place (ltb-true _ _ t) in (
        record {
          nexus_scope = scope;
          set_scope = g.scope;
          encryption = g.fields.encryption;
          decryption = g.fields.decryption;
          index = g.fields.index;
          ceems = g.fields.ceem;
          lengths = g.fields.lengths;
        },
        g.tails,
      ))
      (λ f. rw (get_or-eq_default s.sets no_set (ltb-false place (length s.sets) f)) (none-in-range (nexus_at s n).scope scope, refl))

  -- The reader accepts the status page of any nexus.
  pub well-formed-accepted : (read_status (status_bytes (status_of s n))).answer ≡ Done
  well-formed-accepted = ap (λ (r : StatusRead). r.answer) (written-accepted (status_of s n) codes.0)

  -- It reads the values of that nexus, where the number of the set that the nexus uses has 32 bits, and its arrays have their sizes.
  pub well-formed-read : (selected_set s n).number < 2 ^ 32 → Sized (selected_set s n).fields.kads
      → read_status (status_bytes (status_of s n)) ≡ read_of (status_of s n)
  well-formed-read h z = read-of-written (status_of s n) (record { codes = codes.0; number = h; tails = codes.1; sized = z })
