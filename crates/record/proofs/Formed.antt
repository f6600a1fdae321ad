-- Bytes are good exactly if their length is right and each yes/no byte of each set and nexus is 0 or 1; and what they give fits.
-- Assumes nothing.
use Prim.Native.Nat.{ℕ, ◌*◌, ◌^◌, ◌<◌}
use mathlib.Core.Path.{◌≡◌, refl, sym, ap, subst, ◌∙◌}
use mathlib.Core.Bool.{Bool, true, ◌&&◌}
use mathlib.Core.List.{List, ◌++◌}
use native.Mathlib.Omega.{arith}
use borrow.Author.Tests.{eqb-true, eq-eqb}
use lib.Dec.{eqb}
use lib.ListN.{length, take, drop, length-drop}
use lib.Seq.{take_all}
use Rattle.arrays.specs.Arrays.{all}
use Rattle.arrays.proofs.Base.{both, and_left, and_right, same_truth}
use Rattle.wire.specs.Numbers.{number_at, four, wide, eight, are_bytes}
use Rattle.wire.proofs.Stores.{length-padded}
use Rattle.kad.specs.Kad.{u_most, a_most}
use Rattle.parameters.specs.Fields.{key_size, supplemental_size}
use Rattle.device.specs.Words.{Worded}
use Rattle.device.specs.declared.Set.{Set}
use Rattle.device.specs.declared.Nexus.{Nexus}
use Rattle.wire.specs.Parts.{joined, parts}
use Rattle.record.specs.Bytes.{counter_size, set_size, nexus_size, word_size, nexuses_from, words_from, record_size, set_bytes, nexus_bytes, record_bytes}
use Rattle.record.specs.Reading.{kads_read, fields_read, set_read, nexus_read, record_read}
use Rattle.record.specs.Good.{good_bytes, set_yes_or_no, nexus_yes_or_no, formed, SetFits, NexusFits, Fits}
use Rattle.wire.proofs.Bytes.{Below, below, below-drop, flag-low, four-again, take-run, number-bits, wide-bits, wide-again}
use Rattle.wire.proofs.Parts.{length-parts, each_read, each_part, each-there, parts-pass, joined-read, section-on, each_all, each_same}
use Rattle.record.proofs.Sizes.{set-length, nexus-length, sets_part, nexuses_part, words_part, from-nexuses, record-length}
use Rattle.record.proofs.Again.{set-again, nexus-again}
use Rattle.wire.proofs.Searches.{same_self}
use Rattle.record.proofs.RoundTrip.{written-of-read}

-- ---- what bytes give fits

set-fits : (part : List ℕ) → Below part → SetFits (set_read part)
unfolding set_read fields_read kads_read
set-fits part b = record {
  number = number-bits part 5 b;
  key = length-padded key_size (drop 14 part);
  keys = length-padded supplemental_size (drop 47 part);
  kads = (length-padded u_most (drop 1 (drop 175 part)), length-padded a_most (drop 34 (drop 175 part)));
}

nexus-fits : (part : List ℕ) → Below part → NexusFits (nexus_read part)
unfolding nexus_read
nexus-fits part b = record { saved = number-bits part 2 b; last_local = number-bits part 6 b }

below-fits : (nexuses places : ℕ) (bytes : List ℕ) → Below bytes → Fits nexuses places (record_read nexuses places bytes)
unfolding record_read
below-fits nexuses places bytes b = record {
  counter = number-bits bytes 0 b;
  places_all = length-parts set_read set_size places (drop counter_size bytes);
  sets_fit = each_read SetFits set_read set_size set-fits places (drop counter_size bytes) (below-drop bytes counter_size b);
  nexuses_all = length-parts nexus_read nexus_size nexuses (drop (nexuses_from places) bytes);
  nexuses_fit = each_read NexusFits nexus_read nexus_size nexus-fits nexuses (drop (nexuses_from places) bytes) (below-drop bytes (nexuses_from places) b);
  words_all = length-parts wide word_size places (drop (words_from nexuses places) bytes);
  words_fit = each_read (λ word. word < 2 ^ 64) wide word_size wide-bits places (drop (words_from nexuses places) bytes) (below-drop bytes (words_from nexuses places) b);
}

-- Whatever the bytes, the record that they give fits.
pub read_fits : (nexuses places : ℕ) (bytes : List ℕ) → are_bytes bytes ≡ true → Fits nexuses places (record_read nexuses places bytes)
read_fits nexuses places bytes b = below-fits nexuses places bytes (below bytes b)

-- ---- what is written is formed

four-true : {a b c d : Bool} → a ≡ true → b ≡ true → c ≡ true → d ≡ true → (a && b && c && d) ≡ true
four-true p q r s = rw (p, q, r, s) refl

set-passes : (s : Set) → SetFits s → (length (set_bytes s) ≡ set_size) × ((rest : List ℕ) → set_yes_or_no (set_bytes s ++ rest) ≡ true)
unfolding set_bytes set_yes_or_no
set-passes s f =
    (set-length s f, λ rest. four-true (flag-low s.fields.rdmd) (flag-low s.fields.ckod) (flag-low s.fields.ckorp) (flag-low s.fields.ckorl))

nexus-passes : (x : Nexus) → (length (nexus_bytes x) ≡ nexus_size) × ((rest : List ℕ) → nexus_yes_or_no (nexus_bytes x ++ rest) ≡ true)
unfolding nexus_bytes nexus_yes_or_no
nexus-passes x =
    (nexus-length x, λ rest. four-true (flag-low x.lock) (flag-low x.marks.registered) (flag-low x.marks.another) (flag-low x.marks.vendor))

-- The bytes of a record that fits have the right length, and each yes or no is 0 or 1.
pub written-is-formed : (nexuses places : ℕ) (r : Worded) → Fits nexuses places r → formed nexuses places (record_bytes r) ≡ true
unfolding formed record_bytes
written-is-formed nexuses places r f =
    let last = words_part r in
    let others = nexuses_part r ++ last in
    let long : eqb (length (record_bytes r)) (record_size nexuses places) ≡ true = eq-eqb (length (record_bytes r)) (record_size nexuses places) (record-length nexuses places r f) in
    let first : all (λ ok. ok) (parts set_yes_or_no set_size places (sets_part r ++ others)) ≡ true =
    rw f.places_all at (parts-pass set_bytes set_size set_yes_or_no r.state.sets (each_same set-passes r.state.sets f.sets_fit) others) in
    let second : all (λ ok. ok) (parts nexus_yes_or_no nexus_size nexuses others) ≡ true =
    rw f.nexuses_all at (parts-pass nexus_bytes nexus_size nexus_yes_or_no r.state.nexuses (each_all nexus-passes r.state.nexuses) last) in
    let third : all (λ ok. ok) (parts nexus_yes_or_no nexus_size nexuses (drop (nexuses_from places) (record_bytes r))) ≡ true =
    ap (λ (l : List ℕ). all (λ ok. ok) (parts nexus_yes_or_no nexus_size nexuses l)) (from-nexuses nexuses places r f) ∙ second in
    both _ _ (both _ _ long first) third

-- ---- what is formed is written again

-- Bytes of the right length whose yes/no bytes are 0 or 1, read and written, are the same bytes.
pub written-of-formed : (nexuses places : ℕ) (bytes : List ℕ) → are_bytes bytes ≡ true → formed nexuses places bytes ≡ true → record_bytes (record_read nexuses places bytes) ≡ bytes
unfolding formed record_bytes record_read
written-of-formed nexuses places bytes are f =
    let b = below bytes are in
    let from = nexuses_from places in
    let end = words_from nexuses places in
    let long = eqb (length bytes) (record_size nexuses places) in
    let sets = all (λ ok. ok) (parts set_yes_or_no set_size places (drop counter_size bytes)) in
    let last = all (λ ok. ok) (parts nexus_yes_or_no nexus_size nexuses (drop from bytes)) in
    let two = and_left (long && sets) last f in
    let size : length bytes ≡ record_size nexuses places = eqb-true (length bytes) (record_size nexuses places) (and_left long sets two) in
    let counter : four (number_at bytes 0) ≡ take 4 bytes = four-again bytes 0 1 2 3 b ∙ sym (take-run 4 0 bytes (omega arith)) in
    let first : joined set_bytes (parts set_read set_size places (drop counter_size bytes)) ≡ take (places * set_size) (drop counter_size bytes) =
    joined-read set_bytes set_read set_size places (drop counter_size bytes) (each_part set_size set_yes_or_no set-again places (drop counter_size bytes) (below-drop bytes counter_size b) (omega (arith, length-drop counter_size bytes)) (and_right long sets two)) in
    let second : joined nexus_bytes (parts nexus_read nexus_size nexuses (drop from bytes)) ≡ take (nexuses * nexus_size) (drop from bytes) =
    joined-read nexus_bytes nexus_read nexus_size nexuses (drop from bytes) (each_part nexus_size nexus_yes_or_no nexus-again nexuses (drop from bytes) (below-drop bytes from b) (omega (arith, length-drop from bytes)) (and_right (long && sets) last f)) in
    let third : joined eight (parts wide word_size places (drop end bytes)) ≡ take (places * word_size) (drop end bytes) =
    joined-read eight wide word_size places (drop end bytes) (each-there word_size wide-again places (drop end bytes) (below-drop bytes end b) (omega (arith, length-drop end bytes))) in
    let whole : take (places * word_size) (drop end bytes) ≡ drop end bytes = take_all (places * word_size) (drop end bytes) (omega (arith, length-drop end bytes)) in
    section-on 0 counter_size bytes counter (section-on counter_size (places * set_size) bytes first (section-on from (nexuses * nexus_size) bytes second (third ∙ whole)))

-- Bytes are good exactly if the length is right and each yes/no byte of each set and nexus is 0 or 1.
pub good-is-formed : (nexuses places : ℕ) (bytes : List ℕ) → are_bytes bytes ≡ true → good_bytes nexuses places bytes ≡ formed nexuses places bytes
unfolding good_bytes
good-is-formed nexuses places bytes are =
    same_truth (good_bytes nexuses places bytes) (formed nexuses places bytes)
    (λ g. subst (λ (l : List ℕ). formed nexuses places l ≡ true) (written-of-read nexuses places bytes g) (written-is-formed nexuses places (record_read nexuses places bytes) (read_fits nexuses places bytes are)))
    (λ f. rw (written-of-formed nexuses places bytes are f) (same_self bytes))
