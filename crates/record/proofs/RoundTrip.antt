-- A record, written and read, is the same; and bytes that are taken, written again, are the same bytes.
-- Assumes nothing.
use Prim.Native.Nat.{ℕ, ◌^◌, ◌<◌}
use mathlib.Core.Path.{◌≡◌, refl, sym, ap, ◌∙◌}
use mathlib.Core.Bool.{true, false}
use mathlib.Core.List.{List, [], ◌++◌, append-nil}
use borrow.Author.Tests.{eqb-true, eq-eqb}
use lib.Dec.{eqb}
use lib.ListN.{length}
use lib.Seq.{ext_get_or}
use Rattle.arrays.specs.Arrays.{each}
use Rattle.arrays.proofs.Base.{both, and_left, and_right, if-true, if-false}
use Rattle.arrays.proofs.Laws.{each_at, each_of}
use Rattle.wire.specs.Numbers.{byte_at, wide, eight}
use Rattle.wire.proofs.Numbers.{number-four, wide-eight}
use Rattle.device.specs.Record.{power_on}
use Rattle.device.specs.Words.{Worded, with_words}
use Rattle.device.specs.declared.Set.{Set}
use Rattle.device.specs.declared.Nexus.{Nexus}
use Rattle.wire.specs.Buffers.{same_bytes}
use Rattle.wire.specs.Parts.{parts}
use Rattle.record.specs.Bytes.{set_size, nexus_size, word_size, set_bytes, nexus_bytes, record_bytes}
use Rattle.record.specs.Reading.{set_read, nexus_read, record_read}
use Rattle.record.specs.Good.{good_bytes, record_taken, SetFits, NexusFits, Fits}
use Rattle.wire.proofs.Searches.{same_self, same_true}
use Rattle.wire.proofs.Parts.{GivenBack, read-joined, each_same}
use Rattle.record.proofs.Sizes.{set-length, nexus-length, word-length, sets_part, nexuses_part, words_part, from-nexuses, from-words}
use Rattle.record.proofs.Back.{set_back, nexus-back}

-- ---- written, then read

-- each set, nexus and word that fits is given back
set_given : (x : Set) → SetFits x → GivenBack set_bytes set_read set_size x
set_given x f = (set-length x f, set_back x f)

nexus-given : (x : Nexus) → NexusFits x → GivenBack nexus_bytes nexus_read nexus_size x
nexus-given x f = (nexus-length x, nexus-back x f)

word-given : (word : ℕ) → word < 2 ^ 64 → GivenBack eight wide word_size word
word-given word f = (word-length word, wide-eight word f)

-- the same parts make the same record
record-made : {c c' : ℕ} {s s' : List Set} {n n' : List Nexus} {w w' : List ℕ} → c ≡ c' → s ≡ s' → n ≡ n' → w ≡ w'
    → ◌≡◌ {A = Worded} (record { state = record { counter = c; sets = s; nexuses = n }; words = w }) (record { state = record { counter = c'; sets = s'; nexuses = n' }; words = w' })
record-made p q r s = rw (p, q, r, s) refl

-- A record whose numbers and arrays fit, written and read, is the same.
pub read-of-written : (nexuses places : ℕ) (r : Worded) → Fits nexuses places r → record_read nexuses places (record_bytes r) ≡ r
unfolding record_bytes record_read
read-of-written nexuses places r f =
    let last = words_part r in
    let others = nexuses_part r ++ last in
    let first : parts set_read set_size places (sets_part r ++ others) ≡ r.state.sets =
    rw f.places_all at (read-joined set_bytes set_read set_size r.state.sets (each_same set_given r.state.sets f.sets_fit) others) in
    let second : parts nexus_read nexus_size nexuses others ≡ r.state.nexuses =
    rw f.nexuses_all at (read-joined nexus_bytes nexus_read nexus_size r.state.nexuses (each_same nexus-given r.state.nexuses f.nexuses_fit) last) in
    let third : parts wide word_size places last ≡ r.words =
    rw (f.words_all, append-nil last) at (read-joined eight wide word_size r.words (each_same word-given r.words f.words_fit) []) in
    record-made (number-four r.state.counter f.counter) first (ap (parts nexus_read nexus_size nexuses) (from-nexuses nexuses places r f) ∙ second) (ap (parts wide word_size places) (from-words nexuses places r f) ∙ third)

-- So its bytes are good,
pub written-is-good : (nexuses places : ℕ) (r : Worded) → Fits nexuses places r → good_bytes nexuses places (record_bytes r) ≡ true
unfolding good_bytes
written-is-good nexuses places r f = rw (read-of-written nexuses places r f) (same_self (record_bytes r))

-- and are taken as the record that they were written of.
pub taken-of-written : (nexuses places : ℕ) (r : Worded) → Fits nexuses places r → record_taken nexuses places (record_bytes r) ≡ r
unfolding record_taken
taken-of-written nexuses places r f =
    if-true (good_bytes nexuses places (record_bytes r)) (record_read nexuses places (record_bytes r)) (with_words (power_on nexuses places)) (written-is-good nexuses places r f)
    ∙ read-of-written nexuses places r f

-- ---- read, then written

module _ (nexuses places : ℕ) (bytes : List ℕ) where
  -- Good bytes, read and written, are the same bytes;
  pub written-of-read : good_bytes nexuses places bytes ≡ true → record_bytes (record_read nexuses places bytes) ≡ bytes
  unfolding good_bytes
  written-of-read g = sym (same_true bytes (record_bytes (record_read nexuses places bytes)) g)

  -- so are those of the record that is taken of them.
  pub written-of-taken : good_bytes nexuses places bytes ≡ true → record_bytes (record_taken nexuses places bytes) ≡ bytes
  unfolding record_taken
  written-of-taken g =
      ap record_bytes (if-true (good_bytes nexuses places bytes) (record_read nexuses places bytes) (with_words (power_on nexuses places)) g) ∙ written-of-read g

  -- Bytes that are not good give the record of power-on.
  pub refused : good_bytes nexuses places bytes ≡ false → record_taken nexuses places bytes ≡ with_words (power_on nexuses places)
  unfolding record_taken
  refused g = if-false (good_bytes nexuses places bytes) (record_read nexuses places bytes) (with_words (power_on nexuses places)) g
