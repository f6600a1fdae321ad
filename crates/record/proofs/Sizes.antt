-- How many bytes there are, and where the parts of a record start.
-- Assumes nothing.
use Prim.Native.Nat.{ℕ, ◌*◌}
use mathlib.Core.Path.{◌≡◌, refl, sym, ap, ◌∙◌}
use mathlib.Core.List.{List, ◌∷◌, ◌++◌}
use native.Mathlib.Omega.{arith}
use lib.ListN.{length, drop, length-append}
use lib.Seq.{drop-drop}
use Rattle.wire.specs.Numbers.{eight}
use Rattle.kad.specs.Kad.{Sized}
use Rattle.kad.specs.declared.Kads.{Kads}
use Rattle.device.specs.Words.{Worded}
use Rattle.device.specs.declared.Set.{Set}
use Rattle.device.specs.declared.Nexus.{Nexus}
use Rattle.wire.specs.Parts.{joined, Each}
use Rattle.record.specs.Bytes.{counter_size, kads_size, set_size, nexus_size, word_size, nexuses_from, words_from, record_size, kads_bytes, set_bytes, nexus_bytes, record_bytes}
use Rattle.record.specs.Good.{SetFits, Fits}
use Rattle.wire.proofs.Parts.{section-length, section-past, each_same, each_all}

pub kads-length : (k : Kads) → Sized k → length (kads_bytes k) ≡ kads_size
unfolding kads_bytes
kads-length k s = omega (arith, length-append k.ukad.bytes (k.akad.length ∷ k.akad.bytes), s.0, s.1)

pub set-length : (s : Set) → SetFits s → length (set_bytes s) ≡ set_size
unfolding set_bytes
set-length s f =
    let last = kads_bytes s.fields.kads in
    let keys = s.supplemental.keys ++ last in
    omega (arith, length-append s.fields.key (s.supplemental.count ∷ keys), length-append s.supplemental.keys last, kads-length s.fields.kads f.kads, f.key, f.keys)

pub nexus-length : (x : Nexus) → length (nexus_bytes x) ≡ nexus_size
unfolding nexus_bytes
nexus-length x = refl

pub word-length : (word : ℕ) → length (eight word) ≡ word_size
word-length word = refl

-- a record's sets, nexuses and words, as bytes
abbrev pub sets_part : Worded → List ℕ
sets_part r = joined set_bytes r.state.sets

abbrev pub nexuses_part : Worded → List ℕ
nexuses_part r = joined nexus_bytes r.state.nexuses

abbrev pub words_part : Worded → List ℕ
words_part r = joined eight r.words

-- of one that fits, where they start, and how many bytes there are
module _ (nexuses places : ℕ) (r : Worded) (f : Fits nexuses places r) where
  sets-sized : Each (λ x. length (set_bytes x) ≡ set_size) r.state.sets
  sets-sized = each_same set-length r.state.sets f.sets_fit

  nexuses-sized : Each (λ x. length (nexus_bytes x) ≡ nexus_size) r.state.nexuses
  nexuses-sized = each_all nexus-length r.state.nexuses

  words-sized : Each (λ x. length (eight x) ≡ word_size) r.words
  words-sized = each_all word-length r.words

  pub from-nexuses : drop (nexuses_from places) (record_bytes r) ≡ nexuses_part r ++ words_part r
  unfolding record_bytes
  from-nexuses =
      sym (drop-drop (places * set_size) counter_size (record_bytes r)) ∙ section-past set_bytes set_size places r.state.sets f.places_all sets-sized (nexuses_part r ++ words_part r)

  pub from-words : drop (words_from nexuses places) (record_bytes r) ≡ words_part r
  from-words =
      sym (drop-drop (nexuses * nexus_size) (nexuses_from places) (record_bytes r)) ∙ ap (drop (nexuses * nexus_size)) from-nexuses
      ∙ section-past nexus_bytes nexus_size nexuses r.state.nexuses f.nexuses_all nexuses-sized (words_part r)

  pub record-length : length (record_bytes r) ≡ record_size nexuses places
  unfolding record_bytes
  record-length =
      omega (arith, length-append (sets_part r) (nexuses_part r ++ words_part r), length-append (nexuses_part r) (words_part r), section-length set_bytes set_size places r.state.sets f.places_all sets-sized, section-length nexus_bytes nexus_size nexuses r.state.nexuses f.nexuses_all nexuses-sized, section-length eight word_size places r.words f.words_all words-sized)
