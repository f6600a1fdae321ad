-- The two ways that a load ends.
-- Assumes nothing.
use Prim.Native.Nat.{ℕ}
use mathlib.Core.Path.{◌≡◌, refl, sym, ap, ◌∙◌}
use mathlib.Core.Bool.{Bool, true, false}
use mathlib.Core.List.{List}
use Rattle.std.specs.Prelude.{Result, Ok, Err, is_ok}
use Rattle.arrays.proofs.Base.{cases, if-true, if-false}
use Rattle.device.specs.Record.{power_on}
use Rattle.device.specs.Words.{with_words}
use Rattle.record.specs.Bytes.{record_bytes}
use Rattle.record.specs.Reading.{record_read}
use Rattle.wire.specs.Buffers.{same_bytes}
use Rattle.record.specs.Good.{good_bytes, record_taken}
use Rattle.record.proofs.RoundTrip.{refused}
use Rattle.sizes_16.specs.Sizes.{nexus_count, place_count}
use Rattle.device_16.specs.Model.{worded, record_of}
use Rattle.device_16.specs.declared.Record.{Record}
use Rattle.record_16.specs.Loading.{loaded}

module _ (bytes : List ℕ) {again : List ℕ} {read : Record} {ok : Bool} (made : read ≡ record_of (record_read nexus_count place_count bytes)) (written : again ≡ record_bytes (worded read)) (compared : ok ≡ same_bytes bytes again) where
  -- what the comparison tells
  told : ok ≡ good_bytes nexus_count place_count bytes
  unfolding good_bytes
  told = compared ∙ ap (same_bytes bytes) (written ∙ ap (λ (r : Record). record_bytes (worded r)) made)

  pub load-takes : ok ≡ true → Ok read ≡ loaded bytes
  unfolding record_taken
  load-takes t = let g : good_bytes nexus_count place_count bytes ≡ true = sym told ∙ t in rw (g, made) refl

  pub load-refuses : ok ≡ false → {new : Record} → new ≡ record_of (with_words (power_on nexus_count place_count)) → Err new ≡ loaded bytes
  load-refuses f e = let g : good_bytes nexus_count place_count bytes ≡ false = sym told ∙ f in rw (g, e, refused nexus_count place_count bytes g) refl

-- bytes are taken exactly where they are good
pub loaded-good : (bytes : List ℕ) → is_ok (loaded bytes) ≡ good_bytes nexus_count place_count bytes
loaded-good bytes = cases (good_bytes nexus_count place_count bytes) (λ t. simp t) (λ f. simp f)

-- the record of a result, taken or not
abbrev record_in : Result Record Record → Record
record_in (Ok r) = r
record_in (Err r) = r

-- and what is given is the record that they give
loaded-in : (bytes : List ℕ) → record_in (loaded bytes) ≡ record_of (record_taken nexus_count place_count bytes)
loaded-in bytes = cases (good_bytes nexus_count place_count bytes) (λ t. ap record_in (if-true _ _ _ t)) (λ f. ap record_in (if-false _ _ _ f))

pub loaded-taken : (bytes : List ℕ) (r : Record) → loaded bytes ≡ Ok r → r ≡ record_of (record_taken nexus_count place_count bytes)
loaded-taken bytes r e = sym (ap record_in e) ∙ loaded-in bytes
