-- This model's record, written and loaded, is the same; and bytes that a load takes, written again, are the same bytes.
-- Assumes nothing.
use Prim.Native.Nat.{ℕ}
use mathlib.Core.Path.{◌≡◌, refl, sym, ap, ◌∙◌}
use mathlib.Core.Bool.{true, false}
use mathlib.Core.List.{List}
use contract.Lifetimes.{Lfts}
use denote.Triple.Clauses.{AtExit}
use borrow.Fn.Kinds.{Dens, GoodsP, ended_of, res_t}
use Rattle.std.specs.Prelude.{Ok, Err, is_ok}
use Rattle.device.specs.Record.{power_on}
use Rattle.device.specs.Words.{Worded, with_words}
use Rattle.record.specs.Bytes.{record_bytes}
use Rattle.wire.specs.Numbers.{are_bytes}
use Rattle.record.specs.Good.{good_bytes, record_taken, formed, Fits}
use Rattle.record.proofs.RoundTrip.{written-is-good, taken-of-written, written-of-taken, refused}
use Rattle.record.proofs.Formed.{good-is-formed}
use Rattle.sizes_16.specs.Sizes.{nexus_count, place_count}
use Rattle.device_16.specs.Model.{worded, record_of}
use Rattle.device_16.specs.declared.Record.{Record}
use Rattle.record_16.specs.Loading.{loaded}
use Rattle.record_16.proofs.Loading.{loaded-good, loaded-taken}
use Rattle.record_16.proofs.record_bytes.Reads as record-bytes
use Rattle.record_16.proofs.record_bytes.Kinds as kinds
use Rattle.record_16.proofs.Owned.{owned-fits}

-- the same parts make the same load
loaded-made : (bytes : List ℕ) {w : Worded} → good_bytes nexus_count place_count bytes ≡ true → record_taken nexus_count place_count bytes ≡ w → loaded bytes ≡ Ok (record_of w)
loaded-made bytes g t = rw (g, t) refl

-- A record whose numbers and arrays fit, written and loaded, is the same.
pub loaded-of-written : (r : Record) → Fits nexus_count place_count (worded r) → loaded (record_bytes (worded r)) ≡ Ok r
loaded-of-written r f = loaded-made (record_bytes (worded r)) (written-is-good nexus_count place_count (worded r) f) (taken-of-written nexus_count place_count (worded r) f)

-- So is any record that a program has: what `record_bytes` answers, a load gives back.
pub loaded-of-record : (κs : Lfts 0) (a : Dens κs kinds.ps) → GoodsP κs kinds.ps a → (r : (res_t kinds.r κs).Denot) (exit : AtExit (ended_of 0 kinds.ps kinds.r) κs) → record-bytes.Post κs a r exit
    → loaded r ≡ Ok a.0
loaded-of-record κs a g r exit p = ap loaded p ∙ loaded-of-written a.0 (owned-fits κs a g)

-- Bytes that a load takes, written again, are the same bytes.
pub written-of-loaded : (bytes : List ℕ) (r : Record) → loaded bytes ≡ Ok r → record_bytes (worded r) ≡ bytes
written-of-loaded bytes r e =
    let g : good_bytes nexus_count place_count bytes ≡ true = sym (loaded-good bytes) ∙ ap is_ok e in
    ap (λ (x : Record). record_bytes (worded x)) (loaded-taken bytes r e) ∙ written-of-taken nexus_count place_count bytes g

-- A refused load gives the record of power-on: nothing of the bytes is carried.
pub refused-load : (bytes : List ℕ) → good_bytes nexus_count place_count bytes ≡ false → loaded bytes ≡ Err (record_of (with_words (power_on nexus_count place_count)))
refused-load bytes g = rw g (ap (λ (w : Worded). Err (record_of w)) (refused nexus_count place_count bytes g))

-- A load takes bytes exactly if their length is right and each yes/no byte of each set and nexus is 0 or 1.
pub loaded-is-formed : (bytes : List ℕ) → are_bytes bytes ≡ true → is_ok (loaded bytes) ≡ formed nexus_count place_count bytes
loaded-is-formed bytes are = loaded-good bytes ∙ good-is-formed nexus_count place_count bytes are
