-- What the code makes of a file, by whether it can be salvaged.
-- Assumes nothing.
use Prim.Native.Nat.{ℕ, ◌+◌, ◌*◌, ◌-◌, ◌/◌, ◌≤◌, ◌<◌}
use mathlib.Core.Path.{◌≡◌, refl, sym, ap, ap₂, ◌∙◌}
use mathlib.Core.Bool.{true, false}
use mathlib.Core.List.{List, ◌++◌}
use native.Mathlib.Omega.{arith}
use lib.ListN.{length, take, drop}
use lib.Seq.{length-take-le, take_all, take_at}
use Rattle.arrays.proofs.Base.{if-false}
use Rattle.wire.specs.Buffers.{shown}
use Rattle.recording.specs.declared.Header.{Header}
use Rattle.recording.specs.declared.Verdict.TheVariants.{Done, NotSalvageable}
use Rattle.recording.specs.Files.{header, right_header, event_bytes, page_bytes, header_bytes}
use Rattle.salvage.specs.declared.Salvaged.{Salvaged}
use Rattle.salvage.specs.Salvage.{kept_count, kept_events, salvaged, is_salvageable, no_header, Saves}
use Rattle.salvage.specs.Saved.{Salvageable}
use Rattle.salvage.proofs.Due.{salvageable-told}
use Rattle.salvage.proofs.Saved.{first-within, first_small, kept-few, new-header, saved}

-- 21 is reported, and nothing is written
pub saves-nothing : (file buffer : List ℕ) → is_salvageable file ≡ false → Saves file buffer (record { verdict = NotSalvageable; old = no_header; new = no_header; dropped = 0 }) buffer
saves-nothing file buffer f = record { reports = sym (if-false (is_salvageable file) _ _ f); writes = sym (if-false (is_salvageable file) _ _ f) }

module _ (file : List ℕ) (good : is_salvageable file ≡ true) where
  abbrev kept : ℕ
  kept = kept_count file

  abbrev right : Header
  right = right_header kept (length (page_bytes file))

  w : Salvageable file
  w = salvageable-told file good

  pub kept-within : 8 * kept ≤ length (event_bytes file)
  kept-within = first-within file w kept (kept-few file w)

  pub kept_small : 8 + 8 * kept + length (page_bytes file) < 65536
  kept_small = first_small file w kept (kept-few file w)

  -- the parts that are written are the new file
  parts-written : header_bytes right ++ (kept_events file ++ page_bytes file) ≡ salvaged file
  parts-written =
      let count : kept ≡ length (kept_events file) / 8 = omega (arith, length-take-le (8 * kept) (event_bytes file) kept-within) in
      ap (λ (n : ℕ). header_bytes (right_header n (length (page_bytes file))) ++ (kept_events file ++ page_bytes file)) count

  -- the header that is put right is the new one's
  pub saves-all : (buffer : List ℕ)
      → Saves file buffer (record { verdict = Done; old = header file; new = right; dropped = length (event_bytes file) / 8 - kept })
      (shown (header_bytes right ++ (kept_events file ++ page_bytes file)) buffer)
  saves-all buffer = record {
    reports =
        (λ i. record { verdict = Done; old = header file; new = sym (new-header file w) i; dropped = length (event_bytes file) / 8 - kept })
        ∙ sym (saved file w).reports;
    writes = ap (λ (l : List ℕ). shown l buffer) parts-written ∙ sym ((saved file w).writes buffer);
  }

-- A buffer of 65,535 bytes has room for every new file: its first bytes, as many as the new total tells, are the new file.
pub written-whole : (file buffer : List ℕ) {r : Salvaged} {after : List ℕ} → Saves file buffer r after → Salvageable file → 65535 ≤ length buffer → take r.new.total after ≡ salvaged file
written-whole file buffer {r} {after} s w room =
    let new = saved file w in
    let total : r.new.total ≡ length (salvaged file) = ap (λ (x : Salvaged). x.new.total) (s.reports ∙ new.reports) ∙ new.sized in
    let fits : take (length buffer) (salvaged file) ≡ salvaged file = take_all (length buffer) (salvaged file) (omega (arith, new.fits, new.sized, room)) in
    ap₂ (λ (n : ℕ) (l : List ℕ). take n l) total (s.writes ∙ new.writes buffer)
    ∙ ap (λ (l : List ℕ). take (length (salvaged file)) (l ++ drop (length (salvaged file)) buffer)) fits
    ∙ take_at (salvaged file) (drop (length (salvaged file)) buffer) (length (salvaged file)) refl
