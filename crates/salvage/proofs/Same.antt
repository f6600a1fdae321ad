-- A sound file comes out byte for byte the same, with nothing reported changed; so does what was salvaged, salvaged again.
-- Assumes nothing.
use Prim.Native.Nat.{ℕ, ◌+◌, ◌*◌, ◌/◌, ◌≤◌}
use mathlib.Core.Path.{◌≡◌, sym, ap, ap₂, subst₂, ◌∙◌}
use mathlib.Core.Bool.{true}
use mathlib.Core.List.{List}
use native.Mathlib.Omega.{arith}
use lib.ListN.{length}
use lib.Seq.{take_all}
use borrow.Author.Tests.{eqb-true}
use Rattle.arrays.proofs.Base.{cases, if-true, if-false}
use Rattle.wire.specs.Parts.{Each}
use Rattle.wire.proofs.Bytes.{Below}
use Rattle.recording.specs.declared.Header.{Header}
use Rattle.recording.specs.declared.Verdict.TheVariants.{Done}
use Rattle.recording.specs.Verdicts.{verdict_number}
use Rattle.recording.specs.Entries.{entries, sound_run}
use Rattle.recording.specs.Files.{header, right_header, event_bytes, page_bytes, sound_file, file_of}
use Rattle.recording.specs.Soundness.{SoundEvent}
use Rattle.recording.proofs.Entries.{run-told}
use Rattle.recording.proofs.Exactly.{taken-is-sound, sound-is-taken}
use Rattle.recording.proofs.Files.{sound-header, sound-events, length-events, length-pages}
use Rattle.recording.proofs.Made.{made_again}
use Rattle.salvage.specs.declared.Salvaged.{Salvaged}
use Rattle.salvage.specs.Salvage.{kept_count, kept_events, salvaged, dropped_count, is_salvageable, reported}
use Rattle.salvage.specs.Saved.{Salvageable, Unchanged}
use Rattle.salvage.proofs.Due.{salvageable-told, told-salvageable}
use Rattle.salvage.proofs.Saved.{events-bytes, new-header, new-events, new-pages, saved}

-- a sound file of at most 65,535 bytes can be salvaged, and all its events are kept
module _ (file : List ℕ) (small : length file ≤ 65535) (sound : sound_file file ≡ true) where
  sound-salvageable : Salvageable file
  sound-salvageable = let head = sound-header file sound in record { small = small; events = (header file).event_count; counted = head.counted; within = head.within }

  all-kept : 8 * kept_count file ≡ length (event_bytes file)
  unfolding kept_count
  all-kept =
      let run = sound_run (length (page_bytes file)) (entries (event_bytes file)) in
      let told = run-told (length (page_bytes file)) (event_bytes file) ∙ sound-events file sound in
      omega (arith, eqb-true run (length (event_bytes file) / 8) told, length-events file (sound-header file sound))

  events-kept : kept_events file ≡ event_bytes file
  events-kept = take_all (8 * kept_count file) (event_bytes file) (omega (arith, all-kept))

  -- so it is unchanged, where it is the file that is made of its parts
  parts-unchanged : file_of (event_bytes file) (page_bytes file) ≡ file → Unchanged file
  parts-unchanged made =
      let same : salvaged file ≡ file = ap (λ (events : List ℕ). file_of events (page_bytes file)) events-kept ∙ made in
      let none : dropped_count file ≡ 0 = omega (arith, all-kept) in
      record {
        same = same;
        reports =
            if-true (is_salvageable file) _ _ (told-salvageable file sound-salvageable)
            ∙ (λ i. record { verdict = Done; old = header file; new = header (same i); dropped = none i });
      }

-- A sound file comes out byte for byte the same, with nothing reported changed.
pub sound-unchanged : (file : List ℕ) → Below file → sound_file file ≡ true → Unchanged file
sound-unchanged file bytes sound =
    let small : length file ≤ 65535 = omega (arith, (sound-header file sound).whole, bytes 6, bytes 7) in
    parts-unchanged file small sound (made_again file bytes sound)

-- Salvaging twice is salvaging once.
pub salvaged-twice : (file : List ℕ) → Salvageable file → Unchanged (salvaged file)
salvaged-twice file w =
    let s = saved file w in
    parts-unchanged (salvaged file) (omega (arith, s.shrinks, w.small)) s.taken
    (ap₂ (λ (events pages : List ℕ). file_of events pages) (new-events file w) (new-pages file w))

-- Where nothing is reported changed, the file was sound.
module _ (file : List ℕ) (same : reported file ≡ record { verdict = Done; old = header file; new = header file; dropped = 0 }) where
  -- it can be salvaged, since 21 isn't reported
  could : is_salvageable file ≡ true
  could =
      cases (is_salvageable file) (λ t. t)
      (λ f.
      let e = ap (λ (r : Salvaged). verdict_number r.verdict) (sym (if-false (is_salvageable file) _ _ f) ∙ same) in
      absurd (omega (arith, e)))

  w : Salvageable file
  w = salvageable-told file could

  told : ◌≡◌ {A = Salvaged} (record { verdict = Done; old = header file; new = header (salvaged file); dropped = dropped_count file }) (record { verdict = Done; old = header file; new = header file; dropped = 0 })
  told = sym (saved file w).reports ∙ same

  -- its header is the new one's, and right
  header-new : header file ≡ right_header (kept_count file) (length (page_bytes file))
  header-new = sym (ap (λ (r : Salvaged). r.new) told) ∙ new-header file w

  -- none is dropped
  none_dropped : kept_count file ≡ w.events
  none_dropped = omega (arith, (saved file w).others, ap (λ (r : Salvaged). r.dropped) told)

  same-events : kept_events file ≡ event_bytes file
  same-events = take_all (8 * kept_count file) (event_bytes file) (omega (arith, none_dropped, events-bytes file w))

  pub unchanged-was-sound : sound_file file ≡ true
  unchanged-was-sound =
      let new = taken-is-sound (salvaged file) (saved file w).taken in
      let total : (header file).total ≡ 8 + 8 * kept_count file + length (page_bytes file) = ap (λ (h : Header). h.total) header-new in
      let count : (header file).event_count ≡ kept_count file = ap (λ (h : Header). h.event_count) header-new in
      sound-is-taken file (record {
        headed = record {
          whole = omega (arith, total, none_dropped, length-pages file, w.counted, w.within);
          begins = ap (λ (h : Header). h.first_event) header-new;
          counted = omega (arith, count, none_dropped, w.counted);
          within = w.within;
        };
        events = subst₂ (λ (events pages : List ℕ). Each (SoundEvent (length pages)) (entries events)) (new-events file w ∙ same-events) (new-pages file w) new.events;
      })
