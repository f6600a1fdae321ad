-- The new file of one that can be salvaged.
-- Assumes nothing.
use Prim.Native.Nat.{ℕ, ◌+◌, ◌*◌, ◌-◌, ◌≤◌, ◌<◌}
use mathlib.Core.Path.{◌≡◌, sym, ap, ◌∙◌}
use mathlib.Core.Bool.{true, false}
use mathlib.Core.List.{List}
use native.Mathlib.Omega.{arith}
use lib.ListN.{length, get_or, take, drop}
use lib.Seq.{take-take}
use Rattle.arrays.proofs.Base.{if-true}
use Rattle.recording.specs.declared.Entry.{Entry}
use Rattle.recording.specs.declared.Header.{Header}
use Rattle.recording.specs.Entries.{entries, sound, all_sound}
use Rattle.recording.specs.Files.{header, right_header, event_bytes, page_bytes, sound_file, file_of}
use Rattle.recording.proofs.Entries.{length-entries}
use Rattle.recording.proofs.Runs.{run-few, run-kept, run-longest, run-breaks}
use Rattle.recording.proofs.Files.{length_before, length-pages}
use Rattle.recording.proofs.Made.{cut-header, cut-length, cut-events, cut-pages, cut-exactly}
use Rattle.salvage.specs.Salvage.{kept_count, kept_events, salvaged, dropped_count, is_salvageable}
use Rattle.salvage.specs.Saved.{Salvageable, Saved}
use Rattle.salvage.proofs.Due.{told-salvageable}

module _ (file : List ℕ) (w : Salvageable file) where
  pub events-bytes : length (event_bytes file) ≡ 8 * w.events
  events-bytes = omega (arith, length_before file w.within, w.counted)

  -- the whole events before the stored page offset
  length_whole : length (entries (event_bytes file)) ≡ w.events
  length_whole = omega (arith, length-entries (event_bytes file), events-bytes)

  -- the first n of them
  first-events : (n : ℕ) → n ≤ w.events → take (8 * n) (event_bytes file) ≡ take (8 * n) (drop 8 file)
  first-events n h = take-take (8 * n) ((header file).pages_from - 8) (drop 8 file) (omega (arith, h, w.counted))

  pub kept-few : kept_count file ≤ w.events
  unfolding kept_count
  kept-few = omega (arith, run-few (length (page_bytes file)) (entries (event_bytes file)), length_whole)

  -- n events fit, with the page bytes, in 65,535 bytes
  pub first-within : (n : ℕ) → n ≤ w.events → 8 * n ≤ length (event_bytes file)
  first-within n h = omega (arith, h, events-bytes)

  pub first_small : (n : ℕ) → n ≤ w.events → 8 + 8 * n + length (page_bytes file) < 65536
  first_small n h = omega (arith, h, length-pages file, w.small, w.counted, w.within)

  abbrev within : 8 * kept_count file ≤ length (event_bytes file)
  within = first-within (kept_count file) kept-few

  abbrev small : 8 + 8 * kept_count file + length (page_bytes file) < 65536
  small = first_small (kept_count file) kept-few

  pub new-header : header (salvaged file) ≡ right_header (kept_count file) (length (page_bytes file))
  new-header = cut-header file (kept_count file) within small

  new-total : (header (salvaged file)).total ≡ 8 + 8 * kept_count file + length (page_bytes file)
  new-total = ap (λ (h : Header). h.total) new-header

  new-length : length (salvaged file) ≡ 8 + 8 * kept_count file + length (page_bytes file)
  new-length = cut-length file (kept_count file) within small

  -- its events and page bytes
  pub new-events : event_bytes (salvaged file) ≡ kept_events file
  new-events = cut-events file (kept_count file) within small

  pub new-pages : page_bytes (salvaged file) ≡ page_bytes file
  new-pages = cut-pages file (kept_count file) within small

  -- the first n events of the file, with its page bytes, are a file that replay takes exactly if they are sound
  first_taken : (n : ℕ) → n ≤ w.events
      → sound_file (file_of (take (8 * n) (drop 8 file)) (page_bytes file)) ≡ all_sound (length (page_bytes file)) (take n (entries (event_bytes file)))
  first_taken n h =
      ap (λ (events : List ℕ). sound_file (file_of events (page_bytes file))) (sym (first-events n h))
      ∙ cut-exactly file n (first-within n h) (first_small n h)

  new-taken : sound_file (salvaged file) ≡ true
  unfolding kept_count
  new-taken = cut-exactly file (kept_count file) within small ∙ run-kept (length (page_bytes file)) (kept_count file) (entries (event_bytes file)) (omega arith)

  none-longer : (n : ℕ) → n ≤ w.events → sound_file (file_of (take (8 * n) (drop 8 file)) (page_bytes file)) ≡ true → n ≤ kept_count file
  unfolding kept_count
  none-longer n h s = run-longest (length (page_bytes file)) n (entries (event_bytes file)) (omega (arith, h, length_whole)) (sym (first_taken n h) ∙ s)

  all-counted : kept_count file + dropped_count file ≡ w.events
  all-counted = omega (arith, kept-few, events-bytes)

  first-dropped : (none : Entry) → 0 < dropped_count file → sound (length (page_bytes file)) (get_or (entries (event_bytes file)) (kept_count file) none) ≡ false
  unfolding kept_count
  first-dropped none h = run-breaks (length (page_bytes file)) (entries (event_bytes file)) none (omega (arith, h, length_whole, events-bytes))

  pub saved : Saved file w
  saved = record {
    taken = new-taken;
    kept = new-events ∙ first-events (kept_count file) kept-few;
    paged = new-pages;
    ends = kept-few;
    longest = none-longer;
    right = new-header ∙ ap (right_header (kept_count file)) (length-pages file);
    fits = omega (arith, new-total, small);
    sized = new-total ∙ sym new-length;
    shrinks = omega (arith, new-length, kept-few, length-pages file, w.counted, w.within);
    others = all-counted;
    wrong = first-dropped;
    reports = if-true (is_salvageable file) _ _ (told-salvageable file w);
    writes = λ buffer. if-true (is_salvageable file) _ _ (told-salvageable file w);
  }
