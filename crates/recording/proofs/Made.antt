-- A file made of whole events and page bytes, not too many, has them back: it is sound exactly if the events are.
-- Assumes nothing.
use Prim.Native.Nat.{ℕ, ◌+◌, ◌*◌, ◌-◌, ◌/◌, ◌≤◌, ◌<◌}
use mathlib.Core.Path.{◌≡◌, refl, sym, ap, ap₂, ◌∙◌}
use mathlib.Core.Bool.{Bool, true, ◌&&◌}
use mathlib.Core.List.{List, [], ◌∷◌, ◌++◌}
use native.Mathlib.Omega.{arith}
use lib.Dec.{leb, eqb}
use lib.ListN.{length, take, drop, length-append, take-append-drop}
use lib.Seq.{length-take-le, take_at, drop_at, drop-drop}
use borrow.Author.Tests.{le-leb, eq-eqb}
use Rattle.wire.specs.Numbers.{byte_at, word_at, two}
use Rattle.wire.proofs.Numbers.{word_two, two-word}
use Rattle.wire.proofs.Bytes.{Below, take-run}
use Rattle.recording.specs.Entries.{entries, all_sound, calls}
use Rattle.recording.specs.Files.{header, right_header, headed, event_bytes, page_bytes, sound_file, calls_of, header_bytes, file_of, cut_after}
use Rattle.recording.specs.declared.Header.{Header}
use Rattle.recording.specs.Soundness.{Headed}
use Rattle.recording.proofs.Entries.{entries-take, take-sound, calls-take}
use Rattle.recording.proofs.Files.{sound-header, sound-events, length-events, length-pages}

-- the largest total is 65,535
module _ (events pages : List ℕ) (count : ℕ) (whole : length events ≡ 8 * count) (small : 8 + 8 * count + length pages < 65536) where
  abbrev made : List ℕ
  made = file_of events pages

  counted : length events / 8 ≡ count
  counted = omega (arith, whole)

  pub made-header : header made ≡ right_header count (length pages)
  made-header =
      let a = word_two count (omega (arith, small)) in
      let b = word_two (8 + 8 * count) (omega (arith, small)) in
      let c = word_two (8 + 8 * count + length pages) small in
      rw counted (simp (a, b, c))

  pub made-events : event_bytes made ≡ events
  made-events =
      let e : 8 + 8 * count - 8 ≡ 8 * count = omega arith in
      ap (λ (h : Header). take (h.pages_from - 8) (drop 8 made)) made-header
      ∙ ap (λ (k : ℕ). take k (events ++ pages)) e
      ∙ take_at events pages (8 * count) whole

  pub made-pages : page_bytes made ≡ pages
  made-pages =
      ap (λ (h : Header). drop h.pages_from made) made-header
      ∙ drop_at (header_bytes (right_header (length events / 8) (length pages)) ++ events) pages (8 + 8 * count) (omega (arith, whole))

  pub made-length : length made ≡ 8 + 8 * count + length pages
  made-length = omega (arith, length-append events pages, whole)

  made-headed : headed made ≡ true
  unfolding headed
  made-headed =
      let from = 8 + 8 * count in
      let total = from + length pages in
      ap₂ (λ (h : Header) (m : ℕ). leb 8 m && eqb h.total m && eqb h.first_event 8 && eqb h.pages_from (8 + 8 * h.event_count) && leb h.pages_from m) made-header made-length
      ∙ simp (le-leb 8 total (omega arith), eq-eqb total total refl, eq-eqb from from refl, le-leb from total (omega arith))

  pub made-sound : sound_file made ≡ all_sound (length pages) (entries events)
  unfolding sound_file
  made-sound =
      ap (λ (b : Bool). b && all_sound (length (page_bytes made)) (entries (event_bytes made))) made-headed
      ∙ ap₂ (λ (p e : List ℕ). all_sound (length p) (entries e)) made-pages made-events

  -- its calls are theirs
  pub made-calls : calls_of made ≡ calls events pages
  made-calls = ap₂ (λ (e p : List ℕ). calls e p) made-events made-pages

-- ---- a file cut after k of its events, wherever they fit

module _ (file : List ℕ) (k : ℕ) (within : 8 * k ≤ length (event_bytes file)) (small : 8 + 8 * k + length (page_bytes file) < 65536) where
  abbrev first : List ℕ
  first = take (8 * k) (event_bytes file)

  first-whole : length first ≡ 8 * k
  first-whole = length-take-le (8 * k) (event_bytes file) within

  pub cut-header : header (cut_after k file) ≡ right_header k (length (page_bytes file))
  cut-header = made-header first (page_bytes file) k first-whole small

  pub cut-length : length (cut_after k file) ≡ 8 + 8 * k + length (page_bytes file)
  cut-length = made-length first (page_bytes file) k first-whole small

  -- it has these events, and all page bytes
  pub cut-events : event_bytes (cut_after k file) ≡ first
  cut-events = made-events first (page_bytes file) k first-whole small

  pub cut-pages : page_bytes (cut_after k file) ≡ page_bytes file
  cut-pages = made-pages first (page_bytes file) k first-whole small

  -- replay takes it exactly if the first k are sound
  pub cut-exactly : sound_file (cut_after k file) ≡ all_sound (length (page_bytes file)) (take k (entries (event_bytes file)))
  cut-exactly =
      made-sound first (page_bytes file) k first-whole small ∙ ap (all_sound (length (page_bytes file))) (entries-take k (event_bytes file) within)

  -- and its calls are the first k
  pub first-calls : calls_of (cut_after k file) ≡ take k (calls_of file)
  first-calls = made-calls first (page_bytes file) k first-whole small ∙ calls-take (page_bytes file) k (event_bytes file) within

-- ---- a sound file, cut

module _ (file : List ℕ) (bytes : Below file) (sound : sound_file file ≡ true) (k : ℕ) (h : k ≤ (header file).event_count) where
  sound-within : 8 * k ≤ length (event_bytes file)
  sound-within = omega (arith, h, length-events file (sound-header file sound))

  sound-small : 8 + 8 * k + length (page_bytes file) < 65536
  sound-small =
      let w = sound-header file sound in
      omega (arith, h, bytes 6, bytes 7, length-pages file, w.whole, w.counted, w.within)

  -- replay takes it
  pub cut-sound : sound_file (cut_after k file) ≡ true
  cut-sound =
      cut-exactly file k sound-within sound-small
      ∙ take-sound (length (page_bytes file)) k (entries (event_bytes file)) (sound-events file sound)

  -- and its calls are the first k
  pub cut-calls : calls_of (cut_after k file) ≡ take k (calls_of file)
  cut-calls = first-calls file k sound-within sound-small

-- ---- a sound file is the one made of its own events and page bytes

module _ (file : List ℕ) (bytes : Below file) (sound : sound_file file ≡ true) where
  head : Headed file
  head = sound-header file sound

  -- its header is the right one
  header-right : right_header (header file).event_count (length (page_bytes file)) ≡ header file
  header-right =
      let p : 8 + 8 * (header file).event_count ≡ (header file).pages_from = sym head.counted in
      let t : 8 + 8 * (header file).event_count + length (page_bytes file) ≡ (header file).total = omega (arith, p, length-pages file, head.within, head.whole) in
      λ i. record { event_count = (header file).event_count; first_event = sym head.begins i; pages_from = p i; total = t i }

  -- whose bytes it begins with
  header-bytes : header_bytes (header file) ≡ take 8 file
  header-bytes =
      let two-of : (i : ℕ) → two (word_at file i) ≡ byte_at file i ∷ byte_at file (i + 1) ∷ [] = λ i. two-word (byte_at file i) (byte_at file (i + 1)) (bytes i) (bytes (i + 1)) in
      ap₂ (λ (a b : List ℕ). a ++ b ++ two (word_at file 4) ++ two (word_at file 6)) (two-of 0) (two-of 2)
      ∙ ap₂ (λ (a b : List ℕ). (byte_at file 0 ∷ byte_at file 1 ∷ byte_at file 2 ∷ byte_at file 3 ∷ []) ++ a ++ b) (two-of 4) (two-of 6)
      ∙ sym (take-run 8 0 file (omega (arith, head.counted, head.within)))

  -- its events and page bytes stand one after the other
  parts-joined : event_bytes file ++ page_bytes file ≡ drop 8 file
  parts-joined =
      let from = (header file).pages_from in
      let e : from ≡ 8 + (from - 8) = omega (arith, head.counted) in
      ap (λ (k : ℕ). event_bytes file ++ drop k file) e
      ∙ ap (λ (l : List ℕ). event_bytes file ++ l) (sym (drop-drop (from - 8) 8 file))
      ∙ take-append-drop (from - 8) (drop 8 file)

  pub made_again : file_of (event_bytes file) (page_bytes file) ≡ file
  made_again =
      let count : length (event_bytes file) / 8 ≡ (header file).event_count = omega (arith, length-events file head) in
      ap (λ (n : ℕ). header_bytes (right_header n (length (page_bytes file))) ++ (event_bytes file ++ page_bytes file)) count
      ∙ ap₂ (λ (h : Header) (l : List ℕ). header_bytes h ++ l) header-right parts-joined
      ∙ ap (λ (l : List ℕ). l ++ drop 8 file) header-bytes
      ∙ take-append-drop 8 file
