-- Two batches in a row, each with page bytes of its own, equal the batch that joins them.
-- Assumes nothing.
use Prim.Native.Nat.{ℕ, ◌+◌, ◌*◌, ◌/◌, ◌≤◌, ◌<◌}
use mathlib.Core.Path.{◌≡◌, refl, sym, ap, ap₂, subst, ◌∙◌}
use mathlib.Core.List.{List, [], ◌++◌, map, map-map, append-nil}
use native.Mathlib.Omega.{arith}
use lib.ListN.{length, take, drop, length-append, length-drop}
use lib.Seq.{take-append-le, drop-append-le, drop-append-add}
use Rattle.arrays.proofs.Base.{cases}
use Rattle.wire.specs.Parts.{parts, Each}
use Rattle.wire.proofs.Numbers.{word_two}
use Rattle.wire.proofs.Bytes.{Below}
use Rattle.wire.proofs.Parts.{joined_length, GivenBack, read-joined, each_read, each_both, each_same, each_map, map_each}
use Rattle.device.specs.Words.{Worded}
use Rattle.drive.specs.Calls.{Call}
use Rattle.calls.specs.Asking.{call_of}
use Rattle.recording.specs.Forms.{form_of}
use Rattle.recording.specs.Entries.{entry_of, entries, event_asked, event_page, call, calls}
use Rattle.recording.specs.Soundness.{SoundEvent}
use Rattle.recording.specs.declared.Entry.{Entry}
use Rattle.recording.proofs.Entries.{calls-append}
use Rattle.batch.specs.Due.{Room, SoundBatch}
use Rattle.batch.specs.Joining.{moved_entry, entry_bytes, moved}
use Rattle.batch.proofs.InARow.{InARow, batches-in-a-row, joined-sound}

-- ---- one event

module _ (p q : List ℕ) where
  both-pages : length (p ++ q) ≡ length p + length q
  both-pages = length-append p q

  -- a page of p stands where it stood
  first-sound : (e : Entry) → SoundEvent (length p) e → SoundEvent (length (p ++ q)) e
  first-sound e s = record {
    kind = s.kind;
    nexus = s.nexus;
    argument = s.argument;
    page = cases (form_of e.kind).page (λ t. let h = rw t at s.page in rw t (omega (arith, h, both-pages))) (λ f. let h = rw f at s.page in rw f h);
  }

  within : (n : ℕ) (e : Entry) → SoundEvent n e → e.page_offset + e.page_length ≤ n
  within n e s = cases (form_of e.kind).page (λ t. rw t at s.page) (λ f. let h = rw f at s.page in omega (arith, h))

  first-call : (e : Entry) → SoundEvent (length p) e → call (p ++ q) e ≡ call p e
  unfolding call
  first-call e s =
      let h = within (length p) e s in
      ap (call_of (event_asked e))
      (ap (take e.page_length) (drop-append-le e.page_offset p q (omega (arith, h)))
      ∙ take-append-le e.page_length (drop e.page_offset p) q (omega (arith, h, length-drop e.page_offset p)))

  -- and one of q stands after all of p
  later-sound : (e : Entry) → SoundEvent (length q) e → SoundEvent (length (p ++ q)) (moved_entry (length p) e)
  later-sound e s = record {
    kind = s.kind;
    nexus = s.nexus;
    argument = s.argument;
    page = cases (form_of e.kind).page (λ t. let h = rw t at s.page in rw t (omega (arith, h, both-pages))) (λ f. let h = rw f at s.page in rw f h);
  }

  later-page : (e : Entry) → SoundEvent (length q) e → event_page (p ++ q) (moved_entry (length p) e) ≡ event_page q e
  later-page e s =
      cases (form_of e.kind).page
      (λ t. rw t (ap (take e.page_length) (drop-append-add p q e.page_offset)))
      (λ f.
      let h = rw f at s.page in
      let none : e.page_length ≡ 0 = omega (arith, h) in
      rw none refl)

  later-call : (e : Entry) → SoundEvent (length q) e → call (p ++ q) (moved_entry (length p) e) ≡ call q e
  unfolding call
  later-call e s = ap (call_of (event_asked e)) (later-page e s)

  -- ---- its bytes give it back

  module _ (small : length p + length q < 65536) where
    later-back : (e : Entry) → SoundEvent (length q) e → e.argument < 65536 → GivenBack entry_bytes entry_of 8 (moved_entry (length p) e)
    unfolding entry_of
    later-back e s a =
        let m = moved_entry (length p) e in
        let h : m.page_offset + m.page_length ≤ length (p ++ q) = within (length (p ++ q)) m (later-sound e s) in
        let offset = word_two m.page_offset (omega (arith, h, both-pages)) in
        let size = word_two m.page_length (omega (arith, h, both-pages)) in
        (refl, λ rest i. record { kind = e.kind; nexus = e.nexus; argument = word_two e.argument a i; page_offset = offset i; page_length = size i })

    -- ---- the events of a batch

    module _ (later : List ℕ) (two : SoundBatch later q) (bytes : Below later) where
      abbrev further : List ℕ
      further = moved (length p) later

      arguments : Each (λ (e : Entry). e.argument < 65536) (entries later)
      unfolding entry_of
      arguments = each_read (λ (e : Entry). e.argument < 65536) entry_of 8 (λ part b. omega (arith, b 2, b 3)) (length later / 8) later bytes

      abbrev xs : List Entry
      xs = map (moved_entry (length p)) (entries later)

      back : Each (GivenBack entry_bytes entry_of 8) xs
      back =
          each_map (GivenBack entry_bytes entry_of 8) (moved_entry (length p)) (λ e h. later-back e h.0 h.1) (entries later)
          (each_both (SoundEvent (length q)) (λ (e : Entry). e.argument < 65536) (entries later) two.each arguments)

      eights : length further ≡ length xs * 8
      eights = joined_length entry_bytes 8 xs (each_map (λ (x : Entry). length (entry_bytes x) ≡ 8) (moved_entry (length p)) (λ e h. refl) (entries later) two.each)

      moved-entries : entries further ≡ xs
      moved-entries =
          let n : length further / 8 ≡ length xs = omega (arith, eights) in
          ap₂ (λ (k : ℕ) (l : List ℕ). parts entry_of 8 k l) n (sym (append-nil further)) ∙ read-joined entry_bytes entry_of 8 xs back []

      -- they are sound, and their calls are what they were
      moved-sound : SoundBatch further (p ++ q)
      moved-sound = record {
        whole = omega (arith, eights);
        each = subst (Each (SoundEvent (length (p ++ q)))) (sym moved-entries) (each_map (SoundEvent (length (p ++ q))) (moved_entry (length p)) later-sound (entries later) two.each);
      }

      moved-calls : calls further (p ++ q) ≡ calls later q
      moved-calls =
          ap (map (call (p ++ q))) moved-entries
          ∙ map-map (call (p ++ q)) (moved_entry (length p)) (entries later)
          ∙ map_each (λ (e : Entry). call (p ++ q) (moved_entry (length p) e)) (call q) later-call (entries later) two.each

  -- those of the first stay
  kept-sound : (first : List ℕ) → SoundBatch first p → SoundBatch first (p ++ q)
  kept-sound first one = record { whole = one.whole; each = each_same first-sound (entries first) one.each }

  kept-calls : (first : List ℕ) → SoundBatch first p → calls first (p ++ q) ≡ calls first p
  kept-calls first one = map_each (call (p ++ q)) (call p) first-call (entries first) one.each

-- Two batches in a row, each with page bytes of its own, equal one: where 64 and the buffer allow it, and all page bytes can be told in two
-- bytes.
pub batches-moved : (r : Worded) (first first_pages later later_pages buffer : List ℕ) → Room (first ++ moved (length first_pages) later) (length buffer)
    → SoundBatch first first_pages → SoundBatch later later_pages → Below later → length first_pages + length later_pages < 65536
    → InARow r (first ++ moved (length first_pages) later) (first_pages ++ later_pages) first first_pages later later_pages buffer
batches-moved r first first_pages later later_pages buffer room one two bytes small =
    let further = moved (length first_pages) later in
    let pages = first_pages ++ later_pages in
    let kept = kept-sound first_pages later_pages first one in
    let calls-of : calls (first ++ further) pages ≡ calls first first_pages ++ calls later later_pages =
    calls-append pages first further one.whole
    ∙ ap₂ (λ (k l : List Call). k ++ l) (kept-calls first_pages later_pages first one) (moved-calls first_pages later_pages small later two bytes) in
    batches-in-a-row r (first ++ further) pages first first_pages later later_pages buffer calls-of room
    (joined-sound first further pages kept (moved-sound first_pages later_pages small later two bytes)) one two
