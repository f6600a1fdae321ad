-- Laws of events read one after another.
-- Assumes nothing.
use Prim.Native.Nat.{ℕ, zero, suc, ◌+◌, ◌*◌, ◌/◌, ◌%◌, ◌≤◌, ◌<◌}
use mathlib.Core.Path.{◌≡◌, refl, sym, ap, ap₂, ◌∙◌}
use mathlib.Core.Bool.{true, false, ◌&&◌}
use mathlib.Core.List.{List, [], ◌∷◌, ◌++◌, map, map-append}
use native.Mathlib.Omega.{arith}
use lib.Dec.{eqb, eqb-zero-suc, eqb-suc-suc}
use lib.ListN.{length, take, drop, length-append, length-take, length-drop, length-map, get_or-append}
use lib.Seq.{get_or-take, drop-append-le, drop-append_seam}
use Rattle.arrays.proofs.Base.{cases, both, and_left, and_right}
use Rattle.arrays.proofs.Laws.{all_cons, map-take, drop-take}
use Rattle.wire.specs.Numbers.{byte_at}
use Rattle.wire.specs.Parts.{parts}
use Rattle.wire.proofs.Parts.{length-parts}
use Rattle.recording.specs.declared.Entry.{Entry}
use Rattle.recording.specs.Entries.{entry_of, entries, sound, all_sound, sound_run, call, calls}

-- a whole event, and the others
pub entries-more : (bytes : List ℕ) → 8 ≤ length bytes → entries bytes ≡ entry_of bytes ∷ entries (drop 8 bytes)
unfolding parts
entries-more bytes h =
    let e : length bytes / 8 ≡ suc (length (drop 8 bytes) / 8) = omega (arith, length-drop 8 bytes) in
    ap (λ (n : ℕ). parts entry_of 8 n bytes) e

-- no whole event is left
pub entries_none : (bytes : List ℕ) → length bytes < 8 → entries bytes ≡ []
unfolding parts
entries_none bytes h = let e : length bytes / 8 ≡ 0 = omega arith in ap (λ (n : ℕ). parts entry_of 8 n bytes) e

-- as many as whole eights of bytes
pub length-entries : (bytes : List ℕ) → length (entries bytes) ≡ length bytes / 8
length-entries bytes = length-parts entry_of 8 (length bytes / 8) bytes

-- an event is read of its own bytes alone: whatever follows them
entry-append : (bytes more : List ℕ) → 8 ≤ length bytes → entry_of (bytes ++ more) ≡ entry_of bytes
unfolding entry_of
entry-append bytes more h =
    let at : (i : ℕ) → i < 8 → byte_at (bytes ++ more) i ≡ byte_at bytes i = λ i l. get_or-append bytes more 0 i (omega arith) in
    simp (at 0 (omega arith), at 1 (omega arith), at 2 (omega arith), at 3 (omega arith), at 4 (omega arith), at 5 (omega arith), at 6 (omega arith), at 7 (omega arith))

-- or is cut off
pub entry-take : (n : ℕ) (bytes : List ℕ) → 8 ≤ n → entry_of (take n bytes) ≡ entry_of bytes
unfolding entry_of
entry-take n bytes h =
    let at : (i : ℕ) → i < 8 → byte_at (take n bytes) i ≡ byte_at bytes i = λ i l. get_or-take n bytes i 0 (omega arith) in
    simp (at 0 (omega arith), at 1 (omega arith), at 2 (omega arith), at 3 (omega arith), at 4 (omega arith), at 5 (omega arith), at 6 (omega arith), at 7 (omega arith))

-- where bytes are cut into eights, each is the next event
pub event_comes : (bytes event rest : List ℕ) → bytes ≡ event ++ rest → length event ≡ 8 → (8 ≤ length bytes) × (entry_of event ≡ entry_of bytes) × (rest ≡ drop 8 bytes)
event_comes bytes event rest is long =
    let here : 8 ≤ length event = omega arith in (
      omega (arith, ap length is, length-append event rest),
      sym (ap entry_of is ∙ entry-append event rest here),
      sym (ap (drop 8) is ∙ ap (λ n. drop n (event ++ rest)) (sym long) ∙ drop-append_seam event rest),
    )

-- ---- how many are sound

module _ (page_count : ℕ) where
  -- a sound event counts, and the others after it
  pub run_sound : (e : Entry) (more : List Entry) → sound page_count e ≡ true → sound_run page_count (e ∷ more) ≡ suc (sound_run page_count more)
  unfolding sound_run
  run_sound e more t = simp t

  -- one that isn't ends the run
  pub run-stops : (e : Entry) (more : List Entry) → sound page_count e ≡ false → sound_run page_count (e ∷ more) ≡ 0
  unfolding sound_run
  run-stops e more f = simp f

  -- the same of bytes
  pub run_more : (bytes : List ℕ) → 8 ≤ length bytes → sound page_count (entry_of bytes) ≡ true → sound_run page_count (entries bytes) ≡ suc (sound_run page_count (entries (drop 8 bytes)))
  run_more bytes h t = ap (sound_run page_count) (entries-more bytes h) ∙ run_sound (entry_of bytes) (entries (drop 8 bytes)) t

  pub run-last : (bytes : List ℕ) → 8 ≤ length bytes → sound page_count (entry_of bytes) ≡ false → sound_run page_count (entries bytes) ≡ 0
  run-last bytes h f = ap (sound_run page_count) (entries-more bytes h) ∙ run-stops (entry_of bytes) (entries (drop 8 bytes)) f

  pub run_none : (bytes : List ℕ) → length bytes < 8 → sound_run page_count (entries bytes) ≡ 0
  unfolding sound_run
  run_none bytes h = ap (sound_run page_count) (entries_none bytes h)

  -- the run reaches the end exactly if all are sound
  run-all : (l : List Entry) → eqb (sound_run page_count l) (length l) ≡ all_sound page_count l
  unfolding sound_run
  run-all [] = refl
  run-all (e ∷ l) =
      cases (sound page_count e)
      (λ t.
      ap (λ (n : ℕ). eqb n (suc (length l))) (run_sound e l t)
      ∙ eqb-suc-suc (sound_run page_count l) (length l) ∙ run-all l ∙ sym (all_cons (sound page_count) e l ∙ simp t))
      (λ f. ap (λ (n : ℕ). eqb n (suc (length l))) (run-stops e l f) ∙ eqb-zero-suc (length l) ∙ sym (all_cons (sound page_count) e l ∙ simp f))

  -- so it is told by how many are, of so many bytes
  pub run-told : (bytes : List ℕ) → eqb (sound_run page_count (entries bytes)) (length bytes / 8) ≡ all_sound page_count (entries bytes)
  run-told bytes = ap (λ (n : ℕ). eqb (sound_run page_count (entries bytes)) n) (sym (length-entries bytes)) ∙ run-all (entries bytes)

-- ---- the first events

-- the first n events and one more
take_more : (n : ℕ) (bytes : List ℕ) → 8 ≤ length bytes → entries (take (8 * suc n) bytes) ≡ entry_of bytes ∷ entries (take (8 * n) (drop 8 bytes))
take_more n bytes h =
    let e : 8 * suc n ≡ 8 + 8 * n = omega arith in
    let l : 8 ≤ length (take (8 + 8 * n) bytes) = omega (arith, length-take (8 + 8 * n) bytes) in
    ap (λ (k : ℕ). entries (take k bytes)) e
    ∙ entries-more (take (8 + 8 * n) bytes) l
    ∙ ap₂ (λ (x : Entry) (y : List ℕ). x ∷ entries y) (entry-take (8 + 8 * n) bytes (omega arith)) (drop-take 8 (8 * n) bytes)

-- the first n events are those of the first bytes
pub entries-take : (n : ℕ) (bytes : List ℕ) → 8 * n ≤ length bytes → entries (take (8 * n) bytes) ≡ take n (entries bytes)
unfolding parts
entries-take zero bytes h = refl
entries-take (suc n) bytes h =
    let l : 8 ≤ length bytes = omega arith in
    take_more n bytes l
    ∙ ap (λ (x : List Entry). entry_of bytes ∷ x) (entries-take n (drop 8 bytes) (omega (arith, length-drop 8 bytes)))
    ∙ sym (ap (take (suc n)) (entries-more bytes l))

-- where all are sound, so are the first n
pub take-sound : (page_count n : ℕ) (l : List Entry) → all_sound page_count l ≡ true → all_sound page_count (take n l) ≡ true
take-sound page_count zero l h = refl
take-sound page_count (suc n) [] h = refl
take-sound page_count (suc n) (e ∷ l) h =
    let split : (sound page_count e && all_sound page_count l) ≡ true = sym (all_cons (sound page_count) e l) ∙ h in
    all_cons (sound page_count) e (take n l)
    ∙ both (sound page_count e) (all_sound page_count (take n l)) (and_left (sound page_count e) (all_sound page_count l) split) (take-sound page_count n l (and_right (sound page_count e) (all_sound page_count l) split))

-- ---- one run of bytes after another, of which the first is whole events

module _ (more : List ℕ) where
  append-count : (n : ℕ) (bytes : List ℕ) → length bytes ≡ 8 * n → entries (bytes ++ more) ≡ entries bytes ++ entries more
  unfolding parts
  append-count zero [] e = refl
  append-count zero (b ∷ bytes) e = absurd (omega arith)
  append-count (suc n) bytes e =
      let h : 8 ≤ length bytes = omega arith in
      let l : 8 ≤ length (bytes ++ more) = omega (arith, length-append bytes more) in
      let d : length (drop 8 bytes) ≡ 8 * n = omega (arith, length-drop 8 bytes) in
      entries-more (bytes ++ more) l
      ∙ ap₂ (λ (x : Entry) (l : List ℕ). x ∷ entries l) (entry-append bytes more h) (drop-append-le 8 bytes more h)
      ∙ ap (λ (l : List Entry). entry_of bytes ∷ l) (append-count n (drop 8 bytes) d)
      ∙ sym (ap (λ (l : List Entry). l ++ entries more) (entries-more bytes h))

  pub entries-append : (bytes : List ℕ) → length bytes % 8 ≡ 0 → entries (bytes ++ more) ≡ entries bytes ++ entries more
  entries-append bytes h = append-count (length bytes / 8) bytes (omega arith)

-- ---- the calls

module _ (pages : List ℕ) where
  -- the calls of bytes: the first, and those of the rest
  pub calls-more : (bytes : List ℕ) → 8 ≤ length bytes → calls bytes pages ≡ call pages (entry_of bytes) ∷ calls (drop 8 bytes) pages
  calls-more bytes h = ap (map (call pages)) (entries-more bytes h)

  pub calls-none : (bytes : List ℕ) → length bytes < 8 → calls bytes pages ≡ []
  calls-none bytes h = ap (map (call pages)) (entries_none bytes h)

  -- the first n of them
  pub calls-take : (n : ℕ) (bytes : List ℕ) → 8 * n ≤ length bytes → calls (take (8 * n) bytes) pages ≡ take n (calls bytes pages)
  calls-take n bytes h = ap (map (call pages)) (entries-take n bytes h) ∙ map-take (call pages) n (entries bytes)

  -- of two runs of bytes
  pub calls-append : (bytes more : List ℕ) → length bytes % 8 ≡ 0 → calls (bytes ++ more) pages ≡ calls bytes pages ++ calls more pages
  calls-append bytes more h = ap (map (call pages)) (entries-append more bytes h) ∙ map-append (call pages) (entries bytes) (entries more)

  -- as many calls as whole eights of bytes
  pub length-calls : (bytes : List ℕ) → length (calls bytes pages) ≡ length bytes / 8
  length-calls bytes = length-map (entries bytes) (call pages) ∙ length-entries bytes
