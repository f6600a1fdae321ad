-- Laws of a recorded file.
-- Assumes nothing.
use Prim.Native.Nat.{ℕ, ◌+◌, ◌*◌, ◌-◌, ◌/◌, ◌≤◌}
use mathlib.Core.Path.{◌≡◌, sym, ◌∙◌}
use mathlib.Core.Bool.{true}
use mathlib.Core.List.{List, [], ◌∷◌}
use native.Mathlib.Omega.{arith}
use lib.Dec.{leb, eqb}
use lib.ListN.{length, drop, length-drop}
use lib.Seq.{length-take-le}
use borrow.Author.Tests.{leb-true, eqb-true}
use Rattle.arrays.proofs.Base.{each_holds, and_left, and_right}
use Rattle.recording.specs.Entries.{entries, all_sound, sound_run}
use Rattle.recording.specs.Files.{header, headed, event_bytes, page_bytes, sound_file, calls_of}
use Rattle.recording.specs.Soundness.{Headed}
use Rattle.recording.proofs.Entries.{run-told, length-calls}

module _ (file : List ℕ) where
  -- what a header with right numbers tells
  pub headed-tells : headed file ≡ true → Headed file
  unfolding headed
  headed-tells h =
      let n = length file in
      let head = header file in
      let e = each_holds (leb 8 n) (eqb head.total n ∷ eqb head.first_event 8 ∷ eqb head.pages_from (8 + 8 * head.event_count) ∷ leb head.pages_from n ∷ []) h in
      record {
        whole = eqb-true _ _ e.1.0;
        begins = eqb-true _ _ e.1.1.0;
        counted = eqb-true _ _ e.1.1.1.0;
        within = leb-true _ _ e.1.1.1.1.0;
      }

  -- whether all events are sound is told by how many are
  pub sound-told : headed file ≡ true → eqb (sound_run (length (page_bytes file)) (entries (event_bytes file))) (length (event_bytes file) / 8) ≡ sound_file file
  unfolding sound_file
  sound-told h = run-told (length (page_bytes file)) (event_bytes file) ∙ sym (simp h)

  -- what a sound file's header tells, and that its events are sound
  pub sound-header : sound_file file ≡ true → Headed file
  unfolding sound_file
  sound-header h = headed-tells (and_left (headed file) (all_sound (length (page_bytes file)) (entries (event_bytes file))) h)

  pub sound-events : sound_file file ≡ true → all_sound (length (page_bytes file)) (entries (event_bytes file)) ≡ true
  unfolding sound_file
  sound-events h = and_right (headed file) (all_sound (length (page_bytes file)) (entries (event_bytes file))) h

  -- so many bytes of events, and of pages
  pub length_before : (header file).pages_from ≤ length file → length (event_bytes file) ≡ (header file).pages_from - 8
  length_before within = length-take-le ((header file).pages_from - 8) (drop 8 file) (omega (arith, length-drop 8 file, within))

  pub length-events : Headed file → length (event_bytes file) ≡ 8 * (header file).event_count
  length-events w = omega (arith, length_before w.within, w.counted)

  pub length-pages : length (page_bytes file) ≡ length file - (header file).pages_from
  length-pages = length-drop (header file).pages_from file

-- a sound recording has as many calls as its header says
pub sound-count : (file : List ℕ) → sound_file file ≡ true → length (calls_of file) ≡ (header file).event_count
sound-count file sound = omega (arith, length-calls (page_bytes file) (event_bytes file), length-events file (sound-header file sound))
