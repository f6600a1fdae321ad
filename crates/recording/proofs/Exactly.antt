-- Replay takes a file exactly if it is sound, as document 02 words it.
-- Assumes nothing.
use Prim.Native.Nat.{ℕ, ◌+◌, ◌≤◌}
use mathlib.Core.Path.{◌≡◌, refl, sym, ◌∙◌}
use mathlib.Core.Bool.{true, ◌&&◌}
use mathlib.Core.List.{List, [], ◌∷◌}
use native.Mathlib.Omega.{arith}
use lib.Dec.{leb}
use lib.ListN.{length}
use borrow.Author.Tests.{leb-true, le-leb, eq-eqb}
use Rattle.arrays.specs.Base.{when◌then◌else◌}
use Rattle.arrays.proofs.Base.{both, and_left, and_right, each_holds}
use Rattle.arrays.proofs.Laws.{all_cons}
use Rattle.wire.specs.Parts.{Each}
use Rattle.recording.specs.declared.Entry.{Entry}
use Rattle.recording.specs.Forms.{form_of}
use Rattle.recording.specs.Entries.{entries, sound, all_sound}
use Rattle.recording.specs.Files.{headed, event_bytes, page_bytes, sound_file}
use Rattle.recording.specs.Soundness.{SoundEvent, Headed, SoundFile}
use Rattle.recording.proofs.Files.{sound-header, sound-events}

module _ (page_count : ℕ) where
  event-told : (e : Entry) → sound page_count e ≡ true → SoundEvent page_count e
  unfolding sound
  event-told e h =
      let form = form_of e.kind in
      let t = each_holds (leb e.kind 11) (leb e.nexus form.nexus ∷ leb e.argument form.argument ∷ leb (e.page_offset + e.page_length) (when form.page then page_count else 0) ∷ []) h in
      record { kind = leb-true _ _ t.0; nexus = leb-true _ _ t.1.0; argument = leb-true _ _ t.1.1.0; page = leb-true _ _ t.1.1.1.0 }

  event-sound : (e : Entry) → SoundEvent page_count e → sound page_count e ≡ true
  unfolding sound
  event-sound e s = simp (le-leb _ _ s.kind, le-leb _ _ s.nexus, le-leb _ _ s.argument, le-leb _ _ s.page)

  pub events-told : (l : List Entry) → all_sound page_count l ≡ true → Each (SoundEvent page_count) l
  events-told [] h = tt
  events-told (e ∷ l) h =
      let split : (sound page_count e && all_sound page_count l) ≡ true = sym (all_cons (sound page_count) e l) ∙ h in
      (event-told e (and_left (sound page_count e) (all_sound page_count l) split), events-told l (and_right (sound page_count e) (all_sound page_count l) split))

  pub events-sound : (l : List Entry) → Each (SoundEvent page_count) l → all_sound page_count l ≡ true
  events-sound [] s = refl
  events-sound (e ∷ l) s = all_cons (sound page_count) e l ∙ both (sound page_count e) (all_sound page_count l) (event-sound e s.0) (events-sound l s.1)

headed-so : (file : List ℕ) → Headed file → headed file ≡ true
unfolding headed
headed-so file h =
    let least : 8 ≤ length file = omega (arith, h.counted, h.within) in
    simp (le-leb 8 (length file) least, eq-eqb _ _ h.whole, eq-eqb _ _ h.begins, eq-eqb _ _ h.counted, le-leb _ _ h.within)

-- what replay takes is sound
pub taken-is-sound : (file : List ℕ) → sound_file file ≡ true → SoundFile file
taken-is-sound file t = record { headed = sound-header file t; events = events-told (length (page_bytes file)) (entries (event_bytes file)) (sound-events file t) }

-- and what is sound it takes
pub sound-is-taken : (file : List ℕ) → SoundFile file → sound_file file ≡ true
unfolding sound_file
sound-is-taken file s =
    both (headed file) (all_sound (length (page_bytes file)) (entries (event_bytes file))) (headed-so file s.headed) (events-sound (length (page_bytes file)) (entries (event_bytes file)) s.events)
