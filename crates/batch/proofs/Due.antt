-- When a batch is answered 18, 22 and 0.
-- Assumes nothing.
use Prim.Native.Nat.{ℕ, ◌*◌, ◌%◌}
use mathlib.Core.Path.{◌≡◌, ap, ◌∙◌}
use mathlib.Core.Bool.{Bool, true, false, ◌||◌, or-true}
use mathlib.Core.List.{List}
use borrow.Author.Tests.{lt-ltb, le-ltb, eq-eqb, eqb-true}
use lib.Dec.{ltb, eqb}
use lib.ListN.{length}
use Rattle.arrays.specs.Base.{when◌then◌else◌}
use Rattle.arrays.proofs.Base.{cases, both, and_left, and_right, if-true, if-false}
use Rattle.recording.specs.Verdicts.{verdict_number}
use Rattle.recording.specs.Entries.{entries, all_sound}
use Rattle.recording.specs.declared.Verdict.TheVariants.{Done, BatchNotTaken, RecordingWrong}
use Rattle.recording.proofs.Exactly.{events-told, events-sound}
use Rattle.batch.specs.Batches.{events_most, event_count, is_too_much, sound_batch, batch_verdict}
use Rattle.batch.specs.Due.{Room, SoundBatch, BatchDue}

module _ (events pages : List ℕ) (room : ℕ) where
  -- the verdict where too much is asked, and where it isn't
  pub much-refused : is_too_much events room ≡ true → batch_verdict events pages room ≡ BatchNotTaken
  much-refused t = if-true (is_too_much events room) BatchNotTaken _ t

  room-enough : Room events room → is_too_much events room ≡ false
  room-enough r = simp (le-ltb events_most (event_count events) r.few, le-ltb room (4 * event_count events) r.holds)

  pub room-judged : Room events room → batch_verdict events pages room ≡ (when sound_batch events pages then Done else RecordingWrong)
  room-judged r = if-false (is_too_much events room) BatchNotTaken _ (room-enough r)

  -- sound as it is worded, and as it is tested
  sound-told : sound_batch events pages ≡ true → SoundBatch events pages
  sound-told t = record {
    whole = eqb-true _ _ (and_left (eqb (length events % 8) 0) (all_sound (length pages) (entries events)) t);
    each = events-told (length pages) (entries events) (and_right (eqb (length events % 8) 0) (all_sound (length pages) (entries events)) t);
  }

  sound-tested : SoundBatch events pages → sound_batch events pages ≡ true
  sound-tested s = both (eqb (length events % 8) 0) (all_sound (length pages) (entries events)) (eq-eqb _ _ s.whole) (events-sound (length pages) (entries events) s.each)

  -- a batch is taken
  pub room-taken : Room events room → SoundBatch events pages → batch_verdict events pages room ≡ Done
  room-taken r s = room-judged r ∙ if-true (sound_batch events pages) Done RecordingWrong (sound-tested s)

  -- or is refused for what its bytes hold
  room-wrong : Room events room → (SoundBatch events pages → ⊥) → batch_verdict events pages room ≡ RecordingWrong
  room-wrong r f =
      cases (sound_batch events pages)
      (λ t. absurd (f (sound-told t)))
      (λ u. room-judged r ∙ if-false (sound_batch events pages) Done RecordingWrong u)

  -- Each verdict is due where document 02 says.
  pub batch-due : BatchDue events pages room
  batch-due = record {
    many = λ h. ap verdict_number (much-refused (simp (lt-ltb events_most (event_count events) h)));
    short = λ h. ap verdict_number (much-refused (ap (λ (b : Bool). ltb events_most (event_count events) || b) (lt-ltb room (4 * event_count events) h) ∙ or-true (ltb events_most (event_count events))));
    wrong = λ r f. ap verdict_number (room-wrong r f);
    taken = λ r s. ap verdict_number (room-taken r s);
  }
