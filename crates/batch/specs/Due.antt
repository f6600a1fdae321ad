-- What is claimed of a batch's verdict (proofs/Due): document 02, request 5, in numbers and without a test. Lines of different numbers
-- exclude each other, and no case is left out, so each number is due exactly if one of its lines is.
use Rattle.std.specs.Prelude.{ℕ, ◌*◌, ◌/◌, ◌%◌, ◌≤◌, ◌<◌, ◌≡◌, List, length}
use Rattle.wire.specs.Parts.{Each}
use Rattle.recording.specs.Verdicts.{verdict_number}
use Rattle.recording.specs.Entries.{entries}
use Rattle.recording.specs.Soundness.{SoundEvent}
use Rattle.batch.specs.Batches.{batch_verdict}

-- at most 64 events, and room for their answers
pub record Room (events : List ℕ) (room : ℕ) : Type 0 where
  pub few : length events / 8 ≤ 64
  pub holds : 4 * (length events / 8) ≤ room

-- no part event is left over, and each event is sound
pub record SoundBatch (events pages : List ℕ) : Type 0 where
  pub whole : length events % 8 ≡ 0
  pub each : Each (SoundEvent (length pages)) (entries events)

pub record BatchDue (events pages : List ℕ) (room : ℕ) : Type 0 where
  pub many : 64 < length events / 8 → verdict_number (batch_verdict events pages room) ≡ 18
  pub short : room < 4 * (length events / 8) → verdict_number (batch_verdict events pages room) ≡ 18
  pub wrong : Room events room → (SoundBatch events pages → ⊥) → verdict_number (batch_verdict events pages room) ≡ 22
  pub taken : Room events room → SoundBatch events pages → verdict_number (batch_verdict events pages room) ≡ 0
