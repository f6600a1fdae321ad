-- What a batch leaves: of any record, well formed or not, and any buffer.
-- Assumes nothing.
use Prim.Native.Nat.{ℕ, ◌*◌, ◌/◌, ◌≤◌, ◌<◌}
use mathlib.Core.Path.{◌≡◌, refl, ap, ap₂, ◌∙◌}
use mathlib.Core.Bool.{false}
use mathlib.Core.List.{List, [], ◌++◌}
use native.Mathlib.Omega.{arith}
use lib.ListN.{length, get_or, take, drop, length-drop}
use lib.Seq.{take_all, take-append-le, drop-append-le, drop_at}
use Rattle.arrays.proofs.Base.{if-elim, if-false}
use Rattle.wire.specs.Parts.{joined, parts}
use Rattle.wire.proofs.Stores.{length-shown}
use Rattle.device.specs.Words.{Worded}
use Rattle.drive.specs.Calls.{Call}
use Rattle.drive.specs.Records.{answer_of, after_all}
use Rattle.recording.specs.Verdicts.{is_taken}
use Rattle.recording.specs.Entries.{calls}
use Rattle.recording.specs.declared.Verdict.{Verdict}
use Rattle.recording.specs.declared.Verdict.TheVariants.{Done}
use Rattle.recording.proofs.Entries.{length-calls}
use Rattle.session.specs.Answers.{four_of}
use Rattle.session.specs.Records.{answers_of, answer_bytes_of, record_after_of, buffer_after_of}
use Rattle.session.proofs.Records.{length-answers-of, answer-of-at}
use Rattle.batch.specs.Batches.{batch_verdict, batch_record, batch_buffer}
use Rattle.batch.specs.Due.{Room, SoundBatch}
use Rattle.batch.proofs.Due.{room-taken}

-- refused: the record and every byte of the buffer are as they were
pub record Untouched (r : Worded) (events pages buffer : List ℕ) : Type 0 where
  pub left : batch_record r events pages buffer ≡ r
  pub untold : batch_buffer r events pages buffer ≡ buffer

-- taken: as the same calls made one by one, in record and answers, and the bytes beyond the answers as they were
pub record AsOneByOne (r : Worded) (events pages buffer : List ℕ) : Type 0 where
  pub left : batch_record r events pages buffer ≡ after_all r (calls events pages)
  pub told : batch_buffer r events pages buffer ≡ answer_bytes_of r (calls events pages) ++ drop (4 * (length events / 8)) buffer

module _ (r : Worded) (events pages buffer : List ℕ) where
  pub batch-refused : is_taken (batch_verdict events pages (length buffer)) ≡ false → Untouched r events pages buffer
  batch-refused f = record { left = if-false _ (after_all r (calls events pages)) r f; untold = if-false _ _ buffer f }

  -- a buffer keeps its length
  pub length-batch : length (batch_buffer r events pages buffer) ≡ length buffer
  length-batch =
      if-elim (λ (l : List ℕ). length l ≡ length buffer) (is_taken (batch_verdict events pages (length buffer)))
      (λ t. length-shown (answer_bytes_of r (calls events pages)) buffer)
      (λ f. refl)

  -- four bytes an event
  pub length-told : length (answer_bytes_of r (calls events pages)) ≡ 4 * (length events / 8)
  length-told = length-answers-of r (calls events pages) ∙ ap (λ (n : ℕ). 4 * n) (length-calls pages events)

  module _ (room : Room events (length buffer)) (sound : SoundBatch events pages) where
    taken : batch_verdict events pages (length buffer) ≡ Done
    taken = room-taken events pages (length buffer) room sound

    pub batch-one-by-one : AsOneByOne r events pages buffer
    batch-one-by-one =
        let all = take_all (length buffer) (answer_bytes_of r (calls events pages)) (omega (arith, length-told, room.holds)) in
        record {
          left = ap (λ (v : Verdict). record_after_of v r (calls events pages)) taken;
          told =
              ap (λ (v : Verdict). buffer_after_of v r (calls events pages) buffer) taken
              ∙ ap₂ (λ (l : List ℕ) (n : ℕ). l ++ drop n buffer) all length-told;
        }

    -- The four bytes of each event are the answer that the drive gives it at that point.
    pub batch-answer-at : (i : ℕ) (none : Call) → i < length events / 8
        → take 4 (drop (4 * i) (batch_buffer r events pages buffer)) ≡ four_of (answer_of (after_all r (take i (calls events pages))) (get_or (calls events pages) i none))
    batch-answer-at i none h =
        let told = answer_bytes_of r (calls events pages) in
        let rest = drop (4 * (length events / 8)) buffer in
        let within : 4 * i ≤ length told = omega (arith, length-told) in
        let four : 4 ≤ length (drop (4 * i) told) = omega (arith, length-told, length-drop (4 * i) told) in
        ap (λ (l : List ℕ). take 4 (drop (4 * i) l)) batch-one-by-one.told
        ∙ ap (take 4) (drop-append-le (4 * i) told rest within)
        ∙ take-append-le 4 (drop (4 * i) told) rest four
        ∙ answer-of-at i r (calls events pages) none (omega (arith, length-calls pages events))

    -- "bytes beyond kept"
    pub batch-beyond : drop (4 * (length events / 8)) (batch_buffer r events pages buffer) ≡ drop (4 * (length events / 8)) buffer
    batch-beyond =
        ap (drop (4 * (length events / 8))) batch-one-by-one.told
        ∙ drop_at (answer_bytes_of r (calls events pages)) (drop (4 * (length events / 8)) buffer) (4 * (length events / 8)) length-told

-- "An empty batch changes nothing", and is taken, whatever the record, the page bytes and the buffer.
pub record Nothing (r : Worded) (pages buffer : List ℕ) : Type 0 where
  pub taken : batch_verdict [] pages (length buffer) ≡ Done
  pub left : batch_record r [] pages buffer ≡ r
  pub untold : batch_buffer r [] pages buffer ≡ buffer

pub empty-batch : (r : Worded) (pages buffer : List ℕ) → Nothing r pages buffer
unfolding parts after_all answers_of joined
empty-batch r pages buffer =
    let room : Room [] (length buffer) = record { few = omega arith; holds = omega arith } in
    let sound : SoundBatch [] pages = record { whole = refl; each = tt } in
    let same = batch-one-by-one r [] pages buffer room sound in
    record { taken = room-taken [] pages (length buffer) room sound; left = same.left; untold = same.told }
