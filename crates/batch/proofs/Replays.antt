-- A batch, and the file made of it.
-- Assumes nothing.
use Prim.Native.Nat.{ℕ, ◌+◌, ◌*◌, ◌/◌, ◌%◌, ◌<◌}
use mathlib.Core.Path.{◌≡◌, sym, ap, ap₂, ◌∙◌}
use mathlib.Core.Bool.{Bool, true, ◌&&◌}
use mathlib.Core.List.{List}
use native.Mathlib.Omega.{arith}
use borrow.Author.Tests.{eq-eqb}
use lib.ListN.{length}
use Rattle.arrays.specs.Base.{when◌then◌else◌}
use Rattle.arrays.proofs.Base.{if-map}
use Rattle.wire.specs.Buffers.{shown}
use Rattle.device.specs.Record.{State}
use Rattle.device.specs.WellFormed.{well_formed}
use Rattle.device.specs.Words.{Worded, with_words}
use Rattle.drive.specs.Calls.{Call}
use Rattle.drive.specs.Runs.{run_from}
use Rattle.recording.specs.Verdicts.{is_taken}
use Rattle.recording.specs.Entries.{entries, all_sound, calls}
use Rattle.recording.specs.Files.{file_verdict, calls_of, file_of}
use Rattle.recording.specs.declared.Verdict.{Verdict}
use Rattle.recording.specs.declared.Verdict.TheVariants.{Done, RecordingWrong}
use Rattle.recording.proofs.Made.{made-sound, made-calls}
use Rattle.session.specs.Sessions.{record_after, buffer_after}
use Rattle.session.specs.Records.{record_after_of, buffer_after_of}
use Rattle.session.proofs.Records.{formed-answers}
use Rattle.kept.proofs.Records.{words-after}
use Rattle.batch.specs.Batches.{batch_verdict, batch_record, batch_buffer}
use Rattle.batch.specs.Due.{Room}
use Rattle.batch.proofs.Due.{room-judged}

-- the same verdict, record and buffer as those of the file's session, from the same record
pub record AsFile (r : Worded) (events pages buffer file : List ℕ) : Type 0 where
  pub verdict : batch_verdict events pages (length buffer) ≡ file_verdict file
  pub left : batch_record r events pages buffer ≡ record_after_of (file_verdict file) r (calls_of file)
  pub told : batch_buffer r events pages buffer ≡ buffer_after_of (file_verdict file) r (calls_of file) buffer

-- Whole events, at most 64, with room for their answers, and few enough bytes for a file: sound or not, the batch equals the file made of it.
pub batch-as-file : (r : Worded) (events pages buffer : List ℕ) → length events % 8 ≡ 0 → Room events (length buffer) → 8 + length events + length pages < 65536
    → AsFile r events pages buffer (file_of events pages)
batch-as-file r events pages buffer whole room small =
    let file = file_of events pages in
    let n = length events / 8 in
    let eights : length events ≡ 8 * n = omega (arith, whole) in
    let fits : 8 + 8 * n + length pages < 65536 = omega (arith, small, eights) in
    let same : batch_verdict events pages (length buffer) ≡ file_verdict file =
    room-judged events pages (length buffer) room
    ∙ ap (λ (b : Bool). when b && all_sound (length pages) (entries events) then Done else RecordingWrong) (eq-eqb _ _ whole)
    ∙ ap (λ (b : Bool). when b then Done else RecordingWrong) (sym (made-sound events pages n eights fits)) in
    let made : calls events pages ≡ calls_of file = sym (made-calls events pages n eights fits) in
    record {
      verdict = same;
      left = ap₂ (λ (v : Verdict) (l : List Call). record_after_of v r l) same made;
      told = ap₂ (λ (v : Verdict) (l : List Call). buffer_after_of v r l buffer) same made;
    }

-- the verdict, record and buffer of request 3's session of that file, each word being what the scopes say
pub record AsSession (s : State) (events pages buffer file : List ℕ) : Type 0 where
  pub verdict : batch_verdict events pages (length buffer) ≡ file_verdict file
  pub left : batch_record (with_words s) events pages buffer ≡ with_words (record_after (file_verdict file) s (calls_of file))
  pub told : batch_buffer (with_words s) events pages buffer ≡ buffer_after (file_verdict file) s (calls_of file) buffer

module _ (s : State) (nexuses : 0 < length s.nexuses) (places : 0 < length s.sets) (w : well_formed s ≡ true) where
  formed-record : (verdict : Verdict) (calls : List Call) → record_after_of verdict (with_words s) calls ≡ with_words (record_after verdict s calls)
  formed-record verdict calls = ap (λ (x : Worded). when is_taken verdict then x else with_words s) (words-after calls s nexuses places w) ∙ sym (if-map with_words (is_taken verdict) (run_from s calls) s)

  -- From a well-formed record it equals that session.
  pub batch-as-session : (events pages buffer : List ℕ) → length events % 8 ≡ 0 → Room events (length buffer) → 8 + length events + length pages < 65536
      → AsSession s events pages buffer (file_of events pages)
  batch-as-session events pages buffer whole room small =
      let file = file_of events pages in
      let same = batch-as-file (with_words s) events pages buffer whole room small in
      record {
        verdict = same.verdict;
        left = same.left ∙ formed-record (file_verdict file) (calls_of file);
        told = same.told ∙ ap (λ (l : List ℕ). when is_taken (file_verdict file) then shown l buffer else buffer) (formed-answers s (calls_of file) nexuses places w);
      }
