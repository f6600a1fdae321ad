-- What replay makes of any file.
-- Assumes nothing.
use Prim.Native.Nat.{ℕ, zero, suc, ◌*◌, ◌<◌}
use mathlib.Core.Path.{◌≡◌, refl, ap, ◌∙◌}
use mathlib.Core.Bool.{true, false}
use mathlib.Core.List.{List, [], ◌∷◌}
use native.Mathlib.Nat.{not-suc-le-zero, le_of_suc-le-suc}
use native.Mathlib.Omega.{arith}
use lib.ListN.{length, get_or, take, drop}
use Rattle.arrays.proofs.Base.{if-true, if-false}
use Rattle.wire.specs.Parts.{joined}
use Rattle.wire.specs.Buffers.{shown}
use Rattle.device.specs.Record.{State}
use Rattle.drive.specs.Calls.{Call}
use Rattle.drive.specs.Checks.{answer}
use Rattle.drive.specs.After.{after}
use Rattle.drive.specs.Runs.{run_from}
use Rattle.recording.specs.Verdicts.{verdict_number}
use Rattle.recording.specs.Files.{header, sound_file, file_verdict, calls_of}
use Rattle.recording.specs.declared.Verdict.{Verdict}
use Rattle.recording.specs.declared.Verdict.TheVariants.{Done, RecordingWrong}
use Rattle.recording.proofs.Files.{sound-count}
use Rattle.session.specs.Answers.{four_of, answers_from, answer_bytes}
use Rattle.session.specs.Sessions.{record_after, buffer_after}
use Rattle.session.proofs.OneByOne.{length-answers}

-- a file that is refused: 22, the record and every byte of the buffer as they were
pub record Refused (s : State) (file buffer : List ℕ) : Type 0 where
  pub number : verdict_number (file_verdict file) ≡ 22
  pub left : record_after (file_verdict file) s (calls_of file) ≡ s
  pub untold : buffer_after (file_verdict file) s (calls_of file) buffer ≡ buffer

-- one that is taken: 0, the record that its events give in order, and four bytes for each of them
pub record Taken (s : State) (file buffer : List ℕ) : Type 0 where
  pub number : verdict_number (file_verdict file) ≡ 0
  pub left : record_after (file_verdict file) s (calls_of file) ≡ run_from s (calls_of file)
  pub told : buffer_after (file_verdict file) s (calls_of file) buffer ≡ shown (answer_bytes s (calls_of file)) buffer
  pub counted : length (answer_bytes s (calls_of file)) ≡ 4 * (header file).event_count

module _ (s : State) (file buffer : List ℕ) where
  pub file-refused : sound_file file ≡ false → Refused s file buffer
  file-refused f =
      let e : file_verdict file ≡ RecordingWrong = if-false (sound_file file) Done RecordingWrong f in
      record {
        number = ap verdict_number e;
        left = ap (λ (v : Verdict). record_after v s (calls_of file)) e;
        untold = ap (λ (v : Verdict). buffer_after v s (calls_of file) buffer) e;
      }

  pub file-taken : sound_file file ≡ true → Taken s file buffer
  file-taken t =
      let e : file_verdict file ≡ Done = if-true (sound_file file) Done RecordingWrong t in
      record {
        number = ap verdict_number e;
        left = ap (λ (v : Verdict). record_after v s (calls_of file)) e;
        told = ap (λ (v : Verdict). buffer_after v s (calls_of file) buffer) e;
        counted = length-answers s (calls_of file) ∙ ap (λ (n : ℕ). 4 * n) (sound-count file t);
      }

-- The four bytes of each event are the answer that the drive gives it at that point of the session.
pub answer_at : (i : ℕ) (s : State) (calls : List Call) (none : Call) → i < length calls
    → take 4 (drop (4 * i) (answer_bytes s calls)) ≡ four_of (answer (run_from s (take i calls)) (get_or calls i none))
unfolding run_from answers_from joined
answer_at i s [] none h = absurd (not-suc-le-zero h)
answer_at zero s (call ∷ later) none h = refl
answer_at (suc i) s (call ∷ later) none h =
    let e : 4 * suc i ≡ suc (suc (suc (suc (4 * i)))) = omega arith in
    ap (λ (n : ℕ). take 4 (drop n (answer_bytes s (call ∷ later)))) e ∙ answer_at i (after s call) later none (le_of_suc-le-suc h)
