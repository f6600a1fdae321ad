-- A recording cut after k events.
-- Assumes nothing.
use Prim.Native.Nat.{ℕ, ◌*◌, ◌≤◌}
use mathlib.Core.Path.{◌≡◌, ap, ◌∙◌}
use mathlib.Core.Bool.{true}
use mathlib.Core.List.{List}
use lib.ListN.{take}
use Rattle.arrays.proofs.Base.{if-true}
use Rattle.wire.proofs.Bytes.{Below}
use Rattle.device.specs.Record.{State}
use Rattle.drive.specs.Runs.{run_from}
use Rattle.recording.specs.Files.{header, sound_file, file_verdict, calls_of, cut_after}
use Rattle.recording.specs.declared.Verdict.TheVariants.{Done}
use Rattle.recording.proofs.Made.{cut-sound, cut-calls}
use Rattle.session.specs.Answers.{answer_bytes}
use Rattle.session.proofs.OneByOne.{answers-take}

-- what replay makes of the first k events, with the header put right: it takes them, answers them as it answers them in the whole, and
-- leaves the record that they leave there
pub record CutAsWhole (s : State) (file : List ℕ) (k : ℕ) : Type 0 where
  pub taken : file_verdict (cut_after k file) ≡ Done
  pub told : answer_bytes s (calls_of (cut_after k file)) ≡ take (4 * k) (answer_bytes s (calls_of file))
  pub left : run_from s (calls_of (cut_after k file)) ≡ run_from s (take k (calls_of file))

pub cut-as-whole : (s : State) (file : List ℕ) → Below file → sound_file file ≡ true → (k : ℕ) → k ≤ (header file).event_count → CutAsWhole s file k
cut-as-whole s file bytes sound k h =
    let calls = cut-calls file bytes sound k h in
    record {
      taken = if-true (sound_file (cut_after k file)) _ _ (cut-sound file bytes sound k h);
      told = ap (answer_bytes s) calls ∙ answers-take k s (calls_of file);
      left = ap (run_from s) calls;
    }
