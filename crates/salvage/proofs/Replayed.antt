-- The new file replayed.
-- Assumes nothing.
use Prim.Native.Nat.{ℕ}
use mathlib.Core.Path.{◌≡◌, ap, ap₂, ◌∙◌}
use mathlib.Core.List.{List}
use Rattle.arrays.proofs.Base.{if-true}
use Rattle.wire.specs.Buffers.{shown}
use Rattle.device.specs.Record.{State}
use Rattle.drive.specs.Calls.{Call}
use Rattle.drive.specs.Runs.{run_from}
use Rattle.recording.specs.Entries.{calls}
use Rattle.recording.specs.Files.{page_bytes, sound_file, calls_of}
use Rattle.session.specs.Answers.{answer_bytes}
use Rattle.session.proofs.Replayed.{file-taken}
use Rattle.salvage.specs.Salvage.{kept_events, salvaged}
use Rattle.salvage.specs.Saved.{Salvageable, KeptReplayed}
use Rattle.salvage.proofs.Saved.{new-events, new-pages, saved}

module _ (file : List ℕ) (w : Salvageable file) where
  -- its calls are those of the kept events
  pub kept-calls : calls_of (salvaged file) ≡ calls (kept_events file) (page_bytes file)
  kept-calls = ap₂ (λ (events pages : List ℕ). calls events pages) (new-events file w) (new-pages file w)

  -- Replaying the new file gives the answers that the kept events give, and the record that they leave, from any record.
  pub kept-replayed : (s : State) (buffer : List ℕ) → KeptReplayed s file buffer
  kept-replayed s buffer =
      let t = file-taken s (salvaged file) buffer (saved file w).taken in
      record {
        taken = if-true (sound_file (salvaged file)) _ _ (saved file w).taken;
        told = t.told ∙ ap (λ (l : List Call). shown (answer_bytes s l) buffer) kept-calls;
        left = t.left ∙ ap (run_from s) kept-calls;
      }
