-- What a session gives, by its verdict.
-- Assumes nothing.
use Prim.Native.Nat.{ℕ}
use mathlib.Core.Path.{◌≡◌, refl, sym}
use mathlib.Core.Bool.{false}
use mathlib.Core.List.{List}
use Rattle.wire.specs.Buffers.{shown}
use Rattle.device.specs.Record.{State}
use Rattle.device.specs.Words.{with_words}
use Rattle.device_16.specs.Model.{record_of}
use Rattle.device_16.specs.declared.Record.{Record}
use Rattle.drive.specs.Calls.{Call}
use Rattle.drive.specs.Runs.{run_from}
use Rattle.recording.specs.Verdicts.{is_taken}
use Rattle.recording.specs.declared.Verdict.{Verdict}
use Rattle.recording.specs.declared.Verdict.TheVariants.{Done}
use Rattle.session.specs.Answers.{answer_bytes}
use Rattle.session_16.specs.Sessions.{Gives}

module _ (s : State) (calls : List Call) (buffer : List ℕ) {verdict : Verdict} where
  -- a refused session leaves the record and the buffer
  pub gives-refused : {refused : Verdict} → verdict ≡ refused → is_taken refused ≡ false → {x : Record} → x ≡ record_of (with_words s) → Gives verdict s calls buffer (record { after = x; verdict = refused }) buffer
  gives-refused e r f = record { ran = rw (e, f) (sym (simp r)); told = rw e (sym (simp r)) }

  -- any other is run
  pub gives-done : verdict ≡ Done → {x : Record} {end : List ℕ} → x ≡ record_of (with_words (run_from s calls)) → end ≡ shown (answer_bytes s calls) buffer
      → Gives verdict s calls buffer (record { after = x; verdict = Done }) end
  gives-done e f g = record { ran = rw (e, f) refl; told = rw e g }
