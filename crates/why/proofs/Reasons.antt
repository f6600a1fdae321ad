-- When a reason is given, and when 22 or 19.
-- Assumes nothing.
use Prim.Native.Nat.{ℕ, ◌≤◌, ◌<◌}
use mathlib.Core.Path.{◌≡◌, sym, ap}
use mathlib.Core.Bool.{Bool, true, false}
use mathlib.Core.List.{List}
use lib.ListN.{take}
use borrow.Author.Tests.{le-leb, lt-leb}
use Rattle.arrays.specs.Base.{when◌then◌else◌}
use Rattle.recording.specs.Files.{header, event_bytes, sound_file, calls_of}
use Rattle.recording.specs.Verdicts.{is_taken}
use Rattle.recording.specs.declared.Verdict.{Verdict}
use Rattle.recording.specs.declared.Verdict.TheVariants.{Done, EventsAbove, RecordingWrong}
use Rattle.why.specs.Causes.{cause_of}
use Rattle.why.specs.Reasons.{why_verdict, no_reason, reason_by, why}

module _ (nexuses places : ℕ) (file : List ℕ) (events n : ℕ) (supported : Bool) where
  -- the reason with that verdict
  by-verdict : (v : Verdict) → why_verdict file events ≡ v
      → (when is_taken v then reason_by (event_bytes file) (cause_of nexuses places n supported (take events (calls_of file))) else no_reason v) ≡ why nexuses places file events n supported
  unfolding why
  by-verdict v e =
      ap (λ w. when is_taken w then reason_by (event_bytes file) (cause_of nexuses places n supported (take events (calls_of file))) else no_reason w) (sym e)

  -- 22 comes first
  pub why-wrong : sound_file file ≡ false → no_reason RecordingWrong ≡ why nexuses places file events n supported
  unfolding why_verdict
  why-wrong e = by-verdict RecordingWrong (simp e)

  -- then 19
  pub why-above : sound_file file ≡ true → (header file).event_count < events → no_reason EventsAbove ≡ why nexuses places file events n supported
  unfolding why_verdict
  why-above e h = by-verdict EventsAbove (simp (e, lt-leb events (header file).event_count h))

  -- any other has a reason
  pub why-taken : sound_file file ≡ true → events ≤ (header file).event_count
      → reason_by (event_bytes file) (cause_of nexuses places n supported (take events (calls_of file))) ≡ why nexuses places file events n supported
  unfolding why_verdict
  why-taken e h = by-verdict Done (simp (e, le-leb events (header file).event_count h))
