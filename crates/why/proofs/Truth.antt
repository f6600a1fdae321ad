-- Document 02, request 8: "The reason must be the true one", of a recording.
-- Assumes nothing.
use Prim.Native.Nat.{ℕ, ◌+◌, ◌*◌, ◌≤◌, ◌<◌, ◌^◌}
use mathlib.Core.Path.{◌≡◌, refl, sym, ap, subst, ◌∙◌}
use mathlib.Core.Bool.{Bool, true}
use mathlib.Core.List.{List}
use native.Mathlib.Omega.{arith}
use native.Mathlib.Nat.{mul-le-mul_left}
use lib.ListN.{length, take, length-take}
use lib.Seq.{get_or-take}
use Rattle.wire.proofs.Bytes.{Below}
use Rattle.drive.specs.Calls.{Call, power_up}
use Rattle.recording.specs.Entries.{entry_of}
use Rattle.recording.specs.Files.{header, event_bytes, sound_file, calls_of}
use Rattle.recording.proofs.Files.{sound-count}
use Rattle.why.specs.Causes.{cause_of}
use Rattle.why.specs.Reasons.{event_at, why}
use Rattle.why.specs.Truths.{TrueReason}
use Rattle.why.proofs.Reasons.{why-taken}
use Rattle.why.proofs.Stoppers.{stopper-true, kind-recorded}
use Rattle.why.proofs.Raisers.{another-raised, vendor-raised, used-told, unusable-told, bare-told, modeless-told}

-- The reason that is given of a recording after so many events is the true one.
pub why-true : (nexuses places : ℕ) → 0 < nexuses → 0 < places → places + 2 ≤ 65536 → (file : List ℕ) → Below file → sound_file file ≡ true → (events : ℕ) → events ≤ (header file).event_count
    → (n : ℕ) (supported : Bool) → TrueReason nexuses places file events n supported (why nexuses places file events n supported)
unfolding cause_of entry_of
why-true nexuses places some room size file bytes sound events h n supported =
    subst (TrueReason nexuses places file events n supported) (why-taken nexuses places file events n supported sound h)
    (record {
      taken = refl;
      answered = refl;
      stopped = λ e. stopper-true nexuses places some room calls few n supported e;
      anothers = λ e. another-raised nexuses places room calls few n supported e;
      vendors = λ e. vendor-raised nexuses places room calls few n supported e;
      used = λ e. used-told nexuses places n supported calls e;
      unusable = λ e. unusable-told nexuses places n supported calls e;
      bare = λ e. bare-told nexuses places n supported calls e;
      modeless = λ a b. modeless-told nexuses places n supported calls a b;
      unrecorded = λ e. (ap (λ f. (event_at (event_bytes file) f).kind) e, ap (λ f. (event_at (event_bytes file) f).nexus) e);
      recorded = λ position e within. (
        ap (λ f. (event_at (event_bytes file) f).kind) e,
        ap (λ f. (event_at (event_bytes file) f).nexus) e,
        kind-recorded file sound position (omega (arith, within, h)) ∙ sym (get_or-take events (calls_of file) position power_up within),
      );
    })
  where
    calls : List Call
    calls = take events (calls_of file)

    few : (places + 2) * length calls < 2 ^ 32
    few =
        let short : length calls ≤ 65535 = omega (arith, length-take events (calls_of file), sound-count file sound, bytes 0, bytes 1) in
        let most = mul-le-mul_left (places + 2) short in
        omega (arith, most, size)
