-- Every record since power-on is well formed, so answer 1 is never due.
-- Assumes nothing.
use Prim.Native.Nat.{ℕ, ◌<◌}
use mathlib.Core.Path.{◌≡◌}
use mathlib.Core.Bool.{true}
use mathlib.Core.List.{List, [], ◌∷◌}
use native.Mathlib.Omega.{arith}
use lib.ListN.{length}
use Rattle.answer.specs.declared.Answer.TheVariants.{Done}
use Rattle.device.specs.Record.{State, power_on}
use Rattle.device.specs.WellFormed.{well_formed}
use Rattle.device.proofs.WellFormed.{power-on-well}
use Rattle.places.proofs.Lengths.{SameSize, power-places, power-nexuses}
use Rattle.drive.specs.Calls.{Call}
use Rattle.drive.specs.Checks.{record_check}
use Rattle.drive.specs.Effects.{effect}
use Rattle.drive.specs.After.{by_number, after}
use Rattle.drive.specs.Runs.{run_from, run}
use Rattle.drive.proofs.Effects.{formed-passes, effect-size}
use Rattle.kept.proofs.Calls.{call_kept}

-- ---- every call leaves as many nexuses and places

-- any call
pub call-size : (s : State) (call : Call) → SameSize s (after s call)
call-size s call = effect-size by_number s (effect s call)

-- ---- every sequence of calls

-- every call of a sequence leaves the record well formed
pub run-kept : (l : List Call) (s : State) → 0 < length s.nexuses → 0 < length s.sets → well_formed s ≡ true → well_formed (run_from s l) ≡ true
unfolding run_from
run-kept [] s n p w = w
run-kept (c ∷ l) s n p w =
    let same = call-size s c in
    run-kept l (after s c) (omega (arith, same.nexuses)) (omega (arith, same.places)) (call_kept s c n p w)

module _ (nexuses places : ℕ) (some : 0 < nexuses) (room : 0 < places) (l : List Call) where
  -- Since power-on every record is well formed.
  pub since-power-on : well_formed (run nexuses places l) ≡ true
  since-power-on = run-kept l (power_on nexuses places) nexuses-there places-there (power-on-well nexuses places (λ h. some))
    where
      nexuses-there : 0 < length (power_on nexuses places).nexuses
      nexuses-there = rw (power-nexuses nexuses places) some

      places-there : 0 < length (power_on nexuses places).sets
      places-there = rw (power-places nexuses places) room

  -- So answer 1 is never due.
  pub never-1 : (call : Call) → record_check (run nexuses places l) call ≡ Done
  never-1 call = formed-passes (run nexuses places l) call since-power-on
