use mathlib.Core.Path.{ap₂}
use Prim.Native.Nat.{ℕ}
use Rattle.device.specs.Record.{set_at}
use Rattle.device.specs.declared.Nexus.{Nexus}
use Rattle.device.proofs.Selecting.{found}
use Rattle.device_16.specs.Model.{state}
use Rattle.calls_16.proofs.look.Goals as goal

pub returns : goal.returns
returns c =
    let a = c.args in
    let s = state a.d in
    let nexus = c.nexus_at-nexus.ensures in
    let place = found s a.n _ _ nexus c.place_of-place.ensures.0 in
    ap₂ (λ (x : Nexus) (p : ℕ). record { nexus = x; set = set_at s p }) nexus place
