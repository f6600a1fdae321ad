use Prim.Native.Nat.{◌+◌, ◌-◌}
use mathlib.Core.Path.{◌≡◌}
use native.Mathlib.Omega.{arith}
use Rattle.wire.proofs.Stores.{sets-fitting}
use Rattle.wire_code.proofs.put.Goals as goal

pub returns : goal.returns
returns c =
    let from = c.min-from.result in
    let size = c.min-size.result in
    let e : from + size - from ≡ size = omega arith in
    rw (e, c.copy_from_slice.ensures.after) (sets-fitting c.args.buffer.now c.args.part.now c.args.at from size c.min-from.ensures c.min-size.ensures)
