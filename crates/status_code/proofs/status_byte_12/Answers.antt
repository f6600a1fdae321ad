use Prim.Native.Nat.{◌/◌, ◌%◌}
use mathlib.Core.Path.{◌≡◌}
use native.Mathlib.Nat.{div-one}
use native.Mathlib.Omega.{arith}
use lib.Bits.{and_mask}
use Rattle.status_code.proofs.status_byte_12.Goals as goal

pub returns : goal.returns
returns c = let b = c.args.b in let e : b / 8 % 32 ≡ b / 8 = omega arith in simp (and_mask (b / 2) 2, and_mask b 1, e, div-one b)
