use Prim.Native.Nat.{◌/◌}
use native.Mathlib.Nat.{div-one}
use lib.Bits.{and_mask}
use Rattle.page_code.proofs.set_byte_4.Goals as goal

pub returns : goal.returns
returns c = let b = c.args.b in simp (and_mask (b / 32) 3, and_mask (b / 2) 4, and_mask b 1, div-one b)
