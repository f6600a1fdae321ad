use Prim.Native.Nat.{◌/◌}
use native.Mathlib.Nat.{div-one}
use lib.Bits.{and_mask}
use Rattle.page_code.proofs.set_byte_5.Goals as goal

pub returns : goal.returns
returns c =
    let b = c.args.b in
    simp (and_mask (b / 64) 2, and_mask (b / 16) 2, and_mask (b / 8) 1, and_mask (b / 4) 1, and_mask (b / 2) 1, and_mask b 1, div-one b)
