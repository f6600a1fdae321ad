use Prim.Native.Nat.{◌%◌}
use native.Mathlib.Omega.{arith}
use lib.Bits.{and_mask}
use Rattle.arrays.specs.Base.{bit}
use Rattle.arrays.proofs.Loops.{bit-few}
use Rattle.wire.proofs.Bits.{pack}
use Rattle.status_code.proofs.joined_12.Goals as goal

pub returns : goal.returns
returns c = let a = c.args.ceems in rw (and_mask a 2) (pack 1 (a % 4) (bit c.args.rdmd) (omega arith) (omega (arith, bit-few c.args.rdmd)))
