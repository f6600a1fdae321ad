use Prim.Native.Nat.{◌%◌}
use native.Mathlib.Omega.{arith}
use lib.Bits.{and_mask}
use Rattle.wire.proofs.Bits.{pack}
use Rattle.status_code.proofs.joined_4.Goals as goal

pub returns : goal.returns
returns c = let a = c.args.nexus_scope in let b = c.args.set_scope in rw (and_mask a 3, and_mask b 3) (pack 5 (a % 8) (b % 8) (omega arith) (omega arith))
