use Prim.Native.Nat.{◌≤◌}
use mathlib.Core.Path.{sym}
use native.Mathlib.Omega.{arith}
use lib.ListN.{length, get_or-eq_default}
use Rattle.device.specs.Record.{new_nexus}
use Rattle.device_16.proofs.nexus_of.Goals as goal

pub returns-else-n-lt-NEXUSES : goal.returns-else-n-lt-NEXUSES
returns-else-n-lt-NEXUSES c = let h : length c.args.nexuses ≤ c.args.n = omega arith in sym (get_or-eq_default c.args.nexuses new_nexus h)
