-- The rules of a status page in plain relations.
-- Assumes nothing.
use Rattle.std.specs.Prelude.{None}
use mathlib.Core.List.{List}
use Prim.Native.Nat.{ℕ}
use lib.ListN.{length, drop}
use Rattle.arrays.specs.Base.{Exactly}
use Rattle.arrays.proofs.Base.{exactly-or, exactly-last, not-most, not_same}
use Rattle.wire.specs.Numbers.{byte_at, word_at}
use Rattle.wire.specs.Rules.{BreaksAt}
use Rattle.wire.proofs.Lowest.{rule-due, breaks-append, zeros-due}
use Rattle.kad.specs.Rules.{list_rules}
use Rattle.kad.proofs.Pointing.{list-faults}
use Rattle.status.specs.Bytes.{status_byte4, status_byte12}
use Rattle.status.specs.Pointing.{zeros, codes, every_head_rule, every_status_rule}
use Rattle.status.specs.Faults.{HeadFault, StatusFault}

module _ (p : List ℕ) (i : ℕ) where
  head-due : Exactly (BreaksAt i (every_head_rule p)) (HeadFault p i)
  unfolding every_head_rule
  head-due =
      exactly-or (rule-due i 0 (not_same (word_at p 0) 0x20))
      (exactly-or (rule-due i 4 (not_same (status_byte4 (byte_at p 4)).zeros 0))
      (exactly-or (rule-due i 12 (not_same (status_byte12 (byte_at p 12)).zeros 0))
      (breaks-append i (zeros p) (codes p) (zeros-due i 13 11 p)
      (exactly-or (rule-due i 4 (not-most (status_byte4 (byte_at p 4)).nexus_scope 2))
      (exactly-or (rule-due i 4 (not-most (status_byte4 (byte_at p 4)).set_scope 2))
      (exactly-or (rule-due i 5 (not-most (byte_at p 5) 2))
      (exactly-or (rule-due i 6 (not-most (byte_at p 6) 3)) (exactly-last (rule-due i 7 (not-most (byte_at p 7) 1))))))))))

  -- A rule of a status page breaks at a byte exactly if the page is wrong there as document 01 says, and 02 points to that byte.
  pub status-faults : Exactly (BreaksAt i (every_status_rule p)) (StatusFault p i)
  status-faults = breaks-append i (every_head_rule p) (list_rules (length (drop 24 p)) 24 (drop 24 p) None) head-due (list-faults (length (drop 24 p)) 24 (drop 24 p) None i)
