use Rattle.std.proofs.Common.{◌≡◌, ◌+◌, drop}
use Rattle.wire.specs.Rules.{zero_rules}
use Rattle.pointing.specs.Faulted.{faulted}
use Rattle.pointing_code.proofs.check_zeros.Given as goal

-- the bytes passed hold, and the others decide
abbrev pub invariant-loop-i : goal.invariant-loop-i
invariant-loop-i l = faulted (zero_rules l.from l.bytes) ≡ faulted (zero_rules (l.from + l.i) (drop l.i l.bytes))
