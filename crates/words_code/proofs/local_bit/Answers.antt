use native.Mathlib.Omega.{arith}
use Prim.Native.Nat.{◌%◌}
use mathlib.Core.Path.{◌∙◌, sym}
use Rattle.arrays.proofs.Base.{if-true, if-false}
use Rattle.arrays.proofs.Sorting.{shifted_one}
use Rattle.words_code.proofs.local_bit.Goals as goal

pub returns-then-set-nexuses : goal.returns-then-set-nexuses
returns-then-set-nexuses c = shifted_one 64 (c.args.set.owner % 64) (omega arith) ∙ sym (if-true _ _ 0 c.if-set-nexuses.true)

pub returns : goal.returns
returns c = sym (if-false _ _ 0 c.if-set-nexuses.false)
