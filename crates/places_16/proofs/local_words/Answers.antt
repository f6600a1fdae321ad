use mathlib.Core.Bool.{true, not}
use native.Mathlib.Omega.{arith}
use lib.Dec.{lit≤}
use lib.ListN.{get_or}
use Prim.Native.Nat.{◌-◌}
use Rattle.arrays.proofs.Words.{word_fits}
use Rattle.device.specs.Record.{no_set, empty}
use Rattle.places_16.proofs.local_words.Goals as goal

pub overflow_mul-empty : goal.overflow_mul-empty
overflow_mul-empty c = let inv = c.loop-place.invariant in omega (arith, word_fits inv.1 inv.0 32 (lit≤ tt) true)

pub overflow_add-empty : goal.overflow_add-empty
overflow_add-empty c =
    let inv = c.loop-place.invariant in
    omega (arith, word_fits inv.1 inv.0 32 (lit≤ tt) (empty (get_or c.args.d.sets (c.loop-place.place - 1) no_set)))

pub overflow_mul-unlocked : goal.overflow_mul-unlocked
overflow_mul-unlocked c = let inv = c.loop-place.invariant in omega (arith, word_fits inv.2 inv.0 32 (lit≤ tt) true)

pub overflow_add-unlocked : goal.overflow_add-unlocked
overflow_add-unlocked c = let inv = c.loop-place.invariant in omega (arith, word_fits inv.2 inv.0 32 (lit≤ tt) (not c.if-owner-lt-NEXUSES.locked))

pub overflow_mul-result : goal.overflow_mul-result
overflow_mul-result c = let inv = c.loop-place.invariant in omega (arith, word_fits inv.1 inv.0 32 (lit≤ tt) true)

pub overflow_mul-result-2 : goal.overflow_mul-result-2
overflow_mul-result-2 c = let inv = c.loop-place.invariant in omega (arith, word_fits inv.2 inv.0 32 (lit≤ tt) true)
