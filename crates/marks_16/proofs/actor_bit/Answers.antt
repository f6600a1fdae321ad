use borrow.Author.Rules.{rules}
use borrow.Author.Tests.{lt-ltb, le-ltb}
use Prim.Native.Nat.{◌<◌}
use mathlib.Core.Path.{sym, ap, ◌∙◌}
use native.Mathlib.Omega.{arith}
use Rattle.arrays.proofs.Base.{if-true, if-false}
use Rattle.arrays.proofs.Sorting.{shifted_one}
use Rattle.sizes_16.specs.Sizes.{nexus_count}
use Rattle.marks.specs.Parts.{actor_bit}
use Rattle.marks_16.proofs.actor_bit.Goals as goal

pub returns-then-m-lt-NEXUSES : goal.returns-then-m-lt-NEXUSES
returns-then-m-lt-NEXUSES c =
    let m = c.in-Some.m in
    let few : m < nexus_count = search rules in
    shifted_one 64 m (omega (arith, few)) ∙ sym (ap (actor_bit nexus_count) c.in-Some.is ∙ if-true _ _ _ (lt-ltb m nexus_count few))

pub returns-else-m-lt-NEXUSES : goal.returns-else-m-lt-NEXUSES
returns-else-m-lt-NEXUSES c =
    let m = c.in-Some.m in
    sym (ap (actor_bit nexus_count) c.in-Some.is ∙ if-false _ _ _ (le-ltb m nexus_count (search rules)))
