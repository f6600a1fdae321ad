use borrow.Author.Rules.{rules}
use Prim.Native.Nat.{ℕ}
use mathlib.Core.Path.{refl, sym, ◌∙◌}
use Rattle.arrays.proofs.Loops.{rewrite-starts, rewrite-more', rewrite-ends}
use Rattle.sizes_16.specs.Sizes.{place_count, nexus_count}
use Rattle.wire.specs.Numbers.{wide}
use Rattle.record.specs.Bytes.{words_from, word_size}
use Rattle.wire.proofs.Parts.{parts-made}
use Rattle.record_16.proofs.words_read.Goals as goal

pub loop-place-init : goal.loop-place-init
loop-place-init c = rewrite-starts refl

pub loop-place-preserved : goal.loop-place-preserved
loop-place-preserved c = rewrite-more' c.loop-place.invariant (search rules) 0 c.word_at.ensures

pub returns : goal.returns
returns c = rewrite-ends c.loop-place.invariant (search rules) ∙ sym (parts-made wide word_size {B = ℕ} 0 c.args.bytes.now (words_from nexus_count place_count) place_count)
