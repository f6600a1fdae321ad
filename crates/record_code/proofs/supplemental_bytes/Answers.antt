use mathlib.Core.Path.{◌≡◌, refl}
use mathlib.Core.List.{[], ◌∷◌}
use borrow.Author.Rules.{rules}
use native.Mathlib.Omega.{arith}
use lib.ListN.{length, replicate}
use Rattle.parameters.specs.Fields.{supplemental_size}
use Rattle.wire.proofs.Filling.{fill-starts, fill_more, fill-ends}
use Rattle.record_code.proofs.supplemental_bytes.Goals as goal

pub returns : goal.returns
returns c =
    let s = c.args.s in
    let sized : length s.keys ≡ supplemental_size = search rules in
    fill-ends (fill_more (fill_more (fill-starts (replicate 129 0)) (s.count ∷ []) c.put.ensures 1 refl) s.keys c.put-2.ensures 129 (omega arith)) refl
