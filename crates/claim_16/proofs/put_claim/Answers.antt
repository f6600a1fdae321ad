use Prim.Native.Nat.{◌*◌}
use mathlib.Core.Path.{ap, subst, ◌∙◌}
use native.Mathlib.Omega.{arith}
use Rattle.text.specs.Puts.{Put}
use Rattle.text.proofs.Puts.{put_then}
use Rattle.claim.specs.declared.Row.{Row}
use Rattle.claim.specs.Lines.{total_line, amount_of, claim_lines}
use Rattle.text_code.proofs.Telling.{text-read}
use Rattle.claim_16.proofs.put_claim.Goals as goal

pub overflow_mul-amount : goal.overflow_mul-amount
unfolding claim_lines
overflow_mul-amount c = let a = c in let e = ap (λ (x : Row). x.encrypted * a.args.rate) c.sum-total.ensures in omega (arith, e, a.requires.1)

pub returns : goal.returns
unfolding claim_lines
returns c =
    let rate = c.args.rate in
    let total = c.sum-total.ensures in
    let line = c.total_line.ensures in
    let text = text-read (total_line c.sum-total.result (amount_of rate c.sum-total.result)) line.0 (omega (arith, line.1)) ∙ ap (λ (x : Row). total_line x (amount_of rate x)) total in
    put_then c.put_rows-at.ensures.0
    (subst (λ t. Put c.put_rows-at.new.out c.put_rows-at.result t c.put_line.result c.put_line.new.out) text c.put_line.ensures)
