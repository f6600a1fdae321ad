use mathlib.Core.Path.{◌≡◌, refl, sym, ap, ◌∙◌}
use mathlib.Core.List.{List}
use Prim.Native.Nat.{ℕ, ◌+◌, ◌-◌}
use native.Mathlib.Nat.{le_of_eq}
use native.Mathlib.Omega.{arith}
use borrow.Author.Tests.{leb-true, leb-false}
use lib.ListN.{length, take, drop}
use Rattle.std.specs.Prelude.{Err}
use Rattle.wire.proofs.Stores.{part-rest}
use Rattle.pointing.proofs.Faulted.{within_under, first-broken, none-broken, held, broken, broken_is, left}
use Rattle.kad.specs.Kad.{no_kads}
use Rattle.kad.specs.Reading.{read_kads}
use Rattle.kad.specs.declared.Listed.{Listed}
use Rattle.kad.proofs.Few.{list-few}
use Rattle.status.specs.Rules.{descriptors_from, head_rules}
use Rattle.status.specs.Reading.{ruled}
use Rattle.status.proofs.Reading.{refused-length, head-under, head-breaks, list-breaks, all-good}
use Rattle.status_code.proofs.read_values.Goals as goal

-- the list that is read is the rest of the page
rest_read : (p : List ℕ) (r : Listed) → r ≡ read_kads (take (length p - descriptors_from) (drop descriptors_from p)) → r ≡ read_kads (drop descriptors_from p)
rest_read p r e = e ∙ ap (λ (t : List ℕ). read_kads t) (part-rest p descriptors_from)

pub returns-then-is_length_wrong : goal.returns-then-is_length_wrong
returns-then-is_length_wrong c = sym (ap ruled (refused-length c.args.page.now (sym c.is_length_wrong.ensures ∙ c.if-is_length_wrong.true)))

pub returns-in_err-check_head : goal.returns-in_err-check_head
returns-in_err-check_head c =
    let p = c.args.page.now in
    let sized = sym c.is_length_wrong.ensures ∙ c.if-is_length_wrong.false in
    let first = first-broken (head_rules p) descriptors_from _ (within_under descriptors_from (head_rules p) (head-under p)) (sym c.in_err-check_head.ensures) in
    left _ _ c.from_residual.ensures.1 ∙ ap Err first.1 ∙ sym (ap ruled (head-breaks p sized _ refl first.0))

pub overflow_cast-end : goal.overflow_cast-end
overflow_cast-end c =
    let rest = take (length c.args.page.now - descriptors_from) (drop descriptors_from c.args.page.now) in
    omega (arith, ap (λ (r : Listed). r.good) c.read-list.ensures.0, list-few (length rest) rest no_kads)

pub returns-in_err-check_rule : goal.returns-in_err-check_rule
returns-in_err-check_rule c =
    let p = c.args.page.now in
    let sized = sym c.is_length_wrong.ensures ∙ c.if-is_length_wrong.false in
    let all = none-broken (head_rules p) descriptors_from (sym c.in_ok-check_head.ensures) in
    let end = ap (λ (r : Listed). descriptors_from + r.good) (rest_read p _ c.read-list.ensures.0) in
    left _ _ c.from_residual-in_err-check_rule.ensures.1 ∙ ap Err (broken_is _ _ _ c.in_err-check_rule.ensures)
    ∙ sym (ap ruled (list-breaks p sized _ _ refl (le_of_eq (sym all)) end (leb-false _ _ (broken _ _ _ c.in_err-check_rule.ensures))))

pub returns : goal.returns
returns c =
    let p = c.args.page.now in
    let sized = sym c.is_length_wrong.ensures ∙ c.if-is_length_wrong.false in
    let all = none-broken (head_rules p) descriptors_from (sym c.in_ok-check_head.ensures) in
    let list = rest_read p _ c.read-list.ensures.0 in
    let end = ap (λ (r : Listed). descriptors_from + r.good) list in
    simp (c.values_with.ensures, list) (sym (ap ruled (all-good p sized _ _ refl (le_of_eq (sym all)) end (leb-true _ _ (held _ _ c.in_ok-check_rule.ensures)))))
