use Rattle.std.specs.Prelude.{Option, Some, Ok}
use Prim.Native.Nat.{ℕ, ◌+◌, ◌≤◌, ◌-◌}
use native.Mathlib.Nat.{pos_of_ne-zero}
use native.Mathlib.Omega.{arith}
use mathlib.Core.List.{List}
use mathlib.Core.Path.{◌≡◌, sym, ◌∙◌}
use lib.ListN.{length, drop, length-drop, length-take}
use borrow.Author.Tests.{lt-ltb, eqb-true, eqb-false}
use Rattle.wire.specs.Numbers.{word_at}
use Rattle.wire.specs.Rules.{breach}
use Rattle.wire.specs.Tried.{tried}
use Rattle.wire.proofs.Stores.{part-rest}
use Rattle.wire.proofs.Tried.{tried-broken, tried-held}
use Rattle.kad.specs.Reading.{descriptor_head, descriptor_rules, type_of, most}
use Rattle.kad.proofs.Reading.{rules-under, room, reading-nil, reading-cons, reading-le}
use Rattle.kad_code.proofs.+read_from.Goals as goal

-- where the length is read, the descriptor lies within the list and its data has room
fits : (list : List ℕ) (seen : Option ℕ) (n : ℕ) → tried (descriptor_rules list seen) ≡ Ok tt → n ≡ word_at list 2 → (descriptor_head + n ≤ length list) × (n ≤ most (type_of list))
fits list seen n e read = rw read (room list seen (omega (arith, tried-held (descriptor_rules list seen) descriptor_head e)))

-- the data of the descriptor has its length
back-four : (n : ℕ) → descriptor_head + n - descriptor_head ≡ n
back-four n = omega arith

pub returns-then-is_empty : goal.returns-then-is_empty
returns-then-is_empty t c = sym (reading-nil c.args.list.now c.args.seen c.args.kads (eqb-true _ _ (sym c.is_empty.ensures ∙ c.if-is_empty.true)))

pub returns-in-Err : goal.returns-in-Err
returns-in-Err t c =
    let a = c.args in
    let some : length a.list.now ≡ 0 → ⊥ = eqb-false _ _ (sym c.is_empty.ensures ∙ c.if-is_empty.false) in
    let b = tried-broken _ descriptor_head _ (rules-under a.list.now a.seen) (sym c.check_descriptor.ensures ∙ c.in-Err.is) in
    simp (reading-cons a.list.now a.seen a.kads (pos_of_ne-zero some), b.0, lt-ltb _ _ b.1)

pub slice_bounds-with_data-end : goal.slice_bounds-with_data-end
slice_bounds-with_data-end t c = (fits c.args.list.now c.args.seen _ (sym c.check_descriptor.ensures ∙ c.in_default.is) c.word_at-next.ensures.0).0

pub with_data-more-requires : goal.with_data-more-requires
with_data-more-requires t c =
    let w = fits c.args.list.now c.args.seen _ (sym c.check_descriptor.ensures ∙ c.in_default.is) c.word_at-next.ensures.0 in
    simp (length-take, length-drop) (omega (arith, w.0, w.1))

pub slice_bounds-read_from-count : goal.slice_bounds-read_from-count
slice_bounds-read_from-count t c = (fits c.args.list.now c.args.seen _ (sym c.check_descriptor.ensures ∙ c.in_default.is) c.word_at-next.ensures.0).0

pub slice_bounds-read_from-start : goal.slice_bounds-read_from-start
slice_bounds-read_from-start t c = (fits c.args.list.now c.args.seen _ (sym c.check_descriptor.ensures ∙ c.in_default.is) c.word_at-next.ensures.0).0

pub overflow_add-result : goal.overflow_add-result
overflow_add-result t c =
    let list = c.args.list.now in
    let w = fits list c.args.seen _ (sym c.check_descriptor.ensures ∙ c.in_default.is) c.word_at-next.ensures.0 in
    let n = descriptor_head + c.word_at-next.result in
    let le : c.read_from-rest.result.good ≤ length list - n = rw (c.read_from-rest.ensures, part-rest, ← length-drop n list) (reading-le (drop n list) (Some (type_of list)) c.with_data-more.result) in
    omega (arith, w.0)

pub returns : goal.returns
returns t c =
    let a = c.args in
    let some : length a.list.now ≡ 0 → ⊥ = eqb-false _ _ (sym c.is_empty.ensures ∙ c.if-is_empty.false) in
    let none : breach (descriptor_rules a.list.now a.seen) descriptor_head ≡ descriptor_head = tried-held (descriptor_rules a.list.now a.seen) descriptor_head (sym c.check_descriptor.ensures ∙ c.in_default.is) in
    simp (reading-cons a.list.now a.seen a.kads (pos_of_ne-zero some), none, c.read_from-rest.ensures, c.with_data-more.ensures, c.word_at-next.ensures.0, part-rest, back-four)
