use mathlib.Core.Path.{◌≡◌, refl, sym, ap, ◌∙◌}
use mathlib.Core.List.{List}
use Prim.Native.Nat.{ℕ, ◌+◌, ◌-◌, ◌^◌, ◌<◌}
use native.Mathlib.Nat.{add-sub_cancel_left}
use native.Mathlib.Omega.{arith}
use lib.ListN.{length, take, drop}
use Rattle.std.specs.Prelude.{Err}
use Rattle.wire.proofs.Stores.{part-rest}
use Rattle.pointing.proofs.Faulted.{held, broken, broken_is}
use Rattle.answer.specs.Answers.{refusal_of}
use Rattle.answer.specs.declared.Answer.TheVariants.{FieldWrong}
use Rattle.kad.specs.declared.Listed.{Listed}
use Rattle.page.specs.Fields.{key_from, encryption_of, key_length_of, key_end, list_of, listed_of}
use Rattle.page.proofs.Ruled.{set-wrong, set-key, set-end, set-over, set-right, set-blank, told-right, told-wrong}
use Rattle.page_code.proofs.read_set.Goals as goal

-- the list is what stands after the key
after-key : (p : List ℕ) (word : ℕ) (r : Listed) → word ≡ key_length_of p → r ≡ list_of (encryption_of p) (take (length p - (key_from + word)) (drop (key_from + word) p)) → r ≡ listed_of p
after-key p word r w e = e ∙ ap (list_of (encryption_of p)) (part-rest p (key_from + word)) ∙ rw w

-- and ends there
ends : (p : List ℕ) (word : ℕ) (r : Listed) → word ≡ key_length_of p → r ≡ list_of (encryption_of p) (take (length p - (key_from + word)) (drop (key_from + word) p)) → key_from + word + r.good ≡ key_end p + (listed_of p).good
ends p word r w e = rw (after-key p word r w e, w) refl

pub returns-in-Err : goal.returns-in-Err
returns-in-Err c = let p = c.args.page.now in ap Err c.refusal_of.ensures ∙ sym (told-wrong _ (set-blank p) _ (set-wrong p c.requires _ (sym c.in-Err.ensures)))

pub slice_bounds-list_after_key-count : goal.slice_bounds-list_after_key-count
slice_bounds-list_after_key-count c = rw c.word_at-start.ensures.0 (set-key c.args.page.now c.requires (sym c.in_default.ensures)).1

pub slice_bounds-list_after_key-start : goal.slice_bounds-list_after_key-start
slice_bounds-list_after_key-start c = rw c.word_at-start.ensures.0 (set-key c.args.page.now c.requires (sym c.in_default.ensures)).1

pub overflow_cast-end : goal.overflow_cast-end
overflow_cast-end c =
    let p = c.args.page.now in
    let small : key_from + c.word_at-start.result + c.list_after_key-list.result.good < 2 ^ 16 = rw (ends p _ _ c.word_at-start.ensures.0 c.list_after_key-list.ensures.0) (set-end p c.requires (sym c.in_default.ensures)) in
    omega arith

pub returns-in-Err-check_rule : goal.returns-in-Err-check_rule
returns-in-Err-check_rule c =
    let p = c.args.page.now in
    let end = ends p _ _ c.word_at-start.ensures.0 c.list_after_key-list.ensures.0 in
    let over = set-over p c.requires (sym c.in_default.ensures) (rw (← end) (broken _ _ _ c.in-Err-check_rule.ensures)) in
    let is = broken_is _ _ _ c.in-Err-check_rule.ensures ∙ ap FieldWrong end in
    ap Err (c.refusal_of-in-Err-check_rule.ensures ∙ ap (λ a. refusal_of a) is) ∙ sym (told-wrong _ (set-blank p) _ over)

pub slice_bounds-padded-end : goal.slice_bounds-padded-end
slice_bounds-padded-end c = rw c.word_at-start.ensures.0 (set-key c.args.page.now c.requires (sym c.in_default.ensures)).1

pub returns : goal.returns
returns c =
    let p = c.args.page.now in
    let word = c.word_at-start.ensures.0 in
    let list = after-key p _ _ word c.list_after_key-list.ensures.0 in
    let end = ends p _ _ word c.list_after_key-list.ensures.0 in
    simp (c.set_byte_4-byte4.ensures, c.set_fields.ensures, c.padded-key.ensures, list, word, add-sub_cancel_left) (sym (told-right _ _ (set-right p c.requires (sym c.in_default.ensures) (rw (← end) (held _ _ c.in_default-check_rule.ensures)))))
