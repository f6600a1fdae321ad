use mathlib.Core.Path.{sym, ap, ◌∙◌}
use native.Mathlib.Nat.{add-sub_cancel_left}
use borrow.Author.Tests.{lt-leb, le-leb}
use Rattle.std.specs.Prelude.{Err}
use Rattle.page.proofs.Ruled.{supplemental-wrong, supplemental-key, supplemental-full, supplemental-right, supplemental-blank, told-right, told-wrong}
use Rattle.page_code.proofs.read_supplemental.Goals as goal

pub returns-in-Err : goal.returns-in-Err
returns-in-Err c =
    let a = c.args in
    let wrong = supplemental-wrong a.page.now c.requires a.scope a.mode a.count _ (sym c.in-Err.ensures) in
    ap Err c.refusal_of.ensures ∙ sym (told-wrong _ (supplemental-blank a.page.now a.scope a.mode a.count) _ wrong)

pub returns-then-count-ge-SUPPLEMENTAL_MOST : goal.returns-then-count-ge-SUPPLEMENTAL_MOST
returns-then-count-ge-SUPPLEMENTAL_MOST c =
    let a = c.args in
    let full = supplemental-full a.page.now c.requires a.scope a.mode a.count (sym c.in_default.ensures) (le-leb _ _ c.if-count-ge-SUPPLEMENTAL_MOST.true) in
    ap Err c.refusal_of-then-count-ge-SUPPLEMENTAL_MOST.ensures ∙ sym (told-wrong _ (supplemental-blank a.page.now a.scope a.mode a.count) _ full)

pub slice_bounds-padded-end : goal.slice_bounds-padded-end
slice_bounds-padded-end c =
    let a = c.args in
    rw c.word_at-start.ensures.0 (supplemental-key a.page.now c.requires a.scope a.mode a.count (sym c.in_default.ensures))

pub returns : goal.returns
returns c =
    let a = c.args in
    simp (c.set_byte_4.ensures, c.padded-fields.ensures, c.word_at-start.ensures.0, add-sub_cancel_left)
    (sym (told-right _ _ (supplemental-right a.page.now c.requires a.scope a.mode a.count (sym c.in_default.ensures) (lt-leb _ _ c.if-count-ge-SUPPLEMENTAL_MOST.false))))
