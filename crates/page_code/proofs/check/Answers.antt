use mathlib.Core.Path.{sym, ap, ◌∙◌}
use borrow.Author.Tests.{eq-eqb, ne_eqb}
use Rattle.std.specs.Prelude.{Err}
use Rattle.page.specs.declared.SetByte4.{SetByte4}
use Rattle.page.specs.declared.SetByte5.{SetByte5}
use Rattle.page.specs.Check.{told, public_page}
use Rattle.page.proofs.Ruled.{short, open-wrong, open-right, blank, told-wrong}
use Rattle.page_code.proofs.check.Goals as goal

pub returns-then-is_length_wrong : goal.returns-then-is_length_wrong
returns-then-is_length_wrong c =
    let a = c.args in
    ap Err c.refusal_of.ensures
    ∙ sym (told-wrong _ (blank a.page.now a.scope a.mode a.count) _ (short a.page.now a.scope a.mode a.count (sym c.is_length_wrong.ensures ∙ c.if-is_length_wrong.true)))

pub returns-in-Err : goal.returns-in-Err
returns-in-Err c =
    let a = c.args in
    let wrong = open-wrong a.page.now a.scope a.mode a.count (sym c.is_length_wrong.ensures ∙ c.if-is_length_wrong.false) _ (sym c.in-Err.ensures) in
    ap Err c.refusal_of-in-Err.ensures ∙ sym (told-wrong _ (blank a.page.now a.scope a.mode a.count) _ wrong)

pub returns-then-byte4-eq-PUBLIC : goal.returns-then-byte4-eq-PUBLIC
unfolding public_page
returns-then-byte4-eq-PUBLIC c =
    let a = c.args in
    let opened = ap told (open-right a.page.now a.scope a.mode a.count (sym c.is_length_wrong.ensures ∙ c.if-is_length_wrong.false) (sym c.in_default.ensures)) in
    let scope = ap (λ (r : SetByte4). r.scope) c.set_byte_4-byte4.ensures in
    sym (opened ∙ simp (← scope, eq-eqb _ _ c.if-byte4-eq-PUBLIC.true, ← ap (λ (r : SetByte4). r.lock) c.set_byte_4-byte4.ensures))

pub returns-then-set_byte_5 : goal.returns-then-set_byte_5
returns-then-set_byte_5 c =
    let a = c.args in
    let opened = ap told (open-right a.page.now a.scope a.mode a.count (sym c.is_length_wrong.ensures ∙ c.if-is_length_wrong.false) (sym c.in_default.ensures)) in
    let scope = ap (λ (r : SetByte4). r.scope) c.set_byte_4-byte4.ensures in
    c.read_supplemental.ensures ∙ sym (opened ∙ simp (← scope, ne_eqb _ _ c.if-byte4-eq-PUBLIC.false, ← ap (λ (r : SetByte5). r.sdk) c.set_byte_5.ensures, c.if-set_byte_5.true))

pub returns : goal.returns
returns c =
    let a = c.args in
    let opened = ap told (open-right a.page.now a.scope a.mode a.count (sym c.is_length_wrong.ensures ∙ c.if-is_length_wrong.false) (sym c.in_default.ensures)) in
    let scope = ap (λ (r : SetByte4). r.scope) c.set_byte_4-byte4.ensures in
    c.read_set.ensures ∙ sym (opened ∙ simp (← scope, ne_eqb _ _ c.if-byte4-eq-PUBLIC.false, ← ap (λ (r : SetByte5). r.sdk) c.set_byte_5.ensures, c.if-set_byte_5.false))
