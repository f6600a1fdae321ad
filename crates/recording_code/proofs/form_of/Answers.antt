use mathlib.Core.Bool.{false}
use mathlib.Core.Path.{refl, sym}
use lib.ListN.{get_or-eq_default}
use Rattle.recording.specs.Forms.{form, forms, form_of}
use Rattle.recording_code.proofs.form_of.Goals as goal

pub returns-then-at-lt12 : goal.returns-then-at-lt12
unfolding form_of
returns-then-at-lt12 c = refl

pub returns : goal.returns
unfolding form_of
returns c = sym (get_or-eq_default forms (form 0 0 false) c.if-at-lt12.false)
