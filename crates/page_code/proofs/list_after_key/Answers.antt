use mathlib.Core.Path.{sym, ◌∙◌}
use native.Mathlib.Omega.{arith}
use Rattle.page.specs.Fields.{list_of}
use Rattle.page_code.proofs.list_after_key.Goals as goal

pub returns-then-is_encrypt : goal.returns-then-is_encrypt
unfolding list_of
returns-then-is_encrypt c = let f = c in (simp (sym f.is_encrypt.ensures ∙ f.if-is_encrypt.true) c.read.ensures.0, c.read.ensures.1)

pub returns : goal.returns
unfolding list_of
returns c = (simp (sym c.is_encrypt.ensures ∙ c.if-is_encrypt.false), omega arith)
