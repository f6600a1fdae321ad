use mathlib.Core.Path.{sym}
use Rattle.salvage.proofs.Due.{salvageable-by}
use Rattle.salvage_code.proofs.is_salvageable.Goals as goal

pub returns : goal.returns
returns c = simp c.word_at-from.ensures.0 (sym (salvageable-by c.args.file.now))
