use mathlib.Core.List.{append_assoc, append-nil}
use Rattle.wire.specs.Parts.{joined}
use Rattle.text_code.proofs.Telling.{and-then}
use Rattle.claim_code.proofs.put_columns.Goals as goal

pub returns : goal.returns
unfolding joined
returns c = simp (c.put_spaced-4.ensures, c.put_spaced-3.ensures, c.put_spaced-2.ensures, c.put_spaced.ensures, and-then, append_assoc, append-nil)
