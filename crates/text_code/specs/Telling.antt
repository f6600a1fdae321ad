-- A few lines made by value: no rule, but how the code makes a text.
use Rattle.std.specs.Prelude.{ℕ, ◌+◌, List, length, take}
use Rattle.std.proofs.lemmas.List.Edits.{sets}
use Rattle.wire.specs.Buffers.{padded}
use Rattle.text.specs.Decimal.{at_most}
use Rattle.text.specs.Making.{lines_most}
use Rattle.text_code.specs.declared.Lines.{Lines}

-- lines by themselves: their text, and zeros after it
unfoldable pub told_lines : List ℕ → Lines
told_lines text = record { bytes = padded lines_most text; length = length text }

-- a text more, as much of it as there is room for
unfoldable pub and_text : Lines → List ℕ → Lines
and_text lines text = record { bytes = sets lines.bytes lines.length text; length = at_most (length lines.bytes) (lines.length + length text) }

-- the text that lines have
abbrev pub text_of : Lines → List ℕ
text_of lines = take lines.length lines.bytes
