use Prim.Native.Nat.{ℕ}
use mathlib.Core.Path.{ap, ◌∙◌}
use native.Mathlib.Omega.{arith}
use lib.ListN.{length, take, drop, length-drop}
use lib.Seq.{take_all}
use Rattle.recording.specs.Files.{header}
use Rattle.recording_code.proofs.pages_of.Goals as goal

pub returns : goal.returns
returns c =
    let file = c.args.file.now in
    let from = (header file).pages_from in
    c.part.ensures
    ∙ ap (λ (n : ℕ). take (length file) (drop n file)) c.word_at.ensures.0
    ∙ take_all (length file) (drop from file) (omega (arith, length-drop from file))
