use mathlib.Core.Path.{sym, ◌∙◌}
use Rattle.recording.specs.Files.{sound_file}
use Rattle.recording.proofs.Files.{sound-told}
use Rattle.recording_code.proofs.is_sound_file.Goals as goal

pub returns-then-not-is_headed : goal.returns-then-not-is_headed
unfolding sound_file
returns-then-not-is_headed c = sym (simp (← c.is_headed.ensures, c.if-not-is_headed.true))

pub returns : goal.returns
unfolding sound_file
returns c =
    let h = c in
    simp (c.sound_run.ensures, c.pages_of-pages.ensures, c.events_of-events.ensures.0)
    (sound-told h.args.file.now (sym h.is_headed.ensures ∙ c.if-not-is_headed.false))
