use Rattle.recording.specs.Files.{headed}
use Rattle.recording_code.proofs.is_headed.Goals as goal

pub returns : goal.returns
unfolding headed
returns c = simp (c.word_at-2.ensures.0, c.word_at.ensures.0, c.word_at-from.ensures.0, c.word_at-count.ensures.0)
