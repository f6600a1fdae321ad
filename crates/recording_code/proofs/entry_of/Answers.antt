use Rattle.recording.specs.Entries.{entry_of}
use Rattle.recording_code.proofs.entry_of.Goals as goal

pub returns : goal.returns
unfolding entry_of
returns c = simp (c.word_at-3.ensures.0, c.word_at-2.ensures.0, c.word_at.ensures.0, c.byte_at-2.ensures, c.byte_at.ensures)
