use Rattle.recording_code.proofs.header_of.Goals as goal

pub returns : goal.returns
returns c = simp (c.word_at-4.ensures.0, c.word_at-3.ensures.0, c.word_at-2.ensures.0, c.word_at.ensures.0)
