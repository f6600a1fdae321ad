use Rattle.words_16.proofs.with_words.Goals as goal

pub returns : goal.returns
returns c = simp c.words_of.ensures
