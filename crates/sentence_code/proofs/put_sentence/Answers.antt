use mathlib.Core.Path.{◌≡◌}
use mathlib.Core.Logic.{inl, inr}
use native.Mathlib.Omega.{arith}
use Rattle.std.proofs.lemmas.Grind.{common_steps}
use Rattle.answer.specs.Answers.{number_of}
use Rattle.sentence.specs.Telling.{sentence_by}
use Rattle.text.specs.Characters.{bytes_of}
use Rattle.sentence_code.proofs.put_sentence.Goals as goal

pub returns-in-Done : goal.returns-in-Done
unfolding bytes_of sentence_by
returns-in-Done c = simp (c.put_allowed.ensures, c.in-Done.is)

pub returns-in-NotWellFormed : goal.returns-in-NotWellFormed
unfolding bytes_of sentence_by
returns-in-NotWellFormed c = simp (c.put_words.ensures, c.in-NotWellFormed.is)

pub returns-in-NexusAbove : goal.returns-in-NexusAbove
unfolding bytes_of sentence_by
returns-in-NexusAbove c = simp (c.put_words-in-NexusAbove.ensures, c.in-NexusAbove.is)

pub returns-in-ChangedByAnotherNexus : goal.returns-in-ChangedByAnotherNexus
unfolding bytes_of sentence_by
returns-in-ChangedByAnotherNexus c =
    elim c.in-ChangedByAnotherNexus.is [ inl e ↦ simp (c.put_stopped.ensures, e) | inr e ↦ simp (c.put_stopped.ensures, e) ]

pub returns-in-KeyInstanceChanged : goal.returns-in-KeyInstanceChanged
unfolding bytes_of sentence_by
returns-in-KeyInstanceChanged c = simp (c.put_stopped-in-KeyInstanceChanged.ensures, c.in-KeyInstanceChanged.is)

pub returns-in-ParametersNotUsable : goal.returns-in-ParametersNotUsable
unfolding bytes_of sentence_by
returns-in-ParametersNotUsable c = simp (c.put_unsupported.ensures, c.in-ParametersNotUsable.is)

pub returns-in_default : goal.returns-in_default
unfolding bytes_of sentence_by
returns-in_default c =
    let other : sentence_by (number_of c.args.reason.cause.answer) c.args.reason ≡ bytes_of "the answer is not a write's" = grind (arith, common_steps) in
    simp (c.put_words-in_default.ensures, other)
