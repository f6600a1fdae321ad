use mathlib.Core.Path.{ap, ◌∙◌}
use Rattle.device.specs.Words.{with_words}
use Rattle.device_16.specs.Model.{state, record_of}
use Rattle.device_16.specs.declared.Device.{Device}
use Rattle.words_16.proofs.power_on.Goals as goal

pub returns : goal.returns
returns c = c.with_words.ensures ∙ ap (λ (d : Device). record_of (with_words (state d))) c.power_on.ensures
