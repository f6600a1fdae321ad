use borrow.Author.Rules.{rules}
use borrow.Author.Tests.{tests}
use mathlib.Core.Path.{◌∙◌}
use Rattle.std.proofs.lemmas.Iterator.{YieldsList-from_slice}
use Rattle.std.proofs.lemmas.Iterator.Search.{position_from_yields_List}
use Rattle.device.specs.Selecting.{owns, owned_place}
use Rattle.device_16.proofs.Reading.{position-found}
use Rattle.device_16.proofs.owned_place.Goals as goal

pub returns : goal.returns
unfolding owned_place
returns c =
    position_from_yields_List (owns c.args.n) _ _ _ c.position.ensures.ran (YieldsList-from_slice c.args.sets c.iter.ensures.rest) (λ x b q k. search (rules, tests)) ∙ position-found (owns c.args.n) c.args.sets
