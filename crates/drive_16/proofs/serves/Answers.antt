use mathlib.Core.Path.{◌≡◌, sym, ◌∙◌}
use borrow.Author.Rules.{rules}
use borrow.Author.Tests.{le-leb, lt-leb}
use lib.ListN.{length}
use Rattle.arrays.proofs.Laws.{sized-field}
use Rattle.sizes_16.specs.Sizes.{place_count}
use Rattle.drive.specs.Serving.{served_answer}
use Rattle.drive_16.specs.Outcomes.{served}
use Rattle.drive_16.proofs.serves.Goals as goal

pub returns-then-not-formed : goal.returns-then-not-formed
unfolding served served_answer
returns-then-not-formed c = simp (c.refusal_of.ensures, sym c.formed.ensures ∙ c.if-not-formed.true)

pub returns-then-at-ge-PLACES : goal.returns-then-at-ge-PLACES
unfolding served served_answer
returns-then-at-ge-PLACES c =
    let size : length c.args.r.device.sets ≡ place_count = search (rules, sized-field) in
    simp (c.refusal_of-then-at-ge-PLACES.ensures, sym c.formed.ensures ∙ c.if-not-formed.false, size, le-leb _ _ c.if-at-ge-PLACES.true)

pub returns : goal.returns
unfolding served served_answer
returns c =
    let size : length c.args.r.device.sets ≡ place_count = search (rules, sized-field) in
    simp (sym c.formed.ensures ∙ c.if-not-formed.false, size, lt-leb _ _ c.if-at-ge-PLACES.false)
