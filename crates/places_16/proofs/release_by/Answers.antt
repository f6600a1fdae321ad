use borrow.Author.Rules.{rules}
use Prim.Native.Nat.{ℕ}
use mathlib.Core.Path.{◌≡◌, sym, ap, ◌∙◌}
use lib.ListN.{length}
use Rattle.arrays.specs.Arrays.{runs}
use Rattle.arrays.proofs.Laws.{sized-field}
use Rattle.arrays.proofs.Loops.{run-starts, run_more, run_ends}
use Rattle.device_16.specs.Model.{state, device}
use Rattle.sizes_16.specs.Sizes.{place_count}
use Rattle.places.specs.Actions.{released_by, release_step}
use Rattle.places.proofs.Releases.{releases-run}
use Rattle.places_16.proofs.release_by.Goals as goal

pub loop-place-init : goal.loop-place-init
loop-place-init c = run-starts

pub loop-place-preserved : goal.loop-place-preserved
loop-place-preserved c = run_more c.loop-place.invariant (search rules) (ap state c.release_step-out.ensures)

pub returns : goal.returns
returns c =
    let a = c.args in
    let l : length a.d.sets ≡ place_count = search (rules, sized-field) in
    let e = releases-run (released_by a.event) (state a.d) ∙ ap (λ (n : ℕ). runs (release_step (released_by a.event)) n (state a.d)) l in
    ap device (run_ends c.loop-place.invariant (search rules) ∙ sym e)
