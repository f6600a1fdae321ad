use borrow.Author.Rules.{rules}
use Prim.Native.Nat.{◌<◌}
use mathlib.Core.Path.{◌≡◌, refl, sym, ap, ◌∙◌}
use native.Mathlib.Omega.{arith}
use lib.ListN.{length}
use Rattle.arrays.proofs.Laws.{sized-field}
use Rattle.sizes_16.specs.Sizes.{place_count}
use Rattle.device_16.specs.Model.{worded}
use Rattle.drive.specs.Calls.{unit_reset}
use Rattle.drive.proofs.Records.{formed-known, unformed-due}
use Rattle.drive_16.specs.Outcomes.{outcome_by}
use Rattle.drive_16.proofs.Outcomes.{out-kept, out-due}
use Rattle.drive_16.proofs.unit_reset.Statement.{statement}
use Rattle.drive_16.proofs.unit_reset.Tie as tie

-- there are places
some : (c : tie.After-formed) → 0 < length c.before.args.r.device.sets
some c = let l : length c.before.args.r.device.sets ≡ place_count = search (rules, sized-field) in omega (arith, l)

pub unit_reset_spec : {M : Type 1} → statement M
unit_reset_spec =
    tie.close
    (tie.spec
    (λ c κs. search rules)
    (λ c κs. search rules)
    (λ c.
    let asked = c.before.before in
    let r = worded asked.before.args.r in
    c.unchanged.ensures ∙ out-kept r unit_reset _ refl refl
    ∙ ap (outcome_by r unit_reset) (unformed-due r unit_reset refl (sym asked.formed.ensures ∙ c.before.if-not-formed.true)) ∙ out-due r unit_reset (some asked))
    (λ c κs. search rules)
    (λ c.
    let asked = c.before.before in
    let r = worded asked.before.args.r in
    c.unit_reset_known.ensures ∙ ap (outcome_by r unit_reset) (formed-known r unit_reset (sym asked.formed.ensures ∙ c.before.if-not-formed.false)) ∙ out-due r unit_reset (some asked)))
