use borrow.Author.Rules.{rules}
use Prim.Native.Nat.{◌<◌}
use mathlib.Core.Path.{◌≡◌, refl, sym, ap, ◌∙◌}
use native.Mathlib.Omega.{arith}
use lib.ListN.{length}
use Rattle.arrays.proofs.Laws.{sized-field}
use Rattle.sizes_16.specs.Sizes.{place_count}
use Rattle.device_16.specs.Model.{worded}
use Rattle.drive.specs.Calls.{security_out}
use Rattle.drive.proofs.Records.{formed-known, unformed-due}
use Rattle.drive_16.specs.Outcomes.{outcome_by}
use Rattle.drive_16.proofs.Outcomes.{out-refused, out-due}
use Rattle.drive_16.proofs.security_out.Statement.{statement}
use Rattle.drive_16.proofs.security_out.Tie as tie

-- there are places
some : (c : tie.After-formed) → 0 < length c.before.before.args.r.device.sets
some c = let l : length c.before.before.args.r.device.sets ≡ place_count = search (rules, sized-field) in omega (arith, l)

pub security_out_spec : {M : Type 1} → statement M
security_out_spec =
    tie.close
    (tie.spec
    (λ c κs. search rules)
    (λ c κs. search rules)
    (λ c.
    let asked = c.before.before in
    let a = asked.before.before.args in
    let r = worded a.r in
    let call = security_out a.command a.page.now in
    c.refuse.ensures ∙ out-refused r call _ a.command.nexus refl refl
    ∙ ap (outcome_by r call) (unformed-due r call refl (sym asked.formed.ensures ∙ c.before.if-not-formed.true)) ∙ out-due r call (some asked))
    (λ c κs. search rules)
    (λ c.
    let asked = c.before.before in
    let a = asked.before.before.args in
    let r = worded a.r in
    let call = security_out a.command a.page.now in
    c.security_out_known.ensures ∙ ap (outcome_by r call) (formed-known r call (sym asked.formed.ensures ∙ c.before.if-not-formed.false)) ∙ out-due r call (some asked)))
