use borrow.Author.Rules.{rules}
use Prim.Native.Nat.{◌<◌}
use mathlib.Core.Path.{◌≡◌, refl, sym, ap, ◌∙◌}
use native.Mathlib.Omega.{arith}
use lib.ListN.{length}
use Rattle.arrays.proofs.Laws.{sized-field}
use Rattle.answer.specs.declared.Answer.{Answer}
use Rattle.answer.specs.declared.Answer.TheVariants.{NotWellFormed}
use Rattle.sizes_16.specs.Sizes.{place_count}
use Rattle.device_16.specs.Model.{worded}
use Rattle.drive.specs.Calls.{security_in}
use Rattle.drive.specs.Outcomes.{in_buffer}
use Rattle.drive.proofs.Records.{formed-known, unformed-due}
use Rattle.drive_16.specs.Outcomes.{in_outcome_by}
use Rattle.drive_16.proofs.Outcomes.{in-refused, in_kept, in-due}
use Rattle.drive_16.proofs.security_in.Statement.{statement}
use Rattle.drive_16.proofs.security_in.Tie as tie

-- there are places
some : (c : tie.After-formed) → 0 < length c.before.before.args.r.device.sets
some c = let l : length c.before.before.args.r.device.sets ≡ place_count = search (rules, sized-field) in omega (arith, l)

pub security_in_spec : {M : Type 1} → statement M
security_in_spec =
    tie.close
    (tie.spec
    (λ c κs. search rules)
    (λ c κs. search rules)
    (λ c.
    let asked = c.before.before in
    let a = asked.before.before.args in
    let r = worded a.r in
    let e = unformed-due r (security_in a.command) refl (sym asked.formed.ensures ∙ c.before.if-not-formed.true) in (
      c.refuse_in.ensures ∙ in-refused r a.command _ refl ∙ ap (in_outcome_by r a.command) e ∙ in-due r a.command (some asked),
      in_kept r a.command NotWellFormed a.buffer.now refl ∙ ap (λ (x : Answer). in_buffer r.state a.command x a.buffer.now) e,
    ))
    (λ c κs. search rules)
    (λ c. search rules)
    (λ c.
    let asked = c.before.before.before.before.before in
    let a = asked.before.before.args in
    let r = worded a.r in
    let e = formed-known r (security_in a.command) (sym asked.formed.ensures ∙ c.before.before.before.before.if-not-formed.false) in
    let known = c.before.before.security_in_known.ensures in (
      known.0 ∙ ap (in_outcome_by r a.command) e ∙ in-due r a.command (some asked),
      known.1 ∙ ap (λ (x : Answer). in_buffer r.state a.command x a.buffer.now) e,
    )))
