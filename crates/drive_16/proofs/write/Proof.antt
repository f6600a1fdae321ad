use borrow.Author.Rules.{rules}
use Prim.Native.Nat.{◌<◌}
use mathlib.Core.Path.{◌≡◌, refl, sym, ap, ◌∙◌}
use native.Mathlib.Omega.{arith}
use lib.ListN.{length}
use Rattle.arrays.proofs.Laws.{sized-field}
use Rattle.sizes_16.specs.Sizes.{place_count}
use Rattle.device_16.specs.Model.{worded}
use Rattle.drive.specs.Calls.{write}
use Rattle.drive.proofs.Records.{formed-known, unformed-due}
use Rattle.drive_16.specs.Outcomes.{write_outcome_by}
use Rattle.drive_16.proofs.Outcomes.{write-refused, write-due}
use Rattle.drive_16.proofs.write.Statement.{statement}
use Rattle.drive_16.proofs.write.Tie as tie

-- there are places
some : (c : tie.After-formed) → 0 < length c.before.args.r.device.sets
some c = let l : length c.before.args.r.device.sets ≡ place_count = search (rules, sized-field) in omega (arith, l)

pub write_spec : {M : Type 1} → statement M
write_spec =
    tie.close
    (tie.spec
    (λ c κs. search rules)
    (λ c κs. search rules)
    (λ c.
    let asked = c.before.before in
    let a = asked.before.args in
    let r = worded a.r in
    c.refuse_write.ensures ∙ write-refused r a.n a.supported _ refl
    ∙ ap (write_outcome_by r a.n a.supported) (unformed-due r (write a.n a.supported) refl (sym asked.formed.ensures ∙ c.before.if-not-formed.true)) ∙ write-due r a.n a.supported (some asked))
    (λ c κs. search rules)
    (λ c.
    let asked = c.before.before in
    let a = asked.before.args in
    let r = worded a.r in
    c.write_known.ensures ∙ ap (write_outcome_by r a.n a.supported) (formed-known r (write a.n a.supported) (sym asked.formed.ensures ∙ c.before.if-not-formed.false)) ∙ write-due r a.n a.supported (some asked)))
