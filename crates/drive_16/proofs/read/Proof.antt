use borrow.Author.Rules.{rules}
use Prim.Native.Nat.{◌<◌}
use mathlib.Core.Path.{◌≡◌, refl, sym, ap, ◌∙◌}
use native.Mathlib.Omega.{arith}
use lib.ListN.{length}
use Rattle.arrays.proofs.Laws.{sized-field}
use Rattle.sizes_16.specs.Sizes.{place_count}
use Rattle.device_16.specs.Model.{worded}
use Rattle.drive.specs.Calls.{read}
use Rattle.drive.proofs.Records.{formed-known, unformed-due}
use Rattle.drive_16.specs.Outcomes.{read_outcome_by}
use Rattle.drive_16.proofs.Outcomes.{read-refused, read-due}
use Rattle.drive_16.proofs.read.Statement.{statement}
use Rattle.drive_16.proofs.read.Tie as tie

-- there are places
some : (c : tie.After-formed) → 0 < length c.before.args.r.device.sets
some c = let l : length c.before.args.r.device.sets ≡ place_count = search (rules, sized-field) in omega (arith, l)

pub read_spec : {M : Type 1} → statement M
read_spec =
    tie.close
    (tie.spec
    (λ c κs. search rules)
    (λ c κs. search rules)
    (λ c.
    let asked = c.before.before in
    let a = asked.before.args in
    let r = worded a.r in
    c.refuse_read.ensures ∙ read-refused r a.n a.block _ refl
    ∙ ap (read_outcome_by r a.n a.block) (unformed-due r (read a.n a.block) refl (sym asked.formed.ensures ∙ c.before.if-not-formed.true)) ∙ read-due r a.n a.block (some asked))
    (λ c κs. search rules)
    (λ c.
    let asked = c.before.before in
    let a = asked.before.args in
    let r = worded a.r in
    c.read_known.ensures ∙ ap (read_outcome_by r a.n a.block) (formed-known r (read a.n a.block) (sym asked.formed.ensures ∙ c.before.if-not-formed.false)) ∙ read-due r a.n a.block (some asked)))
