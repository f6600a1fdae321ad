use borrow.Author.Rules.{rules}
use mathlib.Core.Path.{◌≡◌, sym, ap}
use native.Mathlib.Omega.{arith}
use lib.ListN.{length}
use lib.Seq.{length-take-le}
use Rattle.wire.proofs.Stores.{length-padded}
use Rattle.kad.specs.Writing.{descriptors, list_most}
use Rattle.kad.specs.declared.Written.{Written}
use Rattle.status.specs.Status.{status_bytes}
use Rattle.status_code.proofs.Writing.{stored}
use Rattle.status_code.proofs.write_status.Statement.{statement}
use Rattle.status_code.proofs.write_status.Tie as tie

prefix : tie.Need-slice_bounds-bytes-end
prefix c =
    let w = c.before.before.before.before.before.before.before.before.write-list in
    omega (arith, w.ensures.1, ap (λ (x : Written). length x.bytes) w.ensures.0, length-padded list_most (descriptors c.before.before.before.before.before.before.before.before.before.before.before.args.s.kads))

pub write_status_spec : {M : Type 1} → statement M
unfolding status_bytes
write_status_spec =
    tie.close
    (tie.spec
    (λ c κs. search rules)
    (λ c. search rules)
    (λ c. search rules)
    (λ c κs. search rules)
    (λ c. search rules)
    (λ c κs. search rules)
    prefix
    (λ c. sym (length-take-le _ _ (prefix c.before)))
    (λ c κs. search rules)
    (λ c. search rules)
    (λ c. search rules)
    (λ c.
    let first = c.before.before.before.before.before.before.before in
    let head = first.before.before.before in
    let list = head.before.before in
    let start = list.before.before.before in
    let made = list.write-list.ensures in
    let size : list.write-list.result.length ≡ length (descriptors start.args.s.kads) = ap (λ (x : Written). x.length) made.0 in
    stored start.args.s start.args.buffer.now made.0 made.1 head.status_head-head.ensures (omega (arith, made.1)) (omega (arith, made.1)) first.put.ensures c.before.before.put-2.ensures))
