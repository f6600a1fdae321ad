use borrow.Author.Rules.{rules}
use mathlib.Core.Path.{◌≡◌, refl}
use lib.ListN.{length}
use Rattle.arrays.proofs.Laws.{sized-field}
use Rattle.sizes_16.specs.Sizes.{nexus_count, place_count}
use Rattle.device_16.specs.Model.{worded}
use Rattle.drive.specs.Calls.{unit_reset, happens}
use Rattle.calls.specs.declared.Asked.TheVariants.{PowerOn, In, Out, Write, Read, UnitReset, Happen}
use Rattle.command.specs.Replies.{asked_reply}
use Rattle.reply_16.specs.Giving.{in_from}
use Rattle.stream_16.specs.Stream.{part_from}
use Rattle.reply_16.proofs.Giving.{kept}
use Rattle.stream_16.proofs.Obeying.{call-told, power-told, asked-followed}
use Rattle.stream_16.proofs.ask.Statement.{statement}
use Rattle.stream_16.proofs.ask.Tie as tie

-- the record has its nexuses and places
nexuses : (c : tie.In-PowerOn) → length c.before.before.before.args.r.device.nexuses ≡ nexus_count
nexuses c = search (rules, sized-field)

places : (c : tie.In-PowerOn) → length c.before.before.before.args.r.device.sets ≡ place_count
places c = search (rules, sized-field)

pub ask_spec : {M : Type 1} → statement M
unfolding asked_reply
ask_spec =
    tie.close
    (tie.spec
    (λ c. search rules)
    (λ c κs. search rules)
    (λ c κs. search rules)
    (λ c. search rules)
    (λ c κs. search rules)
    (λ c. search rules)
    (λ c κs. search rules)
    (λ c. search rules)
    (λ c κs. search rules)
    (λ c. search rules)
    (λ c κs. search rules)
    (λ c. search rules)
    (λ c κs. search rules)
    (λ c κs. search rules)
    (λ c. search rules)
    (λ c κs. search rules)
    (λ c κs. search rules)
    (λ c.
    let matched = c.before.before in
    let a = c.args in
    asked-followed (worded a.r) a.page.now (part_from in_from a.size a.buffer.now) a.buffer.now {known = PowerOn} c.in-PowerOn.is
    (kept _ _ _ refl (power-told (worded a.r) (nexuses matched) (places matched) c.power_on.ensures c.plain.ensures)))
    (λ c. search rules)
    (λ c.
    let a = c.args in
    asked-followed (worded a.r) a.page.now (part_from in_from a.size a.buffer.now) a.buffer.now {known = In _} c.in-In.is
    c.give_in.ensures)
    (λ c. search rules)
    (λ c.
    let a = c.args in
    asked-followed (worded a.r) a.page.now (part_from in_from a.size a.buffer.now) a.buffer.now {known = Out _} c.in-Out.is
    c.give_out.ensures)
    (λ c. search rules)
    (λ c.
    let a = c.args in
    asked-followed (worded a.r) a.page.now (part_from in_from a.size a.buffer.now) a.buffer.now {known = Write _ _} c.in-Write.is
    c.give_write.ensures)
    (λ c. search rules)
    (λ c.
    let a = c.args in
    asked-followed (worded a.r) a.page.now (part_from in_from a.size a.buffer.now) a.buffer.now {known = Read _ _} c.in-Read.is
    c.give_read.ensures)
    (λ c.
    let a = c.args in
    asked-followed (worded a.r) a.page.now (part_from in_from a.size a.buffer.now) a.buffer.now {known = UnitReset} c.in-UnitReset.is
    (kept _ _ _ refl (call-told (worded a.r) unit_reset c.unit_reset.ensures c.plain-in-UnitReset.ensures)))
    (λ c.
    let a = c.args in
    asked-followed (worded a.r) a.page.now (part_from in_from a.size a.buffer.now) a.buffer.now {known = Happen _} c.in-Happen.is
    (kept _ _ _ refl (call-told (worded a.r) (happens _) c.happen.ensures c.plain-in-Happen.ensures))))
