use borrow.Author.Rules.{rules}
use mathlib.Core.Path.{◌≡◌}
use lib.ListN.{length}
use Rattle.kad.specs.Kad.{Sized}
use Rattle.parameters.specs.Fields.{key_size, supplemental_size}
use Rattle.record.proofs.Storing.{set-stored}
use Rattle.record_code.proofs.set_bytes.Goals as goal

pub returns : goal.returns
returns c =
    let set = c.args.set in
    let key : length set.fields.key ≡ key_size = search rules in
    let keys : length set.supplemental.keys ≡ supplemental_size = search rules in
    let kads : Sized set.fields.kads = (search rules, search rules) in
    set-stored set key keys kads c.set_head-head.ensures c.supplemental_bytes-keys.ensures c.kads_bytes-last.ensures c.put.ensures c.put-2.ensures c.put-3.ensures c.put-4.ensures
