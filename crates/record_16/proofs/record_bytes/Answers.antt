use mathlib.Core.Path.{◌≡◌, refl, ap, ◌∙◌}
use native.Mathlib.Omega.{arith}
use lib.ListN.{replicate}
use lib.Seq.{sets}
use Rattle.wire.specs.Numbers.{four}
use Rattle.sizes_16.specs.Sizes.{nexus_count, place_count}
use Rattle.device_16.specs.Model.{worded}
use Rattle.record.specs.Bytes.{counter_size, nexuses_from, words_from, record_size, record_bytes}
use Rattle.record.proofs.Sizes.{sets_part, nexuses_part, words_part}
use Rattle.record.proofs.Storing.{four_runs}
use Rattle.record_16.proofs.record_bytes.Goals as goal

pub returns : goal.returns
unfolding record_bytes
returns c =
    let fourth = c.put_words.ensures in
    let third = c.put_nexuses.ensures in
    let second = c.put_sets.ensures in
    let first = c in
    let number = first in
    let r = worded number.args.r in
    let zeros = replicate (record_size nexus_count place_count) 0 in
    let counter : first.put.new.buffer ≡ sets zeros 0 (four r.state.counter) = first.put.ensures ∙ ap (sets zeros 0) number.four.ensures in
    four_runs zeros (four r.state.counter) (sets_part r) (nexuses_part r) (words_part r) counter_size (nexuses_from place_count) (words_from nexus_count place_count) counter second.0 third.0 fourth.0 refl (omega (arith, second.1)) (omega (arith, third.1)) (omega (arith, fourth.1))
