use borrow.Author.Rules.{rules}
use Prim.Native.Nat.{ℕ}
use mathlib.Core.Path.{◌≡◌, sym, ap, ◌∙◌}
use native.Mathlib.Omega.{arith}
use lib.ListN.{length}
use Rattle.arrays.specs.Arrays.{word_of}
use Rattle.arrays.proofs.Laws.{sized-field}
use Rattle.arrays.proofs.Placing.{waiting, place-starts, place-more, place-ends}
use Rattle.sizes_16.specs.Sizes.{nexus_count, place_count}
use Rattle.device.specs.Record.{no_set, new_nexus}
use Rattle.device_16.specs.Model.{state}
use Rattle.words.specs.Placing.{is_local}
use Rattle.words.proofs.Placing.{owned_at, own-taken, words_placed}
use Rattle.words_16.proofs.words_of.Goals as goal

pub loop-place-init : goal.loop-place-init
loop-place-init = λ c xs n l. place-starts {m = place_count} new_nexus no_set (search (rules, sized-field)) l

pub loop-place-preserved : goal.loop-place-preserved
loop-place-preserved c xs n l =
    let r = c.loop-place.invariant xs n l in
    place-more new_nexus no_set r (search rules) (own-taken _ r n (omega arith) c.local_bit.ensures)

pub returns : goal.returns
returns c =
    let d = c.args.d in
    let n : length d.nexuses ≡ nexus_count = search (rules, sized-field) in
    let m : length d.sets ≡ place_count = search (rules, sized-field) in
    let ends = place-ends new_nexus no_set (c.loop-place.invariant d.nexuses n c.locals_of-locals.ensures) (search rules) in
    rw n at (words_placed (state d) (omega (arith, m)) c.locals_of-locals.ensures ends.0 (ends.1 ∙ ap (λ (k : ℕ). word_of (waiting is_local (owned_at d.sets) k) d.nexuses) (sym m)))
