use borrow.Author.Rules.{rules}
use Prim.Native.Nat.{ℕ, ◌≤◌, ◌<◌}
use mathlib.Core.Path.{◌≡◌, refl, sym, ap, ◌∙◌}
use native.Mathlib.Omega.{arith}
use lib.ListN.{length, set}
use Rattle.arrays.proofs.Laws.{sized-field}
use Rattle.device.specs.Record.{nexus_at}
use Rattle.device.specs.Updates.{with_nexuses}
use Rattle.sizes_16.specs.Sizes.{nexus_count}
use Rattle.device_16.specs.Model.{state, device}
use Rattle.device_16.proofs.Reading.{number_read}
use Rattle.places.specs.Actions.{nexus_after}
use Rattle.places.proofs.Sender.{sender-beyond, sender-at}
use Rattle.places_16.proofs.sender_after.Goals as goal

pub returns-then-at-ge-NEXUSES : goal.returns-then-at-ge-NEXUSES
returns-then-at-ge-NEXUSES c =
    let a = c.args in
    let l : length a.d.nexuses ≡ nexus_count = search (rules, sized-field) in
    let h : length a.d.nexuses ≤ a.n = omega arith in
    sym (ap device (sender-beyond (state a.d) a.n a.page h))

pub returns : goal.returns
returns c =
    let a = c.args in
    let s = state a.d in
    let l : length a.d.nexuses ≡ nexus_count = search (rules, sized-field) in
    let h : a.n < length a.d.nexuses = omega arith in
    let uses = c.place_of-place in
    let number = number_read a.d.sets _ _ _ c.numbers-numbers.ensures uses.ensures.0 uses.ensures.1 in
    simp c.nexus_after.ensures
    (ap (λ (k : ℕ). device (with_nexuses (set s.nexuses a.n (nexus_after a.page k (nexus_at s a.n))) s)) number
    ∙ ap device (sender-at s a.n a.page _ h refl))
