use borrow.Author.Rules.{rules}
use Rattle.std.specs.Prelude.{ℕ, Option, Some, None}
use Rattle.std.specs.Option.{unwrap_or}
use mathlib.Core.Path.{◌≡◌, refl}
use native.Mathlib.Omega.{arith}
use lib.Dec.{lit<}
use lib.ListN.{length}
use borrow.Author.Tests.{eq-eqb, ne_eqb}
use Rattle.sizes_16.specs.Sizes.{place_count}
use Rattle.device.specs.Selecting.{or_else, place_of}
use Rattle.device.proofs.Selecting.{place-within}
use Rattle.device_16.proofs.place_of.Goals as goal

or-else : (found : Option ℕ) (other : ℕ) → unwrap_or found other ≡ or_else found other
or-else None other = refl
or-else (Some place) other = refl

pub returns-then-nexus-ne-LOCAL : goal.returns-then-nexus-ne-LOCAL
returns-then-nexus-ne-LOCAL c = (simp (ne_eqb _ _ c.if-nexus-ne-LOCAL.true), lit< tt)

pub returns : goal.returns
returns c =
    let tested = c in
    let a = tested.args in
    let l : length a.sets ≡ place_count = search rules in
    let e : c.unwrap_or.result ≡ place_of a.nexus a.n a.sets = simp (eq-eqb _ _ tested.if-nexus-ne-LOCAL.false, c.unwrap_or.ensures, or-else, c.owned_place.ensures) in
    (e, omega (arith, place-within a.nexus a.n a.sets (omega arith)))
