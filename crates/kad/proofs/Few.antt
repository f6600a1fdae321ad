-- How far a list of descriptors is read at most: types rise, so two descriptors and the head of a third.
-- Assumes nothing.
use Rattle.std.specs.Prelude.{ℕ, Option, Some, None}
use mathlib.Core.Path.{◌≡◌}
use mathlib.Core.Bool.{true}
use mathlib.Core.List.{List, [], ◌∷◌}
use Prim.Native.Nat.{ℕ, zero, suc, ◌+◌, ◌≤◌}
use native.Mathlib.Omega.{arith}
use borrow.Author.Tests.{ltb-true, ltb-false}
use lib.Dec.{ltb, eqb}
use lib.ListN.{drop}
use Rattle.arrays.specs.Base.{when◌then◌else◌}
use Rattle.arrays.proofs.Base.{if-elim}
use Rattle.wire.specs.Rules.{breach}
use Rattle.kad.specs.Kad.{with_data}
use Rattle.kad.specs.Reading.{descriptor_head, type_of, length_of, data_of, next_of, most, rising, descriptor_rules, listed}
use Rattle.kad.specs.declared.Kads.{Kads}
use Rattle.kad.specs.declared.Listed.{Listed}
use Rattle.kad.proofs.Accepted.{formed}

-- the most bytes that are still good after the last type seen
abbrev ahead : Option ℕ → ℕ
ahead None = 55
ahead (Some kind) = when eqb kind 0 then 19 else 3

-- a fault in the first descriptor
head_few : (seen : Option ℕ) → 3 ≤ ahead seen
head_few None = omega arith
head_few (Some kind) = if-elim (λ (n : ℕ). 3 ≤ n) (eqb kind 0) (λ e. omega arith) (λ e. omega arith)

-- a descriptor and what is good after it
step-few : (seen : Option ℕ) (kind size good : ℕ) → kind ≤ 1 → rising seen kind ≡ true → size ≤ most kind → good ≤ ahead (Some kind) → descriptor_head + size + good ≤ ahead seen
step-few None zero size good l r m g = omega arith
step-few None (suc zero) size good l r m g = omega arith
step-few None (suc (suc kind)) size good l r m g = absurd (omega arith)
step-few (Some zero) zero size good l r m g = absurd (let z = ltb-true 0 0 r in omega arith)
step-few (Some zero) (suc zero) size good l r m g = omega arith
step-few (Some zero) (suc (suc kind)) size good l r m g = absurd (omega arith)
step-few (Some (suc before)) kind size good l r m g = absurd (let z = ltb-true (suc before) kind r in omega arith)

-- so many bytes of a list are good at most
few-good : (n : ℕ) (s : List ℕ) (seen : Option ℕ) (k : Kads) → (listed n s seen k).good ≤ ahead seen
unfolding listed
few-good zero s seen k = let z = head_few seen in omega arith
few-good (suc n) [] seen k = let z = head_few seen in omega arith
few-good (suc n) (b ∷ s) seen k =
    let l = b ∷ s in
    let fault = breach (descriptor_rules l seen) descriptor_head in
    let rest = listed n (drop (next_of l) l) (Some (type_of l)) (with_data k (type_of l) (data_of l)) in
    if-elim (λ (r : Listed). r.good ≤ ahead seen) (ltb fault descriptor_head) {x = record { good = fault; kads = k }} {y = record { good = next_of l + rest.good; kads = rest.kads }}
    (λ t. let z = head_few seen in let f = ltb-true fault descriptor_head t in omega arith)
    (λ t.
    let f = formed l seen (ltb-false fault descriptor_head t) in
    step-few seen b (length_of l) rest.good f.low f.rises f.few (few-good n (drop (next_of l) l) (Some b) (with_data k b (data_of l))))

-- of a whole list
pub list-few : (n : ℕ) (s : List ℕ) (k : Kads) → (listed n s None k).good ≤ 55
list-few n s k = few-good n s None k
