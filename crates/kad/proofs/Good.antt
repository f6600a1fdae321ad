-- What is read of a list of descriptors, whatever its bytes: lengths in range, zeros past them, arrays of their sizes.
-- Assumes nothing.
use Rattle.std.specs.Prelude.{ℕ, Option, Some}
use mathlib.Core.Path.{◌≡◌}
use mathlib.Core.Bool.{true}
use mathlib.Core.List.{List, [], ◌∷◌}
use Prim.Native.Nat.{ℕ, zero, suc, ◌+◌, ◌≤◌}
use native.Mathlib.Omega.{arith}
use borrow.Author.Tests.{leb-true, ltb-false, le-leb}
use lib.Dec.{ltb, leb, eqb}
use lib.ListN.{length, drop}
use Rattle.arrays.proofs.Base.{both, and_left, and_right, if-elim}
use Rattle.wire.specs.Buffers.{padded, all_zero}
use Rattle.wire.specs.Rules.{breach}
use Rattle.wire.proofs.Stores.{length-padded, zero-past}
use Rattle.kad.specs.Kad.{u_most, a_most, no_kads, u_kad, a_kad, with_data, lengths_good, tails_good, Sized}
use Rattle.kad.specs.Reading.{descriptor_head, type_of, data_of, next_of, most, descriptor_rules, listed}
use Rattle.kad.specs.declared.Kads.{Kads}
use Rattle.kad.specs.declared.Listed.{Listed}
use Rattle.kad.proofs.Reading.{room}
use Rattle.kad.proofs.Accepted.{data-few}

-- m bytes of data in an array of n, and zeros after them
pub record Filled (n m : ℕ) (bytes : List ℕ) : Type 0 where
  pub few : m ≤ n
  pub zeros : all_zero (drop m bytes) ≡ true
  pub sized : length bytes ≡ n

-- U-KAD and A-KAD in their arrays
pub record Good (k : Kads) : Type 0 where
  pub u : Filled u_most k.ukad.length k.ukad.bytes
  pub a : Filled a_most k.akad.length k.akad.bytes

-- data with lengths in range, zeros past them and arrays of their sizes are good
pub good_of : (k : Kads) → lengths_good k ≡ true → tails_good k ≡ true → Sized k → Good k
good_of k l t s =
    let u_few = leb k.ukad.length u_most in
    let a_few = leb k.akad.length a_most in
    let u_zeros = all_zero (drop k.ukad.length k.ukad.bytes) in
    let a_zeros = all_zero (drop k.akad.length k.akad.bytes) in
    record {
      u = record { few = leb-true _ _ (and_left u_few a_few l); zeros = and_left u_zeros a_zeros t; sized = s.0 };
      a = record { few = leb-true _ _ (and_right u_few a_few l); zeros = and_right u_zeros a_zeros t; sized = s.1 };
    }

module _ {k : Kads} (g : Good k) where
  -- good data have lengths in range
  pub good-lengths : lengths_good k ≡ true
  good-lengths = both (leb k.ukad.length u_most) (leb k.akad.length a_most) (le-leb _ _ g.u.few) (le-leb _ _ g.a.few)

  -- zeros past them
  pub good-tails : tails_good k ≡ true
  good-tails = both (all_zero (drop k.ukad.length k.ukad.bytes)) (all_zero (drop k.akad.length k.akad.bytes)) g.u.zeros g.a.zeros

  -- and arrays of their sizes
  pub good-sized : Sized k
  good-sized = (g.u.sized, g.a.sized)

-- data put in an array of n
filled : (n : ℕ) (d : List ℕ) → length d ≤ n → Filled n (length d) (padded n d)
filled n d h = record { few = h; zeros = zero-past n d h; sized = length-padded n d }

-- no data are good
pub good_none : Good no_kads
good_none = record { u = filled u_most [] (omega arith); a = filled a_most [] (omega arith) }

-- data that have room keep good what is
good-with : (k : Kads) (kind : ℕ) (d : List ℕ) → length d ≤ most kind → Good k → Good (with_data k kind d)
good-with k kind d h g =
    if-elim Good (eqb kind 0) {x = record { ukad = u_kad d; akad = k.akad }} {y = record { ukad = k.ukad; akad = a_kad d }}
    (λ e. record { u = filled u_most d (rw e at h); a = g.a }) (λ e. record { u = g.u; a = filled a_most d (rw e at h) })

-- whatever the list, what is read of it is good where the data so far are
pub good-listed : (n : ℕ) (s : List ℕ) (seen : Option ℕ) (k : Kads) → Good k → Good (listed n s seen k).kads
unfolding listed
good-listed zero s seen k g = g
good-listed (suc n) [] seen k g = g
good-listed (suc n) (b ∷ s) seen k g =
    let l = b ∷ s in
    let fault = breach (descriptor_rules l seen) descriptor_head in
    let rest = listed n (drop (next_of l) l) (Some (type_of l)) (with_data k (type_of l) (data_of l)) in
    if-elim (λ (r : Listed). Good r.kads) (ltb fault descriptor_head) {x = record { good = fault; kads = k }} {y = record { good = next_of l + rest.good; kads = rest.kads }}
    (λ t. g)
    (λ t.
    let fits = (room l seen (ltb-false fault descriptor_head t)).1 in
    let few = data-few l in
    good-listed n (drop (next_of l) l) (Some b) (with_data k b (data_of l)) (good-with k b (data_of l) (omega arith) g))
