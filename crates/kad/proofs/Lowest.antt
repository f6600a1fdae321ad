-- The first fault of a list of descriptors is the lowest byte at which a rule of any of them breaks.
-- Assumes nothing.
use Rattle.std.specs.Prelude.{ℕ, Option, Some}
use mathlib.Core.Path.{◌≡◌, refl, sym}
use mathlib.Core.List.{List, [], ◌∷◌}
use Prim.Native.Nat.{ℕ, zero, suc, ◌+◌, ◌≤◌}
use native.Mathlib.Nat.{not-suc-le-zero, add-zero}
use native.Mathlib.Omega.{arith}
use borrow.Author.Tests.{ltb-true, ltb-false}
use lib.Dec.{ltb}
use lib.ListN.{length, drop, length-drop}
use Rattle.arrays.proofs.Base.{cases, if-map}
use Rattle.wire.specs.Rules.{Rule, breach}
use Rattle.wire.proofs.Rules.{AllHold, Under, Sorted, low, high, sorted-from, sorted-append, hold-append}
use Rattle.kad.specs.Kad.{with_data}
use Rattle.kad.specs.Reading.{descriptor_head, data_of, next_of, descriptor_rules, listed}
use Rattle.kad.specs.Rules.{shifted, list_rules}
use Rattle.kad.specs.declared.Kads.{Kads}
use Rattle.kad.proofs.Reading.{rules-under, rules-hold, room, fault-lt}

-- ---- rules moved to where a descriptor stands

-- the breach of the same rules, each pointing i bytes further, lies i bytes further
pub shifted-breach : (i : ℕ) (rs : List Rule) (top : ℕ) → breach (shifted i rs) (i + top) ≡ i + breach rs top
shifted-breach i [] top = refl
shifted-breach i (r ∷ rs) top = rw (shifted-breach i rs top) (sym (if-map (λ (n : ℕ). i + n) r.holds (breach rs top) r.at))

-- they point below a byte i further
pub shifted-under : (i m : ℕ) (rs : List Rule) → Under m rs → Under (i + m) (shifted i rs)
shifted-under i m [] u = tt
shifted-under i m (r ∷ rs) u = (omega arith, shifted-under i m rs u.1)

-- and stand in the same order
pub shifted-sorted : (i m : ℕ) (rs : List Rule) → Sorted m rs → Sorted (i + m) (shifted i rs)
shifted-sorted i m [] s = tt
shifted-sorted i m (r ∷ rs) s = (omega arith, shifted-sorted i r.at rs s.1)

-- ---- the rules of a list

-- those of one descriptor stand in the order of its bytes
rules-sorted : (s : List ℕ) (seen : Option ℕ) → Sorted 0 (descriptor_rules s seen)
unfolding descriptor_rules
rules-sorted s seen = omega arith

-- and those of a list in the order of the list's, from its first on
pub list-sorted : (n i : ℕ) (s : List ℕ) (seen : Option ℕ) → Sorted i (list_rules n i s seen)
unfolding list_rules
list-sorted zero i s seen = tt
list-sorted (suc n) i [] seen = tt
list-sorted (suc n) i (b ∷ s) seen =
    let next = next_of (b ∷ s) in
    let more = list_rules n (i + next) (drop next (b ∷ s)) (Some b) in
    sorted-append (shifted i (descriptor_rules (b ∷ s) seen)) more i (i + descriptor_head) (rw add-zero at (shifted-sorted i 0 (descriptor_rules (b ∷ s) seen) (rules-sorted (b ∷ s) seen)))
    (shifted-under i descriptor_head (descriptor_rules (b ∷ s) seen) (rules-under (b ∷ s) seen)) (omega arith)
    (sorted-from more (i + descriptor_head) (i + next) (omega arith) (list-sorted n (i + next) (drop next (b ∷ s)) (Some b)))

-- The reader's first fault is where the first rule breaks; without one, all bytes to the list's end are good.
pub first-fault : (n i : ℕ) (s : List ℕ) (seen : Option ℕ) (k : Kads) → length s ≤ n → i + (listed n s seen k).good ≡ breach (list_rules n i s seen) (i + length s)
unfolding listed list_rules
first-fault zero i [] seen k h = refl
first-fault zero i (b ∷ s) seen k h = absurd (not-suc-le-zero h)
first-fault (suc n) i [] seen k h = refl
first-fault (suc n) i (b ∷ s) seen k h =
    let l = b ∷ s in
    let next = next_of l in
    let rest = drop next l in
    let rules = shifted i (descriptor_rules l seen) in
    let more = list_rules n (i + next) rest (Some b) in
    let fault = breach (descriptor_rules l seen) descriptor_head in
    let moved : i + fault ≡ breach rules (i + descriptor_head) = sym (shifted-breach i (descriptor_rules l seen) descriptor_head) in
    cases (ltb fault descriptor_head)
    (λ t. rw t (sym (low rules more (i + length l) (i + descriptor_head) (i + fault) moved (omega (arith, ltb-true fault descriptor_head t)))))
    (λ t.
    let past : descriptor_head ≤ fault = ltb-false fault descriptor_head t in
    let fits = (room l seen past).0 in
    let size = length-drop next l in
    let ends : i + next + length rest ≡ i + length l = omega arith in
    let decides = high rules more (i + length l) (i + descriptor_head) (i + fault) (shifted-under i descriptor_head (descriptor_rules l seen) (rules-under l seen)) moved (omega arith) in
    let others = first-fault n (i + next) rest (Some b) (with_data k b (data_of l)) (omega arith) in
    rw (t, decides, ← ends, ← others) (omega arith))

-- rules that hold do so wherever they point
shifted-hold : (i : ℕ) (rules : List Rule) → AllHold rules → AllHold (shifted i rules)
shifted-hold i [] h = tt
shifted-hold i (r ∷ rules) h = (h.0, shifted-hold i rules h.1)

-- where all bytes of a list are good, every rule holds
pub list-hold : (n i : ℕ) (s : List ℕ) (seen : Option ℕ) (k : Kads) → length s ≤ n → length s ≤ (listed n s seen k).good → AllHold (list_rules n i s seen)
unfolding listed list_rules
list-hold zero i s seen k h e = tt
list-hold (suc n) i [] seen k h e = tt
list-hold (suc n) i (b ∷ s) seen k h e =
    let l = b ∷ s in
    let next = next_of l in
    let rest = drop next l in
    let rules = descriptor_rules l seen in
    let fault = breach rules descriptor_head in
    cases (ltb fault descriptor_head)
    (λ t. let ends : length l ≤ fault = rw t at e in absurd (omega (arith, fault-lt l seen (omega arith) (ltb-true _ _ t))))
    (λ t.
    let past : descriptor_head ≤ fault = ltb-false fault descriptor_head t in
    let fits = (room l seen past).0 in
    let more = with_data k b (data_of l) in
    let size = length-drop next l in
    let ends : length l ≤ next + (listed n rest (Some b) more).good = rw t at e in
    hold-append (shifted i rules) (list_rules n (i + next) rest (Some b)) (shifted-hold i rules (rules-hold l seen past)) (list-hold n (i + next) rest (Some b) more (omega arith) (omega arith)))
