-- Document 02, request 6, of the status reader: the byte of answer 8 is the lowest at which a rule of 01 breaks, whatever order the rules are
-- tested in.
-- Assumes nothing.
use Rattle.std.specs.Prelude.{None}
use mathlib.Core.Path.{refl}
use mathlib.Core.Logic.{inl, ⊎_elim}
use mathlib.Core.List.{List, ◌++◌}
use Prim.Native.Nat.{ℕ}
use native.Mathlib.Nat.{le_refl}
use native.Mathlib.Omega.{arith}
use lib.ListN.{length, take, drop}
use Rattle.arrays.proofs.Base.{clash}
use Rattle.wire.specs.Rules.{RightLength, breach}
use Rattle.wire.proofs.Rules.{AllHold, Sorted, sorted-append, zeros-sorted, hold-append}
use Rattle.wire.proofs.Lowest.{length-due, lowest-of, Same, same_self, same_then, same-both, same_after, same-swap, same_move}
use Rattle.kad.specs.Kad.{no_kads}
use Rattle.kad.proofs.Lowest.{list-sorted, list-hold}
use Rattle.pointing.specs.Judged.{Judged}
use Rattle.pointing.proofs.Judging.{judged-short, judged-wrong, judged-right, judged-same}
use Rattle.status.specs.Rules.{descriptors_from, zeros_from, zero_bytes, scope_rules, field_rules, head_rules, status_rules}
use Rattle.status.specs.Reading.{read_status}
use Rattle.status.specs.Pointing.{zeros, every_head_rule, every_status_rule}
use Rattle.status.proofs.Reading.{open-under, head-under, descriptors_rules, Accepted, ways}

-- ---- the rules stand in the order of their bytes

-- those of bytes 0 to 4
open-sorted : (p : List ℕ) → Sorted 0 (scope_rules p)
unfolding scope_rules
open-sorted p = omega arith

-- those of bytes 5 to 23
field-sorted : (p : List ℕ) → Sorted 5 (field_rules p)
unfolding field_rules
field-sorted p = (omega arith, (omega arith, (omega arith, (omega arith, zeros-sorted 12 zeros_from (zero_bytes p) (omega arith)))))

-- those before the descriptors
head-sorted : (p : List ℕ) → Sorted 0 (head_rules p)
unfolding head_rules
head-sorted p = sorted-append (scope_rules p) (field_rules p) 0 5 (open-sorted p) (open-under p) (omega arith) (field-sorted p)

-- all of them
pub status-sorted : (p : List ℕ) → Sorted 0 (status_rules p)
status-sorted p =
    let rest = drop descriptors_from p in
    sorted-append (head_rules p) (descriptors_rules p) 0 descriptors_from (head-sorted p) (head-under p) (omega arith) (list-sorted (length rest) descriptors_from rest None)

-- ---- the same rules in the order of their bytes and in 01's

-- the zeros go before the codes
head-same : (p : List ℕ) → Same (head_rules p) (every_head_rule p)
unfolding head_rules scope_rules field_rules every_head_rule
head-same p =
    let code = take 1 (scope_rules p) in
    let nexus_scope = take 1 (drop 1 (scope_rules p)) in
    let bits = take 1 (drop 2 (scope_rules p)) in
    let others = drop 3 (scope_rules p) ++ take 3 (field_rules p) in
    let byte12 = take 1 (drop 3 (field_rules p)) in
    let codes = nexus_scope ++ others in
    same_after code (nexus_scope ++ (bits ++ (others ++ (byte12 ++ zeros p)))) (bits ++ (byte12 ++ (zeros p ++ codes)))
    (same_then (same_move nexus_scope bits (others ++ (byte12 ++ zeros p)))
    (same_after bits (codes ++ (byte12 ++ zeros p)) (byte12 ++ (zeros p ++ codes))
    (same_then (same_move codes byte12 (zeros p)) (same_after byte12 (codes ++ zeros p) (zeros p ++ codes) (same-swap codes (zeros p))))))

-- all of them
rules-same : (p : List ℕ) → Same (status_rules p) (every_status_rule p)
rules-same p = same-both (head_rules p) (descriptors_rules p) (every_head_rule p) (descriptors_rules p) (head-same p) (same_self (descriptors_rules p))

-- ---- the lowest byte

-- every rule of an accepted page holds
all_hold : (p : List ℕ) → Accepted p → AllHold (status_rules p)
all_hold p a =
    let rest = drop descriptors_from p in
    hold-append (head_rules p) (descriptors_rules p) a.head
    (list-hold (length rest) descriptors_from rest None no_kads (le_refl (length rest)) (omega (arith, a.list)))

-- over the rules in the order of their bytes
status-verdict : (p : List ℕ) → Judged (RightLength descriptors_from p) (status_rules p) p (read_status p).answer
status-verdict p =
    let fault = breach (status_rules p) (length p) in
    ⊎_elim (λ e. rw e.1 (judged-short _ (status_rules p) p _ (λ h. clash e.0 ((length-due descriptors_from p).1 h)) refl))
    (⊎_elim (λ b. rw b.is (judged-wrong _ (status_rules p) p _ fault (lowest-of (status_rules p) (length p) fault (status-sorted p) refl b.before) b.before b.small refl))
    (λ a. rw a.is (judged-right _ (status_rules p) p _ (all_hold p a) (inl refl))))
    (ways p)

-- If the answer is 8 with byte b, a rule of 01 breaks at b, which is a byte of the page, and none at a lower byte; if it is 0, none breaks. And of
-- a page of the right length: 8 is answered wherever a rule breaks, and it is taken wherever none does.
pub status-judged : (p : List ℕ) → Judged (RightLength descriptors_from p) (every_status_rule p) p (read_status p).answer
status-judged p = judged-same (rules-same p) (status-verdict p)
