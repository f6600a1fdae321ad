-- The parts of a page's rules: bytes 4 to 7, bytes 8 to 17, the key, the end.
-- Assumes nothing.
use mathlib.Core.Path.{◌≡◌}
use mathlib.Core.Bool.{true, ◌||◌}
use mathlib.Core.Logic.{◌⊎◌, inl, inr}
use mathlib.Core.List.{List, ◌++◌}
use Prim.Native.Nat.{ℕ, ◌+◌, ◌≤◌}
use native.Mathlib.Nat.{not-le_of_lt}
use native.Mathlib.Omega.{arith}
use borrow.Author.Tests.{eqb-true, leb-true, leb-false}
use lib.Dec.{leb, eqb}
use lib.ListN.{length, drop, length-take}
use Rattle.arrays.proofs.Base.{cases}
use Rattle.wire.specs.Rules.{Rule, breach, zero_rules}
use Rattle.wire.proofs.Rules.{AllHold, Under, kept, rest, under_more, zeros-under}
use Rattle.wire.proofs.Lowest.{first-hold}
use Rattle.parameters.specs.Fields.{key_size}
use Rattle.page.specs.Fields.{reserved_from, reserved_size, reserved_bytes, key_from, keyed_size, encryption_of, decryption_of, key_length_of, key_end}
use Rattle.page.specs.Rules.{open_rules, mode_rules, plain_rules, key_length, key_rules, set_rules, match_rules, end_rules, supplemental_rules}

-- a code that is 2 or 3: DECRYPT or MIXED, CEEM 10b or 11b
pub two-or-three : (code : ℕ) → (eqb code 2 || eqb code 3) ≡ true → (code ≡ 2) ⊎ (code ≡ 3)
two-or-three code h = cases (eqb code 2) (λ e. inl (eqb-true code 2 e)) (λ e. inr (eqb-true code 3 (rw e at h)))

-- ---- the bytes that each part points to

-- the page code and the scope
pub open-under : (p : List ℕ) → Under 5 (open_rules p)
unfolding open_rules
open-under p = omega arith

-- bytes 4 to 7 with SDK 0
pub mode-under : (p : List ℕ) → Under 8 (mode_rules p)
unfolding mode_rules
mode-under p = omega arith

-- bytes 4 to 7 with SDK 1
pub match-under : (p : List ℕ) (scope mode : ℕ) → Under 8 (match_rules p scope mode)
unfolding match_rules
match-under p scope mode = omega arith

-- bytes 8 to 17
pub plain-under : (p : List ℕ) → Under 18 (plain_rules p)
unfolding plain_rules
plain-under p =
    let bytes = reserved_bytes p in
    let ends : reserved_from + length bytes ≤ 18 = omega (arith, length-take reserved_size (drop reserved_from p)) in
    (omega arith, (omega arith, (omega arith, under_more (zero_rules reserved_from bytes) (reserved_from + length bytes) 18 ends (zeros-under reserved_from bytes))))

-- the key
pub key-under : (p : List ℕ) (wanted m : ℕ) → 19 ≤ m → Under m (key_rules p wanted)
unfolding key_rules
key-under p wanted m l = (omega arith, (omega arith, tt))

-- ---- rules of bytes 4 to 7, then of bytes 8 to 17, then others

-- where none breaks, the first two hold, and none of the others breaks
pub parts-hold : (xs ys : List Rule) (p : List ℕ) (n : ℕ) → Under 8 xs → 18 ≤ n → n ≤ breach (xs ++ (plain_rules p ++ ys)) n → AllHold xs × (AllHold (plain_rules p) × (n ≤ breach ys n))
parts-hold xs ys p n u l h =
    let front = under_more xs 8 n (omega arith) u in
    let plain = under_more (plain_rules p) 18 n l (plain-under p) in
    let later = rest xs (plain_rules p ++ ys) n n front h in
    (first-hold xs (plain_rules p ++ ys) n n front h, (first-hold (plain_rules p) ys n n plain later, rest (plain_rules p) ys n n plain later))

-- ---- a page of which no rule breaks

-- with SDK 0 each part holds
pub set-hold : (p : List ℕ) → key_from ≤ length p → length p ≤ breach (set_rules p) (length p) → AllHold (mode_rules p) × (AllHold (plain_rules p) × AllHold (key_rules p (key_length (encryption_of p) (decryption_of p))))
unfolding set_rules
set-hold p l h =
    let wanted = key_length (encryption_of p) (decryption_of p) in
    let all = parts-hold (mode_rules p) (key_rules p wanted) p (length p) (mode-under p) (omega arith) h in
    (all.0, (all.1.0, kept (key_rules p wanted) (length p) (length p) (key-under p wanted (length p) (omega arith)) all.1.1))

-- the page ends with the key
end-hold : (p : List ℕ) → length p ≤ breach (end_rules p) (length p) → AllHold (end_rules p)
unfolding end_rules
end-hold p h = cases (leb (length p) keyed_size) (λ e. (e, tt)) (λ e. absurd (not-le_of_lt (leb-false _ _ e) (rw e at h)))

-- with SDK 1 too
pub supplemental-hold : (p : List ℕ) (scope mode : ℕ) → key_from ≤ length p → length p ≤ breach (supplemental_rules p scope mode) (length p)
    → AllHold (match_rules p scope mode) × (AllHold (plain_rules p) × (AllHold (key_rules p key_size) × AllHold (end_rules p)))
unfolding supplemental_rules
supplemental-hold p scope mode l h =
    let n = length p in
    let all = parts-hold (match_rules p scope mode) (key_rules p key_size ++ end_rules p) p n (match-under p scope mode) (omega arith) h in
    let key = key-under p key_size n (omega arith) in
    (all.0, (all.1.0, (first-hold (key_rules p key_size) (end_rules p) n n key all.1.1, end-hold p (rest (key_rules p key_size) (end_rules p) n n key all.1.1))))

-- the key has the length that is asked, and lies within the page
pub key_fits : (p : List ℕ) (wanted : ℕ) → AllHold (key_rules p wanted) → (key_length_of p ≡ wanted) × (key_end p ≤ length p)
unfolding key_rules
key_fits p wanted h = (eqb-true _ _ h.0, leb-true _ _ h.1.0)
