-- A part of bytes, read as a set, a nexus or key-associated data and written: the same bytes, where each yes or no is 0 or 1.
-- Assumes nothing.
use Prim.Native.Nat.{ℕ, ◌+◌, ◌≤◌}
use mathlib.Core.Path.{◌≡◌, refl, sym, ap, ap₂, ◌∙◌}
use mathlib.Core.Bool.{Bool, true, ◌&&◌}
use mathlib.Core.List.{List, [], ◌∷◌, ◌++◌}
use native.Mathlib.Omega.{arith}
use lib.ListN.{length, take, drop, length-drop}
use lib.Seq.{drop-drop, take-add}
use Rattle.arrays.proofs.Base.{and_left, and_right}
use Rattle.wire.specs.Numbers.{byte_at, number_at, four, yes_or_no}
use Rattle.kad.specs.Kad.{u_most, a_most}
use Rattle.parameters.specs.Fields.{key_size, supplemental_size}
use Rattle.record.specs.Bytes.{kads_size, set_size, nexus_size, kads_bytes, set_head, set_bytes, nexus_bytes}
use Rattle.wire.specs.Buffers.{bytes_at}
use Rattle.record.specs.Reading.{kads_read, fields_read, set_read, nexus_read}
use Rattle.record.specs.Good.{set_yes_or_no, nexus_yes_or_no}
use Rattle.wire.proofs.Bytes.{Below, padded-first, run, take-run, flag-again, four-again}

-- n bytes from an index on, where they are there, and what follows
pub then : (part : List ℕ) (at n more : ℕ) → at + n ≤ length part → take (n + more) (drop at part) ≡ bytes_at n part at ++ take more (drop (at + n) part)
then part at n more h =
    take-add n more (drop at part)
    ∙ ap₂ (λ (x y : List ℕ). x ++ y) (sym (padded-first n (drop at part) (omega (arith, length-drop at part)))) (ap (take more) (drop-drop n at part))

-- one byte, and what follows
pub one : (part : List ℕ) (at more : ℕ) → at + 1 ≤ length part → take (1 + more) (drop at part) ≡ byte_at part at ∷ take more (drop (at + 1) part)
one part at more h = take-add 1 more (drop at part) ∙ ap₂ (λ (x y : List ℕ). x ++ y) (take-run 1 at part h) (ap (take more) (drop-drop 1 at part))

pub kads-again : (part : List ℕ) → kads_size ≤ length part → kads_bytes (kads_read part) ≡ take kads_size part
unfolding kads_bytes kads_read
kads-again part h =
    let last : take 12 (drop 34 part) ≡ bytes_at a_most part 34 = sym (padded-first a_most (drop 34 part) (omega (arith, length-drop 34 part))) in
    sym (one part 0 45 (omega arith) ∙ ap (λ (l : List ℕ). byte_at part 0 ∷ l) (then part 1 u_most 13 (omega arith)
    ∙ ap (λ (l : List ℕ). bytes_at u_most part 1 ++ l) (one part 33 12 (omega arith) ∙ ap (λ (l : List ℕ). byte_at part 33 ∷ l) last)))

-- each of four holds where all do
pub all-four : (a b c d : Bool) → (a && b && c && d) ≡ true → (a ≡ true) × (b ≡ true) × (c ≡ true) × (d ≡ true)
all-four a b c d e =
    let three = and_left (a && b && c) d e in
    let two = and_left (a && b) c three in
    (and_left a b two, and_right a b two, and_right (a && b) c three, and_right (a && b && c) d e)

-- three and four bytes that are the same
three-same : {a b c a' b' c' : ℕ} → a ≡ a' → b ≡ b' → c ≡ c' → ◌≡◌ {A = List ℕ} (a ∷ b ∷ c ∷ []) (a' ∷ b' ∷ c' ∷ [])
three-same p q r = rw (p, q, r) refl

four_same : {a b c d a' b' c' d' : ℕ} → a ≡ a' → b ≡ b' → c ≡ c' → d ≡ d' → ◌≡◌ {A = List ℕ} (a ∷ b ∷ c ∷ d ∷ []) (a' ∷ b' ∷ c' ∷ d' ∷ [])
four_same p q r s = rw (p, q, r, s) refl

-- the bytes of a set before its key
head-again : (part : List ℕ) → Below part → 14 ≤ length part → set_yes_or_no part ≡ true → set_head (set_read part) ≡ take 14 part
unfolding set_read fields_read set_yes_or_no
head-again part b h y =
    let f = all-four (yes_or_no part 10) (yes_or_no part 11) (yes_or_no part 12) (yes_or_no part 13) y in
    let flags = four_same (flag-again part 10 f.0) (flag-again part 11 f.1) (flag-again part 12 f.2) (flag-again part 13 f.3) in
    ap₂ (λ (x y : List ℕ). byte_at part 0 ∷ byte_at part 1 ∷ byte_at part 2 ∷ byte_at part 3 ∷ byte_at part 4 ∷ (x ++ byte_at part 9 ∷ y)) (four-again part 5 6 7 8 b) flags ∙ sym (take-run 14 0 part h)

pub set-again : (part : List ℕ) → Below part → set_size ≤ length part → set_yes_or_no part ≡ true → set_bytes (set_read part) ≡ take set_size part
unfolding set_bytes set_read fields_read
set-again part b h y =
    let last : take 46 (drop 175 part) ≡ kads_bytes (kads_read (drop 175 part)) = sym (kads-again (drop 175 part) (omega (arith, length-drop 175 part))) in
    let keys : take 174 (drop 47 part) ≡ bytes_at supplemental_size part 47 ++ kads_bytes (kads_read (drop 175 part)) =
    then part 47 supplemental_size 46 (omega arith) ∙ ap (λ (l : List ℕ). bytes_at supplemental_size part 47 ++ l) last in
    let key : take 207 (drop 14 part) ≡ bytes_at key_size part 14 ++ byte_at part 46 ∷ (bytes_at supplemental_size part 47 ++ kads_bytes (kads_read (drop 175 part))) =
    then part 14 key_size 175 (omega arith) ∙ ap (λ (l : List ℕ). bytes_at key_size part 14 ++ l) (one part 46 174 (omega arith) ∙ ap (λ (l : List ℕ). byte_at part 46 ∷ l) keys) in
    sym (take-add 14 207 part ∙ ap₂ (λ (x y : List ℕ). x ++ y) (sym (head-again part b (omega arith) y)) key)

pub nexus-again : (part : List ℕ) → Below part → nexus_size ≤ length part → nexus_yes_or_no part ≡ true → nexus_bytes (nexus_read part) ≡ take nexus_size part
unfolding nexus_bytes nexus_read nexus_yes_or_no
nexus-again part b h y =
    let f = all-four (yes_or_no part 1) (yes_or_no part 10) (yes_or_no part 11) (yes_or_no part 12) y in
    let marks = three-same (flag-again part 10 f.1) (flag-again part 11 f.2) (flag-again part 12 f.3) in
    let numbers : four (number_at part 2) ++ four (number_at part 6) ≡ run part 2 8 = ap₂ (λ (x y : List ℕ). x ++ y) (four-again part 2 3 4 5 b) (four-again part 6 7 8 9 b) in
    ap (λ (k : ℕ). byte_at part 0 ∷ k ∷ (four (number_at part 2) ++ four (number_at part 6) ++ run (nexus_bytes (nexus_read part)) 10 3)) (flag-again part 1 f.0)
    ∙ ap₂ (λ (x y : List ℕ). byte_at part 0 ∷ byte_at part 1 ∷ (x ++ y)) numbers marks ∙ sym (take-run 13 0 part h)
