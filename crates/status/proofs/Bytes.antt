-- The status page's bytes 4 and 12, put together from their fields, and taken apart.
-- Assumes nothing.
use mathlib.Core.Path.{◌≡◌, refl, sym}
use mathlib.Core.Bool.{Bool, true, false}
use Prim.Native.Nat.{ℕ, ◌+◌, ◌*◌, ◌/◌, ◌%◌, ◌<◌, ◌≤◌}
use native.Mathlib.Nat.{div-one}
use native.Mathlib.Omega.{arith}
use lib.Dec.{eqb}
use borrow.Author.Tests.{eqb-true, eqb-false}
use Rattle.arrays.specs.Base.{bit}
use Rattle.arrays.proofs.Base.{cases}
use Rattle.arrays.proofs.Loops.{bit-few}
use Rattle.wire.specs.Bits.{bits, bit_at}
use Rattle.status.specs.Bytes.{status_byte4, joined4, status_byte12, joined12}

-- byte 4 of two scopes is taken apart to these
pub split-joined-4 : (a b : ℕ) → a ≤ 7 → b ≤ 7 → status_byte4 (joined4 a b) ≡ record { nexus_scope = a; zeros = 0; set_scope = b }
split-joined-4 a b h l =
    let p : bits 7 5 (joined4 a b) ≡ a = omega arith in
    let q : bits 4 3 (joined4 a b) ≡ 0 = omega arith in
    let r : bits 2 0 (joined4 a b) ≡ b = omega arith in
    rw (p, q, r) refl

-- and a byte 4 whose bits 4–3 are zero is that of its scopes
pub joined-split-4 : (b : ℕ) → b < 256 → (status_byte4 b).zeros ≡ 0 → joined4 (status_byte4 b).nexus_scope (status_byte4 b).set_scope ≡ b
joined-split-4 b h z = omega arith

-- the lowest bit of a number put together with it
odd : (c : ℕ) (r : Bool) → bit_at 0 (c * 2 + bit r) ≡ r
odd c true = let e : bits 0 0 (c * 2 + 1) ≡ 1 = omega arith in rw e refl
odd c false = let e : bits 0 0 (c * 2 + 0) ≡ 0 = omega arith in rw e refl

-- byte 12 of CEEMS and RDMD is taken apart to these
pub split-joined-12 : (c : ℕ) (r : Bool) → c ≤ 3 → status_byte12 (joined12 c r) ≡ record { zeros = 0; ceems = c; rdmd = r }
split-joined-12 c r h =
    let p : bits 7 3 (joined12 c r) ≡ 0 = omega (arith, bit-few r) in
    let q : bits 2 1 (joined12 c r) ≡ c = omega (arith, bit-few r) in
    rw (p, q, odd (c % 4) r) refl

-- a bit is the Bool that it makes
parity : (n : ℕ) → n < 2 → bit (eqb n 1) ≡ n
parity n h = cases (eqb n 1) (λ e. rw e (sym (eqb-true n 1 e))) (λ e. let z : n ≡ 0 = omega (arith, eqb-false n 1 e) in rw z refl)

-- and a byte 12 whose bits 7–3 are zero is that of its fields
pub joined-split-12 : (b : ℕ) → b < 256 → (status_byte12 b).zeros ≡ 0 → joined12 (status_byte12 b).ceems (status_byte12 b).rdmd ≡ b
joined-split-12 b h z =
    let few : b / 8 ≡ 0 = omega arith in
    rw (parity (bits 0 0 b) (omega arith), div-one b) (omega arith)
