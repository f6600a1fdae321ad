-- Texts put one after another.
-- Assumes nothing.
use Prim.Native.Nat.{ℕ, ◌+◌}
use mathlib.Core.Path.{◌≡◌, refl, ap₂, subst, ◌∙◌}
use mathlib.Core.List.{List, [], ◌++◌}
use native.Mathlib.Omega.{arith}
use lib.ListN.{length, replicate, length-append}
use lib.Seq.{sets}
use Rattle.wire.specs.Buffers.{padded}
use Rattle.wire.proofs.Stores.{sets-append, sets-shown}
use Rattle.text.specs.Puts.{Put}

-- a text that is told
pub put_is : (text : List ℕ) {b c : List ℕ} {at to : ℕ} → to ≡ at + length text → c ≡ sets b at text → Put b at text to c
put_is text t h = record { tells = t; holds = h }

-- a text that is another
pub put_as : {b c v w : List ℕ} {at to : ℕ} → v ≡ w → Put b at v to c → Put b at w to c
put_as {b} {c} {at = at} {to = to} e p = subst (λ text. Put b at text to c) e p

-- a text, and another just after it
pub put_then : {b c d v w : List ℕ} {at to end : ℕ} → Put b at v to c → Put c to w end d → Put b at (v ++ w) end d
put_then {b = b} {v = v} {w = w} {at = at} p q = record {
  tells = let l = length-append v w in omega (arith, l, p.tells, q.tells);
  holds = q.holds ∙ ap₂ (λ x k. sets x k w) p.holds p.tells ∙ sets-append b at v w;
}

-- no text
pub put-none : {b : List ℕ} {at : ℕ} → Put b at [] at b
put-none = record { tells = omega arith; holds = refl }

-- a text put from the start of n zeros, and told by its length
pub put_whole : (n : ℕ) (text : List ℕ) {bytes : List ℕ} {end : ℕ} → Put (replicate n 0) 0 text end bytes → (bytes ≡ padded n text) × (end ≡ length text)
put_whole n text p = (p.holds ∙ sets-shown text (replicate n 0), omega (arith, p.tells))
