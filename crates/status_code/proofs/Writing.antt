-- The status page as it is stored: its first 24 bytes, then the descriptors.
-- Assumes nothing.
use mathlib.Core.Path.{◌≡◌, refl, ap, ◌∙◌}
use mathlib.Core.List.{List, ◌∷◌, ◌++◌}
use Prim.Native.Nat.{ℕ, ◌+◌, ◌<◌, ◌≤◌}
use native.Mathlib.Omega.{arith}
use lib.ListN.{length, take}
use lib.Seq.{sets}
use Rattle.wire.specs.Numbers.{byte_at, word_at, two}
use Rattle.wire.specs.Buffers.{Shown}
use Rattle.wire.proofs.Stores.{sets-append, sets-shown, take-padded}
use Rattle.kad.specs.Writing.{descriptors, list_most, written}
use Rattle.kad.specs.declared.Written.{Written}
use Rattle.status.specs.Pages.{status_code}
use Rattle.status.specs.Status.{status_fields, status_bytes}
use Rattle.status.specs.Rules.{descriptors_from}
use Rattle.status.specs.declared.Status.{Status}

-- the first 24 bytes, where the page length is told by one byte
abbrev pub status_head : Status → ℕ → List ℕ
status_head s after = two status_code ++ 0 ∷ after ∷ status_fields s

-- they and the descriptors are the page, where that is the length that it tells
head-then-list : (s : Status) (after : ℕ) → after < 256 → word_at (status_bytes s) 2 ≡ after → status_head s after ++ descriptors s.kads ≡ status_bytes s
unfolding status_bytes
head-then-list s after h e =
    let high : byte_at (status_bytes s) 2 ≡ 0 = omega arith in
    let low : byte_at (status_bytes s) 3 ≡ after = omega arith in
    rw (high, low) refl

-- the descriptors are at the start of what was written of them
list-taken : (s : Status) (w : Written) → w ≡ written s.kads → w.length ≤ list_most → take w.length w.bytes ≡ descriptors s.kads
list-taken s w e h = rw e (take-padded list_most (descriptors s.kads) (rw e at h))

-- the first 24 bytes stored, and the descriptors after them, show the page
pub stored : (s : Status) (buffer : List ℕ) {after : ℕ} {w : Written} {head b₁ b₂ : List ℕ} → w ≡ written s.kads → w.length ≤ list_most
    → head ≡ status_head s after → after < 256 → word_at (status_bytes s) 2 ≡ after → b₁ ≡ sets buffer 0 head → b₂ ≡ sets b₁ descriptors_from (take w.length w.bytes) → Shown (status_bytes s) buffer (descriptors_from + w.length) b₂
stored s buffer {after} {w} {head} {b₁} {b₂} e h p m n q t =
    let list = descriptors s.kads in
    let size : w.length ≡ length list = ap (λ (x : Written). x.length) e in
    let page : status_head s after ++ list ≡ status_bytes s = head-then-list s after m n in
    record {
      tells = omega (arith, ap length page);
      holds = t ∙ rw (q, p, list-taken s w e h) (sets-append buffer 0 (status_head s after) list ∙ ap (sets buffer 0) page ∙ sets-shown (status_bytes s) buffer);
    }
