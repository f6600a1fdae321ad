-- Every public function's promise settles its answer, and each byte of a lent buffer.
use Prim.Native.Nat.{ℕ}
use mathlib.Core.Path.{◌≡◌}
use mathlib.Core.List.{List}
use Rattle.settled.specs.Settles.{Settles, SettlesAnswer, same, both-same}
use Rattle.wire.specs.Buffers.{Shown}
use Rattle.status_code.proofs.is_in_page.Reads as is-in-page
use Rattle.status_code.proofs.is_in_page.Kinds as is-in-page-kinds
use Rattle.status_code.proofs.is_out_page.Reads as is-out-page
use Rattle.status_code.proofs.is_out_page.Kinds as is-out-page-kinds
use Rattle.status_code.proofs.write_supported_in.Reads as write-supported-in
use Rattle.status_code.proofs.write_supported_in.Kinds as write-supported-in-kinds
use Rattle.status_code.proofs.write_supported_out.Reads as write-supported-out
use Rattle.status_code.proofs.write_supported_out.Kinds as write-supported-out-kinds
use Rattle.status_code.proofs.write_capabilities.Reads as write-capabilities
use Rattle.status_code.proofs.write_capabilities.Kinds as write-capabilities-kinds
use Rattle.status_code.proofs.write_status.Reads as write-status
use Rattle.status_code.proofs.write_status.Kinds as write-status-kinds
use Rattle.status_code.proofs.status_with.Reads as status-with
use Rattle.status_code.proofs.status_with.Kinds as status-with-kinds
use Rattle.status_code.proofs.read_status.Reads as read-status
use Rattle.status_code.proofs.read_status.Kinds as read-status-kinds

-- a page shown is the same length told, and the same bytes
shown-same : {page buffer : List ℕ} {r r₂ : ℕ} {b b₂ : List ℕ} → Shown page buffer r b → Shown page buffer r₂ b₂ → (r ≡ r₂) × (b ≡ b₂)
shown-same p q = both-same p.tells p.holds q.tells q.holds

pub is-in-page-settles : SettlesAnswer 0 is-in-page-kinds.ps is-in-page-kinds.r is-in-page.Post
is-in-page-settles κs a x y s t p q = same p q

pub is-out-page-settles : SettlesAnswer 0 is-out-page-kinds.ps is-out-page-kinds.r is-out-page.Post
is-out-page-settles κs a x y s t p q = same p q

pub write-supported-in-settles : Settles 1 write-supported-in-kinds.ps write-supported-in-kinds.r (List ℕ) (λ κs s. s.0.now) write-supported-in.Post
write-supported-in-settles κs a x y s t p q = shown-same p q

pub write-supported-out-settles : Settles 1 write-supported-out-kinds.ps write-supported-out-kinds.r (List ℕ) (λ κs s. s.0.now) write-supported-out.Post
write-supported-out-settles κs a x y s t p q = shown-same p q

pub write-capabilities-settles : Settles 1 write-capabilities-kinds.ps write-capabilities-kinds.r (List ℕ) (λ κs s. s.0.now) write-capabilities.Post
write-capabilities-settles κs a x y s t p q = shown-same p q

pub write-status-settles : Settles 1 write-status-kinds.ps write-status-kinds.r (List ℕ) (λ κs s. s.1.0.now) write-status.Post
write-status-settles κs a x y s t p q = shown-same p q

pub status-with-settles : SettlesAnswer 0 status-with-kinds.ps status-with-kinds.r status-with.Post
status-with-settles κs a x y s t p q = same p q

pub read-status-settles : SettlesAnswer 1 read-status-kinds.ps read-status-kinds.r read-status.Post
read-status-settles κs a x y s t p q = same p q
