-- What a command orders.
-- Assumes nothing.
use Prim.Native.Nat.{◌≤◌}
use mathlib.Core.Bool.{Bool, true, false, ◌&&◌}
use native.Mathlib.Omega.{arith}
use borrow.Author.Tests.{leb-true}
use lib.Dec.{leb, eqb}
use Rattle.arrays.specs.Base.{when◌then◌else◌}
use Rattle.arrays.proofs.Base.{cases, and_left}
use Rattle.calls.specs.Kinds.{is_call}
use Rattle.command.specs.Kinds.{batch_kind, serves_kind, read_status_kind, take_record_kind, give_record_kind}
use Rattle.command.specs.Requests.{lent_most, lent_to, flag_known, call_order, batch_order, tool_order, order_of, lent_size}
use Rattle.command.specs.declared.Request.{Request}
use Rattle.command.specs.declared.Order.{Order}
use Rattle.command.specs.declared.Order.TheVariants.{Unknown, Serves, ReadStatus, TakeRecord, GiveRecord}

-- either of two orders lends at most 4,096 bytes where each does
either : (b : Bool) (x y : Order) → lent_size x ≤ lent_most → lent_size y ≤ lent_most → lent_size (when b then x else y) ≤ lent_most
either true x y h k = h
either false x y h k = k

call-lends : (r : Request) → lent_size (call_order r) ≤ lent_most
unfolding call_order
call-lends r = cases (leb (lent_to r) lent_most && flag_known r) (λ t. rw t (leb-true _ _ (and_left (leb (lent_to r) lent_most) (flag_known r) t))) (λ f. rw f (omega arith))

batch-lends : (r : Request) → lent_size (batch_order r) ≤ lent_most
batch-lends r = cases (leb r.argument lent_most) (λ t. rw t (leb-true _ _ t)) (λ f. rw f (omega arith))

tool-lends : (r : Request) → lent_size (tool_order r) ≤ lent_most
unfolding tool_order
tool-lends r =
    either (eqb r.kind batch_kind) (batch_order r) _ (batch-lends r)
    (either (eqb r.kind serves_kind) (Serves r.argument) _ (omega arith)
    (either (eqb r.kind read_status_kind) ReadStatus _ (omega arith)
    (either (eqb r.kind take_record_kind) TakeRecord _ (omega arith)
    (either (eqb r.kind give_record_kind) GiveRecord Unknown (omega arith) (omega arith)))))

-- at most 4,096 bytes are lent
pub lends-most : (r : Request) → lent_size (order_of r) ≤ lent_most
unfolding order_of
lends-most r = either (is_call r.kind) (call_order r) (tool_order r) (call-lends r) (tool-lends r)
