-- Every public function's promise settles its answer; of a part of what was lent, what it holds.
use Prim.Native.Nat.{ℕ}
use mathlib.Core.List.{List}
use Rattle.settled.specs.Settles.{SettlesAnswer, SettlesPart, same}
use Rattle.command_code.proofs.request_of.Reads as request-of
use Rattle.command_code.proofs.request_of.Kinds as request-of-kinds
use Rattle.command_code.proofs.has_data.Reads as has-data
use Rattle.command_code.proofs.has_data.Kinds as has-data-kinds
use Rattle.command_code.proofs.order_of.Reads as order-of
use Rattle.command_code.proofs.order_of.Kinds as order-of-kinds
use Rattle.command_code.proofs.holds_events.Reads as holds-events
use Rattle.command_code.proofs.holds_events.Kinds as holds-events-kinds
use Rattle.command_code.proofs.batch_events.Reads as batch-events
use Rattle.command_code.proofs.batch_events.Kinds as batch-events-kinds
use Rattle.command_code.proofs.batch_pages.Reads as batch-pages
use Rattle.command_code.proofs.batch_pages.Kinds as batch-pages-kinds
use Rattle.command_code.proofs.reply_head.Reads as reply-head
use Rattle.command_code.proofs.reply_head.Kinds as reply-head-kinds
use Rattle.command_code.proofs.values_head.Reads as values-head
use Rattle.command_code.proofs.values_head.Kinds as values-head-kinds

pub request-of-settles : SettlesAnswer 0 request-of-kinds.ps request-of-kinds.r request-of.Post
request-of-settles κs a x y s t p q = same p q

pub has-data-settles : SettlesAnswer 0 has-data-kinds.ps has-data-kinds.r has-data.Post
has-data-settles κs a x y s t p q = same p q

pub order-of-settles : SettlesAnswer 0 order-of-kinds.ps order-of-kinds.r order-of.Post
order-of-settles κs a x y s t p q = same p q

pub holds-events-settles : SettlesAnswer 1 holds-events-kinds.ps holds-events-kinds.r holds-events.Post
holds-events-settles κs a x y s t p q = same p q

pub batch-events-settles : SettlesPart 1 batch-events-kinds.ps batch-events-kinds.r (List ℕ) (λ κs x. x.now) batch-events.Post
batch-events-settles κs a x y s t p q = same p q

pub batch-pages-settles : SettlesPart 1 batch-pages-kinds.ps batch-pages-kinds.r (List ℕ) (λ κs x. x.now) batch-pages.Post
batch-pages-settles κs a x y s t p q = same p q

pub reply-head-settles : SettlesAnswer 0 reply-head-kinds.ps reply-head-kinds.r reply-head.Post
reply-head-settles κs a x y s t p q = same p q

pub values-head-settles : SettlesAnswer 0 values-head-kinds.ps values-head-kinds.r values-head.Post
values-head-settles κs a x y s t p q = same p q
