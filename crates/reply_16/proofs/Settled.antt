-- Every public function's promise settles its answer, and each byte of the lent buffer.
use Prim.Native.Nat.{ℕ}
use mathlib.Core.List.{List}
use Rattle.settled.specs.Settles.{Settles, SettlesAnswer, same, both-same}
use Rattle.reply_16.proofs.reply_with.Reads as reply-with
use Rattle.reply_16.proofs.reply_with.Kinds as reply-with-kinds
use Rattle.reply_16.proofs.plain.Reads as plain
use Rattle.reply_16.proofs.plain.Kinds as plain-kinds
use Rattle.reply_16.proofs.unknown.Reads as unknown
use Rattle.reply_16.proofs.unknown.Kinds as unknown-kinds
use Rattle.reply_16.proofs.give_out.Reads as give-out
use Rattle.reply_16.proofs.give_out.Kinds as give-out-kinds
use Rattle.reply_16.proofs.give_write.Reads as give-write
use Rattle.reply_16.proofs.give_write.Kinds as give-write-kinds
use Rattle.reply_16.proofs.give_read.Reads as give-read
use Rattle.reply_16.proofs.give_read.Kinds as give-read-kinds
use Rattle.reply_16.proofs.give_served.Reads as give-served
use Rattle.reply_16.proofs.give_served.Kinds as give-served-kinds
use Rattle.reply_16.proofs.give_status.Reads as give-status
use Rattle.reply_16.proofs.give_status.Kinds as give-status-kinds
use Rattle.reply_16.proofs.take_record.Reads as take-record
use Rattle.reply_16.proofs.take_record.Kinds as take-record-kinds
use Rattle.reply_16.proofs.give_record.Reads as give-record
use Rattle.reply_16.proofs.give_record.Kinds as give-record-kinds

pub reply-with-settles : SettlesAnswer 0 reply-with-kinds.ps reply-with-kinds.r reply-with.Post
reply-with-settles κs a x y s t p q = same p q

pub plain-settles : SettlesAnswer 0 plain-kinds.ps plain-kinds.r plain.Post
plain-settles κs a x y s t p q = same p q

pub unknown-settles : SettlesAnswer 0 unknown-kinds.ps unknown-kinds.r unknown.Post
unknown-settles κs a x y s t p q = same p q

pub give-out-settles : Settles 2 give-out-kinds.ps give-out-kinds.r (List ℕ) (λ κs s. s.1.1.1.0.now) give-out.Post
give-out-settles κs a x y s t p q = both-same p.tells p.holds q.tells q.holds

pub give-write-settles : Settles 1 give-write-kinds.ps give-write-kinds.r (List ℕ) (λ κs s. s.1.1.1.0.now) give-write.Post
give-write-settles κs a x y s t p q = both-same p.tells p.holds q.tells q.holds

pub give-read-settles : Settles 1 give-read-kinds.ps give-read-kinds.r (List ℕ) (λ κs s. s.1.1.1.0.now) give-read.Post
give-read-settles κs a x y s t p q = both-same p.tells p.holds q.tells q.holds

pub give-served-settles : Settles 1 give-served-kinds.ps give-served-kinds.r (List ℕ) (λ κs s. s.1.1.0.now) give-served.Post
give-served-settles κs a x y s t p q = both-same p.tells p.holds q.tells q.holds

pub give-status-settles : Settles 2 give-status-kinds.ps give-status-kinds.r (List ℕ) (λ κs s. s.1.1.0.now) give-status.Post
give-status-settles κs a x y s t p q = both-same p.tells p.holds q.tells q.holds

pub take-record-settles : SettlesAnswer 1 take-record-kinds.ps take-record-kinds.r take-record.Post
take-record-settles κs a x y s t p q = same p q

pub give-record-settles : Settles 1 give-record-kinds.ps give-record-kinds.r (List ℕ) (λ κs s. s.1.0.now) give-record.Post
give-record-settles κs a x y s t p q = both-same p.tells p.holds q.tells q.holds
