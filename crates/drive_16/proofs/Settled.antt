-- Every public function's promise settles its answer, and each byte of a lent buffer.
use Prim.Native.Nat.{ℕ}
use mathlib.Core.List.{List}
use Rattle.settled.specs.Settles.{Settles, SettlesAnswer, same, both-same}
use Rattle.drive_16.proofs.power_on.Reads as power-on
use Rattle.drive_16.proofs.power_on.Kinds as power-on-kinds
use Rattle.drive_16.proofs.security_in_known.Reads as security-in-known
use Rattle.drive_16.proofs.security_in_known.Kinds as security-in-known-kinds
use Rattle.drive_16.proofs.security_in.Reads as security-in
use Rattle.drive_16.proofs.security_in.Kinds as security-in-kinds
use Rattle.drive_16.proofs.check_page.Reads as check-page
use Rattle.drive_16.proofs.check_page.Kinds as check-page-kinds
use Rattle.drive_16.proofs.security_out_known.Reads as security-out-known
use Rattle.drive_16.proofs.security_out_known.Kinds as security-out-known-kinds
use Rattle.drive_16.proofs.security_out.Reads as security-out
use Rattle.drive_16.proofs.security_out.Kinds as security-out-kinds
use Rattle.drive_16.proofs.write_known.Reads as write_known
use Rattle.drive_16.proofs.write_known.Kinds as write-known-kinds
use Rattle.drive_16.proofs.write.Reads as write
use Rattle.drive_16.proofs.write.Kinds as write-kinds
use Rattle.drive_16.proofs.read_known.Reads as read_Known
use Rattle.drive_16.proofs.read_known.Kinds as read-known-kinds
use Rattle.drive_16.proofs.read.Reads as read
use Rattle.drive_16.proofs.read.Kinds as read-kinds
use Rattle.drive_16.proofs.unit_reset_known.Reads as unit-reset-known
use Rattle.drive_16.proofs.unit_reset_known.Kinds as unit-reset-known-kinds
use Rattle.drive_16.proofs.unit_reset.Reads as unit-reset
use Rattle.drive_16.proofs.unit_reset.Kinds as unit-reset-kinds
use Rattle.drive_16.proofs.serves.Reads as serves
use Rattle.drive_16.proofs.serves.Kinds as serves-kinds
use Rattle.drive_16.proofs.happen_known.Reads as happen-known
use Rattle.drive_16.proofs.happen_known.Kinds as happen-known-kinds
use Rattle.drive_16.proofs.happen.Reads as happen
use Rattle.drive_16.proofs.happen.Kinds as happen-kinds

pub power-on-settles : SettlesAnswer 0 power-on-kinds.ps power-on-kinds.r power-on.Post
power-on-settles κs a x y s t p q = same p q

pub security-in-known-settles : Settles 1 security-in-known-kinds.ps security-in-known-kinds.r (List ℕ) (λ κs s. s.1.1.0.now) security-in-known.Post
security-in-known-settles κs a x y s t p q = both-same p.0 p.1 q.0 q.1

pub security-in-settles : Settles 1 security-in-kinds.ps security-in-kinds.r (List ℕ) (λ κs s. s.1.1.0.now) security-in.Post
security-in-settles κs a x y s t p q = both-same p.0 p.1 q.0 q.1

pub check-page-settles : SettlesAnswer 1 check-page-kinds.ps check-page-kinds.r check-page.Post
check-page-settles κs a x y s t p q = same p q

pub security-out-known-settles : SettlesAnswer 1 security-out-known-kinds.ps security-out-known-kinds.r security-out-known.Post
security-out-known-settles κs a x y s t p q = same p q

pub security-out-settles : SettlesAnswer 1 security-out-kinds.ps security-out-kinds.r security-out.Post
security-out-settles κs a x y s t p q = same p q

pub write-known-settles : SettlesAnswer 0 write-known-kinds.ps write-known-kinds.r write_known.Post
write-known-settles κs a x y s t p q = same p q

pub write-settles : SettlesAnswer 0 write-kinds.ps write-kinds.r write.Post
write-settles κs a x y s t p q = same p q

pub read-known-settles : SettlesAnswer 0 read-known-kinds.ps read-known-kinds.r read_Known.Post
read-known-settles κs a x y s t p q = same p q

pub read-settles : SettlesAnswer 0 read-kinds.ps read-kinds.r read.Post
read-settles κs a x y s t p q = same p q

pub unit-reset-known-settles : SettlesAnswer 0 unit-reset-known-kinds.ps unit-reset-known-kinds.r unit-reset-known.Post
unit-reset-known-settles κs a x y s t p q = same p q

pub unit-reset-settles : SettlesAnswer 0 unit-reset-kinds.ps unit-reset-kinds.r unit-reset.Post
unit-reset-settles κs a x y s t p q = same p q

pub happen-known-settles : SettlesAnswer 0 happen-known-kinds.ps happen-known-kinds.r happen-known.Post
happen-known-settles κs a x y s t p q = same p q

pub happen-settles : SettlesAnswer 0 happen-kinds.ps happen-kinds.r happen.Post
happen-settles κs a x y s t p q = same p q

pub serves-settles : SettlesAnswer 0 serves-kinds.ps serves-kinds.r serves.Post
serves-settles κs a x y s t p q = same p q
