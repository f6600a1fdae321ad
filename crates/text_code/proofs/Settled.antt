-- Every public function's promise settles its answer, and all that was lent.
use Prim.Native.Nat.{ℕ}
use mathlib.Core.List.{List}
use mathlib.Core.Path.{refl}
use Rattle.settled.specs.Settles.{Settles, SettlesAnswer, SettlesPart, same, both-same}
use Rattle.text_code.specs.declared.Lines.{Lines}
use Rattle.text_code.proofs.put_decimal.Reads as put-decimal
use Rattle.text_code.proofs.put_decimal.Kinds as put-decimal-kinds
use Rattle.text_code.proofs.read_decimal.Reads as read-decimal
use Rattle.text_code.proofs.read_decimal.Kinds as read-decimal-kinds
use Rattle.text_code.proofs.Lines.put_words.Reads as put-words
use Rattle.text_code.proofs.Lines.put_words.Kinds as put-words-kinds
use Rattle.text_code.proofs.Lines.put_number.Reads as put-number
use Rattle.text_code.proofs.Lines.put_number.Kinds as put-number-kinds
use Rattle.text_code.proofs.Lines.text.Reads as text
use Rattle.text_code.proofs.Lines.text.Kinds as text-kinds

pub put-decimal-settles : Settles 1 put-decimal-kinds.ps put-decimal-kinds.r (List ℕ) (λ κs s. s.0.now) put-decimal.Post
put-decimal-settles κs a x y s t p q = both-same p.0 p.1 q.0 q.1

pub read-decimal-settles : SettlesAnswer 1 read-decimal-kinds.ps read-decimal-kinds.r read-decimal.Post
read-decimal-settles κs a x y s t p q = same p q

pub put-words-settles : Settles 2 put-words-kinds.ps put-words-kinds.r Lines (λ κs s. s.0.now) put-words.Post
put-words-settles κs a x y s t p q = (refl, same p q)

pub put-number-settles : Settles 1 put-number-kinds.ps put-number-kinds.r Lines (λ κs s. s.0.now) put-number.Post
put-number-settles κs a x y s t p q = (refl, same p.0 q.0)

pub text-settles : SettlesPart 1 text-kinds.ps text-kinds.r (List ℕ) (λ κs x. x.now) text.Post
text-settles κs a x y s t p q = same p q
