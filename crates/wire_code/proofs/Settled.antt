-- Every public function's promise settles its answer, and each byte of a lent buffer.
use Prim.Native.Nat.{ℕ}
use mathlib.Core.Path.{refl}
use mathlib.Core.List.{List}
use mir.Syntax.{w64}
use mir.Val.{Fits}
use Rattle.settled.specs.Settles.{Settles, SettlesAnswer, SettlesPart, same, both-same}
use Rattle.wire_code.proofs.byte_at.Reads as byte_at
use Rattle.wire_code.proofs.byte_at.Kinds as byte-at-kinds
use Rattle.wire_code.proofs.word.Reads as word
use Rattle.wire_code.proofs.word.Kinds as word-kinds
use Rattle.wire_code.proofs.number.Reads as number
use Rattle.wire_code.proofs.number.Kinds as number-kinds
use Rattle.wire_code.proofs.word_at.Reads as word_at
use Rattle.wire_code.proofs.word_at.Kinds as word-at-kinds
use Rattle.wire_code.proofs.two.Reads as two
use Rattle.wire_code.proofs.two.Kinds as two-kinds
use Rattle.wire_code.proofs.four.Reads as four
use Rattle.wire_code.proofs.four.Kinds as four-kinds
use Rattle.wire_code.proofs.wide.Reads as wide
use Rattle.wire_code.proofs.wide.Kinds as wide-kinds
use Rattle.wire_code.proofs.eight.Reads as eight
use Rattle.wire_code.proofs.eight.Kinds as eight-kinds
use Rattle.wire_code.proofs.put.Reads as put
use Rattle.wire_code.proofs.put.Kinds as put-kinds
use Rattle.wire_code.proofs.show.Reads as show
use Rattle.wire_code.proofs.show.Kinds as show-kinds
use Rattle.wire_code.proofs.padded.Reads as padded
use Rattle.wire_code.proofs.padded.Kinds as padded-kinds
use Rattle.wire_code.proofs.all_zero.Reads as all-zero
use Rattle.wire_code.proofs.all_zero.Kinds as all-zero-kinds
use Rattle.wire_code.proofs.zero_from.Reads as zero-from
use Rattle.wire_code.proofs.zero_from.Kinds as zero-from-kinds
use Rattle.wire_code.proofs.is_length_wrong.Reads as is-length-wrong
use Rattle.wire_code.proofs.is_length_wrong.Kinds as is-length-wrong-kinds
use Rattle.wire_code.proofs.number_at.Reads as number_at
use Rattle.wire_code.proofs.number_at.Kinds as number-at-kinds
use Rattle.wire_code.proofs.rest.Reads as rest
use Rattle.wire_code.proofs.rest.Kinds as rest-kinds
use Rattle.wire_code.proofs.part.Reads as part
use Rattle.wire_code.proofs.part.Kinds as part-kinds

pub byte-at-settles : SettlesAnswer 1 byte-at-kinds.ps byte-at-kinds.r byte_at.Post
byte-at-settles κs a x y s t p q = same p q

pub word-settles : SettlesAnswer 0 word-kinds.ps word-kinds.r word.Post
word-settles κs a x y s t p q = same p.0 q.0

pub number-settles : SettlesAnswer 0 number-kinds.ps number-kinds.r number.Post
number-settles κs a x y s t p q = same p q

pub word-at-settles : SettlesAnswer 1 word-at-kinds.ps word-at-kinds.r word_at.Post
word-at-settles κs a x y s t p q = same p.0 q.0

pub two-settles : SettlesAnswer 0 two-kinds.ps two-kinds.r two.Post
two-settles κs a x y s t p q = same p q

pub four-settles : SettlesAnswer 0 four-kinds.ps four-kinds.r four.Post
four-settles κs a x y s t p q = same p q

pub wide-settles : SettlesAnswer 1 wide-kinds.ps wide-kinds.r wide.Post
wide-settles κs a x y s t p q = same p q

pub eight-settles : SettlesAnswer 0 eight-kinds.ps eight-kinds.r eight.Post
eight-settles κs a x y s t p q = same p q

pub put-settles : Settles 2 put-kinds.ps put-kinds.r (List ℕ) (λ κs s. s.0.now) put.Post
put-settles κs a x y s t p q = (refl, same p q)

pub show-settles : Settles 2 show-kinds.ps show-kinds.r (List ℕ) (λ κs s. s.1.0.now) show.Post
show-settles κs a x y s t p q = both-same p.tells p.holds q.tells q.holds

pub padded-settles : (n : ℕ) (f : Fits w64 n) → SettlesAnswer 2 (padded-kinds.ps n f) (padded-kinds.r n f) (padded.Post n f)
padded-settles n f κs a x y s t p q = same p q

pub all-zero-settles : SettlesAnswer 1 all-zero-kinds.ps all-zero-kinds.r all-zero.Post
all-zero-settles κs a x y s t p q = same p q

pub zero-from-settles : SettlesAnswer 1 zero-from-kinds.ps zero-from-kinds.r zero-from.Post
zero-from-settles κs a x y s t p q = same p q

pub is-length-wrong-settles : SettlesAnswer 1 is-length-wrong-kinds.ps is-length-wrong-kinds.r is-length-wrong.Post
is-length-wrong-settles κs a x y s t p q = same p q

pub number-at-settles : SettlesAnswer 1 number-at-kinds.ps number-at-kinds.r number_at.Post
number-at-settles κs a x y s t p q = same p q

pub part-settles : SettlesPart 1 part-kinds.ps part-kinds.r (List ℕ) (λ κs x. x.now) part.Post
part-settles κs a x y s t p q = same p q

pub rest-settles : SettlesPart 1 rest-kinds.ps rest-kinds.r (List ℕ) (λ κs x. x.now) rest.Post
rest-settles κs a x y s t p q = same p q
