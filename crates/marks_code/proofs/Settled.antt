-- Every public function's promise settles its answer, and the lent slice.
use mathlib.Core.Path.{◌≡◌}
use mathlib.Core.List.{map}
use seplogic.Ra.Ura.{Ura}
use base.Logic.{SProp, ent, sep, fst∗, snd∗}
use prog.Memory.{Memory}
use prog.Routine.{Routine}
use types.Logic.{Logic}
use contract.Monad.{Fun, fact, fact_i, fact_use}
use contract.Lifetimes.{Lfts}
use denote.Triple.Entry.{Args, Res}
use denote.Triple.Clauses.{AtExit}
use Rattle.settled.specs.Settles.{SettlesAnswer, same}
use Rattle.marks.specs.Reset.{unmarked}
use Rattle.marks_code.specs.contracts.clear_marks as clear-marks
use Rattle.marks_code.proofs.remark.Reads as remark
use Rattle.marks_code.proofs.remark.Kinds as remark-kinds
use Rattle.marks_code.proofs.keeps_marks.Reads as keeps-marks
use Rattle.marks_code.proofs.keeps_marks.Kinds as keeps-marks-kinds
use Rattle.marks_code.proofs.is_asked.Reads as is-asked
use Rattle.marks_code.proofs.is_asked.Kinds as is-asked-kinds
use Rattle.marks_code.proofs.alert.Reads as alert
use Rattle.marks_code.proofs.alert.Kinds as alert-kinds

pub remark-settles : SettlesAnswer 0 remark-kinds.ps remark-kinds.r remark.Post
remark-settles κs a x y s t p q = same p q

pub keeps-marks-settles : SettlesAnswer 0 keeps-marks-kinds.ps keeps-marks-kinds.r keeps-marks.Post
keeps-marks-settles κs a x y s t p q = same p q

pub is-asked-settles : SettlesAnswer 0 is-asked-kinds.ps is-asked-kinds.r is-asked.Post
is-asked-settles κs a x y s t p q = same p q

pub alert-settles : SettlesAnswer 0 alert-kinds.ps alert-kinds.r alert.Post
alert-settles κs a x y s t p q = same p q

-- the one law, of promises: what is promised equal to the same thing is equal
pub promised-same : {M : Type 1} (𝓤 : Ura M) {B : Type 0} (x y f : B) → ent 𝓤 (sep 𝓤 (fact 𝓤 (x ≡ f)) (fact 𝓤 (y ≡ f))) (fact 𝓤 (x ≡ y))
promised-same 𝓤 x y f = fact_use 𝓤 (x ≡ f) (fst∗ 𝓤 (fact 𝓤 (x ≡ f)) (fact 𝓤 (y ≡ f))) (λ p. fact_use 𝓤 (y ≡ f) (snd∗ 𝓤 (fact 𝓤 (x ≡ f)) (fact 𝓤 (y ≡ f))) (λ q. fact_i 𝓤 (x ≡ y) _ (same p q)))

-- The function over a lent slice of structs has no `Post`: its promise is its contract's clause. It gives no answer, and the slice at exit is settled.
module _ {M : Type 1} {𝓤 : Ura M} (𝓛 : Logic 𝓤) (mem : Memory → SProp 𝓤) (run : Routine → Fun 𝓤) (κs : Lfts 1) (a : Args clear-marks.signature κs) where
  abbrev Promised : Res clear-marks.signature κs → AtExit clear-marks.ended κs → SProp 𝓤
  Promised x s = (clear-marks.clauses 𝓛 mem run κs a).ensures tt x s

  pub clear-marks-settles : (x y : Res clear-marks.signature κs) (s t : AtExit clear-marks.ended κs) → ent 𝓤 (sep 𝓤 (Promised x s) (Promised y t)) (fact 𝓤 (s.0.now ≡ t.0.now))
  clear-marks-settles x y s t = promised-same 𝓤 s.0.now t.0.now (map unmarked a.0.now)
