-- Checks as the code makes them: passed, or the answer of the first that finds a fault.
-- Assumes nothing.
use mathlib.Core.Path.{◌≡◌, sym, ap, ◌∙◌}
use mathlib.Core.Bool.{false}
use mathlib.Core.List.{List, [], ◌∷◌, ◌++◌}
use Rattle.std.specs.Prelude.{Ok, Err, is_ok}
use Rattle.answer.specs.Answers.{is_done, passed}
use Rattle.answer.specs.declared.Answer.{Answer}
use Rattle.answer.specs.declared.Answer.TheVariants.{Done}
use Rattle.answer.proofs.Passed.{passed-done, passed-is, refused-is, refused-fault, fault-refused}
use Rattle.device.specs.Record.{State}
use Rattle.device.specs.declared.Set.{Set}
use Rattle.drive.specs.declared.Block.{Block}
use Rattle.drive.specs.Calls.{Call}
use Rattle.drive.specs.Restoring.{Ruling, ruled_answer, restored}
use Rattle.drive.specs.Checks.{first_of, checks, known_answer}
use Rattle.drive.proofs.Checks.{first_stops, first_passes, last-is}
use Rattle.drive.proofs.Effects.{restored-own}

-- the answer of a refused check isn't 0
pub refused-stops : (b a : Answer) → Err a ≡ passed b → is_done a ≡ false
refused-stops b a e = ap is_done (refused-is b a e) ∙ refused-fault b a e

-- a read that is refused: its answer isn't 0
pub restored-refused : (set : Set) (block : Block) (a : Answer) → Err a ≡ restored set block → Err a ≡ passed (ruled_answer (restored set block))
restored-refused set block a e =
    let fault : is_done a ≡ false = ap (λ (v : Ruling). is_done (ruled_answer v)) e ∙ sym (restored-own set block).given ∙ sym (ap (λ (v : Ruling). is_ok v) e) in
    fault-refused a fault ∙ ap (λ (v : Ruling). passed (ruled_answer v)) e

-- where checks in front of it find no fault, its answer is theirs
pub read-refused : (front : List Answer) (set : Set) (block : Block) (a : Answer) → Ok tt ≡ passed (first_of front) → Err a ≡ restored set block
    → Err a ≡ passed (first_of (front ++ ruled_answer (restored set block) ∷ []))
read-refused front set block a e h =
    let own = ruled_answer (restored set block) in
    restored-refused set block a h ∙ ap passed (sym (first_passes front (own ∷ []) (passed-done (first_of front) e) ∙ last-is own))

-- a call's checks after the first: those in front, and the rest
module _ (s : State) (call : Call) (front rest : List Answer) (made : checks s call ≡ front ++ rest) where
  -- where the front finds a fault, its answer is the call's
  pub front-refused : (a : Answer) → Err a ≡ passed (first_of front) → a ≡ known_answer s call
  unfolding known_answer
  front-refused a e = refused-is (first_of front) a e ∙ sym (ap first_of made ∙ first_stops front rest (refused-fault (first_of front) a e))

  -- where it finds none, the rest decides
  pub front-passed : Ok tt ≡ passed (first_of front) → known_answer s call ≡ first_of rest
  unfolding known_answer
  front-passed e = ap first_of made ∙ first_passes front rest (passed-done (first_of front) e)

  pub rest-refused : Ok tt ≡ passed (first_of front) → (a : Answer) → Err a ≡ passed (first_of rest) → a ≡ known_answer s call
  rest-refused e a h = refused-is (first_of rest) a h ∙ sym (front-passed e)

  pub rest-passed : Ok tt ≡ passed (first_of front) → Ok tt ≡ passed (first_of rest) → Done ≡ known_answer s call
  rest-passed e h = passed-is (first_of rest) h ∙ sym (front-passed e)
