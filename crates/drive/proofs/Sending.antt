-- A page that is sent is answered by its own check: so request 2 holds of every record, nexus and page; and 10 by the room for its set.
-- Assumes nothing.
use mathlib.Core.Path.{◌≡◌, refl, ◌∙◌}
use mathlib.Core.Bool.{Bool, true, false}
use mathlib.Core.Logic.{inr}
use mathlib.Core.List.{List, [], ◌∷◌}
use Prim.Native.Nat.{ℕ}
use borrow.Author.Tests.{eq-eqb, lt-leb}
use Rattle.answer.specs.declared.Answer.TheVariants.{Done, FieldWrong, NoPlaceForLocal}
use Rattle.page.specs.Byte5.{MakesSet, CeemFault}
use Rattle.page.proofs.Byte5.{byte-5-told}
use Rattle.device.specs.Record.{State}
use Rattle.places.specs.Actions.{room, is_no_room}
use Rattle.drive.specs.declared.Command.{Command}
use Rattle.drive.specs.Calls.{security_out}
use Rattle.drive.specs.Checks.{answer_if, first_of, page_checked, check10, checks, answer}
use Rattle.drive.specs.Sending.{Reached}

-- the last check's answer is the first that isn't 0, where those before it are 0
last-told : (fault : Bool) → first_of (answer_if fault NoPlaceForLocal ∷ []) ≡ answer_if fault NoPlaceForLocal
last-told true = refl
last-told false = refl

module _ (s : State) (command : Command) (reached : Reached s command) (page : List ℕ) where
  -- Where none of answers 1 to 6 is due, the page's own check decides, and then check 10.
  pub page-decides : let read = page_checked s command.nexus page in
      answer s (security_out command page) ≡ first_of (read.answer ∷ check10 s command.nexus read.page ∷ [])
  unfolding answer checks
  page-decides =
      simp (reached.formed, lt-leb _ _ reached.within, reached.another, reached.vendor, eq-eqb _ _ reached.protocol, eq-eqb _ _ reached.code)

  -- A page that makes a set with CEEM 10b or 11b and decryption DISABLE is answered 8 at byte 5, whoever sends it.
  pub ceem-refused : MakesSet page → CeemFault page → answer s (security_out command page) ≡ FieldWrong 5
  ceem-refused makes fault =
      let told : (page_checked s command.nexus page).answer ≡ FieldWrong 5 = byte-5-told page makes _ _ _ (inr fault) in
      page-decides ∙ rw told

  -- A LOCAL page that makes a set, and that its own check takes, is answered 10 where there is no room for it, else 0.
  pub place-decides : let read = page_checked s command.nexus page in
      read.answer ≡ Done → read.page.supplemental ≡ false → read.page.scope ≡ 1 → answer s (security_out command page) ≡ answer_if (is_no_room (room s command.nexus)) NoPlaceForLocal
  place-decides taken set local = page-decides ∙ (rw (taken, set, local) (last-told (is_no_room (room s command.nexus))))
