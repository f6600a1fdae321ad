-- Laws of checks in number order.
-- Assumes nothing.
use Prim.Native.Nat.{ℕ}
use mathlib.Core.Path.{◌≡◌, refl, sym, ap, ◌∙◌}
use mathlib.Core.Bool.{Bool, true, false, not}
use mathlib.Core.List.{List, [], ◌∷◌, ◌++◌}
use borrow.Author.Tests.{not-true, not-false}
use lib.Dec.{leb}
use lib.ListN.{length}
use Rattle.arrays.proofs.Base.{cases, clash}
use Rattle.answer.specs.Answers.{is_done}
use Rattle.answer.specs.declared.Answer.{Answer}
use Rattle.answer.specs.declared.Answer.TheVariants.{Done, NotWellFormed, NexusAbove, ChangedByAnotherNexus, ChangedByVendorEvent}
use Rattle.answer.proofs.Numbers.{done-is}
use Rattle.device.specs.Record.{State, nexus_at}
use Rattle.device.specs.WellFormed.{well_formed}
use Rattle.drive.specs.Checks.{answer_if, first_of, check1, heard_of}

-- where the first checks find a fault, theirs is the answer
pub first_stops : (a b : List Answer) → is_done (first_of a) ≡ false → first_of (a ++ b) ≡ first_of a
first_stops [] b f = clash refl f
first_stops (x ∷ a) b f = cases (is_done x) (λ t. rw t (first_stops a b (rw t at f))) (λ t. rw t)

-- and where they find none, the others decide
pub first_passes : (a b : List Answer) → is_done (first_of a) ≡ true → first_of (a ++ b) ≡ first_of b
first_passes [] b e = refl
first_passes (x ∷ a) b e = cases (is_done x) (λ t. rw t (first_passes a b (rw t at e))) (λ t. clash (rw t at e) t)

-- where none of them finds a fault, the first find none
pub front-done : (a b : List Answer) → is_done (first_of (a ++ b)) ≡ true → is_done (first_of a) ≡ true
front-done a b e = cases (is_done (first_of a)) (λ t. t) (λ f. clash e (ap is_done (first_stops a b f) ∙ f))

-- the first check's fault
pub first-fault : (a : Answer) (more : List Answer) → is_done a ≡ false → first_of (a ∷ more) ≡ a
first-fault a more f = rw f

-- the first check passed
pub first_next : (a : Answer) (more : List Answer) → is_done a ≡ true → first_of (a ∷ more) ≡ first_of more
first_next a more t = rw t

-- the last check decides
pub last-is : (a : Answer) → first_of (a ∷ []) ≡ a
last-is a = cases (is_done a) (λ t. rw t (sym (done-is a t))) (λ f. rw f)

-- each check is passed
abbrev pub AllDone : List Answer → Type 0
AllDone [] = Unit
AllDone (a ∷ more) = (is_done a ≡ true) × AllDone more

-- a call that is carried out has passed every check
pub all_done : (l : List Answer) → is_done (first_of l) ≡ true → AllDone l
all_done [] e = tt
all_done (a ∷ more) e = cases (is_done a) (λ t. (t, all_done more (rw t at e))) (λ f. clash (rw f at e) f)

-- a check whose answer has a number found no fault
pub passed : (fault : Bool) (a : Answer) → is_done a ≡ false → is_done (answer_if fault a) ≡ true → fault ≡ false
passed true a n e = clash e n
passed false a n e = refl

-- what holds of 0 to 4 holds of the answer of checks 1 to 4
module _ (P : Answer → Type 0) (one : P NotWellFormed) (two : P NexusAbove) (three : P ChangedByAnotherNexus) (four : P ChangedByVendorEvent) (none : P Done) where
  first-of : (a b c d : Bool) → P (first_of (answer_if a NotWellFormed ∷ answer_if b NexusAbove ∷ answer_if c ChangedByAnotherNexus ∷ answer_if d ChangedByVendorEvent ∷ []))
  first-of true b c d = one
  first-of false true c d = two
  first-of false false true d = three
  first-of false false false true = four
  first-of false false false false = none

  pub first-told : (s : State) (n : ℕ) → P (first_of (check1 s ∷ heard_of s n))
  first-told s n = first-of (not (well_formed s)) (leb (length s.nexuses) n) (nexus_at s n).marks.another (nexus_at s n).marks.vendor

-- what a branch on a call's `is_done` tells
pub fault-told : {b r : Bool} → r ≡ b → not r ≡ true → b ≡ false
fault-told {b} {r} e t = sym e ∙ not-true r t

pub done-told : {b r : Bool} → r ≡ b → not r ≡ false → b ≡ true
done-told {b} {r} e t = sym e ∙ not-false r t
