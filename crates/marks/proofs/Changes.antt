-- Changes in a nexus's marks that leave the record as it is.
-- Assumes nothing.
use Prim.Native.Nat.{ℕ}
use mathlib.Core.Path.{◌≡◌, refl, sym, ap, ◌∙◌}
use mathlib.Core.Bool.{true}
use mathlib.Core.List.{List}
use lib.ListN.{set}
use lib.Seq.{set-get_or}
use Rattle.arrays.proofs.Base.{clash}
use Rattle.answer.specs.declared.Change.{Change}
use Rattle.answer.specs.declared.Change.TheVariants.{Unchanged, AnotherCleared, VendorCleared, Registered}
use Rattle.device.specs.Record.{State, nexus_at, new_nexus}
use Rattle.device.specs.Updates.{with_marks, with_nexuses}
use Rattle.device.specs.declared.Marks.{Marks}
use Rattle.device.specs.declared.Nexus.{Nexus}
use Rattle.marks.specs.Marks.{changed, keeps_marks, changes}

-- a change of none is none
pub unchanged : (s : State) (n : ℕ) → changes s n Unchanged ≡ s
unfolding changes
unchanged s n = ap (λ (l : List Nexus). with_nexuses l s) (set-get_or s.nexuses n new_nexus)

-- marks that a change leaves
marks-left : (m : Marks) (change : Change) → keeps_marks m change ≡ true → changed change m ≡ m
marks-left m Unchanged e = refl
marks-left m AnotherCleared e = clash e refl
marks-left m VendorCleared e = clash e refl
marks-left m Registered e = λ i. record { registered = sym e i; another = m.another; vendor = m.vendor }

-- so does the record stay
pub changes-left : (s : State) (n : ℕ) (change : Change) → keeps_marks (nexus_at s n).marks change ≡ true → changes s n change ≡ s
unfolding changes
changes-left s n change e =
    ap (λ (m : Marks). with_nexuses (set s.nexuses n (with_marks m (nexus_at s n))) s) (marks-left (nexus_at s n).marks change e) ∙ unchanged s n
