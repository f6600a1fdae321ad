use Prim.Native.Nat.{ℕ}
use mathlib.Core.Bool.{Bool}
use mathlib.Core.List.{List, []}
use mathlib.Core.Path.{◌≡◌, refl, sym, ap, ◌∙◌}
use Rattle.sizes_16.specs.Sizes.{nexus_count}
use Rattle.calls.specs.declared.Asked.{Asked}
use Rattle.calls.specs.declared.Asked.TheVariants.{PowerOn, In, Out, Write, Read, UnitReset, Happen}
use Rattle.drive.specs.declared.Decision.{Decision}
use Rattle.claim.specs.Writes.{Wrote}
use Rattle.claim.specs.Making.{wrote_as, noted_each}
use Rattle.claim_16.proofs.note.Goals as goal

-- any call but a write is none
no-write : (asked : Asked) (decision : Decision) → ((n : ℕ) (supported : Bool) → asked ≡ Write n supported → ⊥) → wrote_as asked decision ≡ []
no-write PowerOn decision other = refl
no-write (In command) decision other = refl
no-write (Out command) decision other = refl
no-write (Write n supported) decision other = absurd (other n supported refl)
no-write (Read n block) decision other = refl
no-write UnitReset decision other = refl
no-write (Happen event) decision other = refl

pub returns-in-Write : goal.returns-in-Write
unfolding noted_each
returns-in-Write c = c.count_at.ensures ∙ ap (λ (x : Asked). noted_each nexus_count (wrote_as x c.args.decision) c.args.rows) (sym c.in-Write.is)

pub returns-in-PowerOn : goal.returns-in-PowerOn
unfolding noted_each
returns-in-PowerOn c = ap (λ (x : Asked). noted_each nexus_count (wrote_as x c.args.decision) c.args.rows) (sym c.in-PowerOn.is)

pub returns-in_default : goal.returns-in_default
unfolding noted_each
returns-in_default c = sym (ap (λ (l : List Wrote). noted_each nexus_count l c.args.rows) (no-write c.args.asked c.args.decision c.in_default.not-Write))
