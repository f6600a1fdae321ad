-- Writes noted event by event.
-- Assumes nothing.
use Prim.Native.Nat.{ℕ, ◌+◌, ◌≤◌}
use mathlib.Core.Path.{◌≡◌, refl, sym, ap, ◌∙◌}
use mathlib.Core.Bool.{Bool, true, false}
use mathlib.Core.List.{List, [], ◌∷◌, ◌++◌}
use native.Mathlib.Omega.{arith}
use lib.ListN.{length, length-append}
use Rattle.device.specs.Record.{State}
use Rattle.device.specs.Selecting.{selected_set}
use Rattle.device.specs.WellFormed.{well_formed}
use Rattle.drive.specs.Calls.{write}
use Rattle.drive.specs.Checks.{checks, answer, known_answer, answer_where}
use Rattle.drive.specs.Outcomes.{decision}
use Rattle.drive.specs.declared.Decision.{Decision}
use Rattle.drive.proofs.Effects.{where-agrees}
use Rattle.calls.specs.Asking.{call_of}
use Rattle.calls.specs.Quiet.{sender_number, quietly}
use Rattle.calls.specs.declared.Asked.{Asked}
use Rattle.calls.specs.declared.Asked.TheVariants.{PowerOn, In, Out, Write, Read, UnitReset, Happen}
use Rattle.calls.proofs.Quietly.{quiet_of}
use Rattle.claim.specs.declared.Row.{Row}
use Rattle.claim.specs.Writes.{Wrote, wrote}
use Rattle.claim.specs.Rows.{rows_of, totals, writes_in}
use Rattle.claim.specs.Making.{became_by, wrote_as, noted_each}
use Rattle.claim.proofs.Sums.{rows-sum}
use Rattle.claim.proofs.Sessions.{noted-each}

-- ---- what a write is answered is found by its sender and the set that it uses

quiet_write : (formed : Bool) (s : State) (n : ℕ) (supported : Bool) → (quiet_of formed s (Write n supported)).answer ≡ answer_where formed s (write n supported)
unfolding quietly answer_where known_answer checks
quiet_write true s n supported = refl
quiet_write false s n supported = refl

-- so what is noted of an event is what became of its write
pub wrote_found : (formed : Bool) (s : State) → formed ≡ well_formed s → (asked : Asked) (page : List ℕ)
    → wrote_as asked (became_by (quiet_of formed s asked).answer (selected_set s (sender_number asked)).fields.encryption) ≡ wrote s (call_of asked page)
wrote_found formed s e PowerOn page = refl
wrote_found formed s e (In command) page = refl
wrote_found formed s e (Out command) page = refl
wrote_found formed s e (Write n supported) page =
    let a : (quiet_of formed s (Write n supported)).answer ≡ answer s (write n supported) =
    quiet_write formed s n supported ∙ ap (λ b. answer_where b s (write n supported)) e ∙ sym (where-agrees s (write n supported)) in
    ap (λ x. record { nexus = n; decision = decision s n x } ∷ []) a
wrote_found formed s e (Read n block) page = refl
wrote_found formed s e UnitReset page = refl
wrote_found formed s e (Happen event) page = refl

-- at most one
pub wrote-few : (asked : Asked) (d : Decision) → length (wrote_as asked d) ≤ 1
wrote-few PowerOn d = omega arith
wrote-few (In command) d = omega arith
wrote-few (Out command) d = omega arith
wrote-few (Write n supported) d = omega arith
wrote-few (Read n block) d = omega arith
wrote-few UnitReset d = omega arith
wrote-few (Happen event) d = omega arith

-- ---- the rows at event i

-- they are those of at most i writes
pub record Noting (nexuses i : ℕ) (rows : List Row) : Type 0 where
  pub writes : List Wrote
  pub are : rows ≡ rows_of nexuses writes
  pub few : length writes ≤ i

pub noting-starts : (nexuses : ℕ) → {rows : List Row} → rows ≡ rows_of nexuses [] → Noting nexuses 0 rows
noting-starts nexuses e = record { writes = []; are = e; few = omega arith }

module _ {nexuses i : ℕ} {rows : List Row} (l : Noting nexuses i rows) where
  -- one event more
  pub noting-more : (asked : Asked) (d : Decision) {more : List Row} → more ≡ noted_each nexuses (wrote_as asked d) rows → Noting nexuses (i + 1) more
  noting-more asked d e = record {
    writes = l.writes ++ wrote_as asked d;
    are = e ∙ ap (noted_each nexuses (wrote_as asked d)) l.are ∙ noted-each nexuses l.writes (wrote_as asked d);
    few = omega (arith, length-append l.writes (wrote_as asked d), wrote-few asked d, l.few);
  }

  -- all rows together have at most i writes
  pub noting-few : writes_in (totals rows) ≤ i
  noting-few = let e = ap (λ x. writes_in (totals x)) l.are ∙ rows-sum nexuses l.writes in omega (arith, e, l.few)
