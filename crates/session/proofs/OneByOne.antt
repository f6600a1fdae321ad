-- Calls one after another: their record and answers are those of the first of them, and then of the others.
-- Assumes nothing.
use Prim.Native.Nat.{ℕ, zero, suc, ◌*◌}
use mathlib.Core.Path.{◌≡◌, refl, sym, ap, ◌∙◌}
use mathlib.Core.List.{List, [], ◌∷◌, ◌++◌}
use native.Mathlib.Omega.{arith}
use lib.ListN.{length, take}
use lib.Seq.{take-nil}
use Rattle.wire.specs.Parts.{joined}
use Rattle.device.specs.Record.{State}
use Rattle.drive.specs.Calls.{Call}
use Rattle.drive.specs.Checks.{answer}
use Rattle.drive.specs.After.{after}
use Rattle.drive.specs.Runs.{run_from}
use Rattle.session.specs.Answers.{four_of, answers_from, answer_bytes}

-- the record
pub run-append : (s : State) (first later : List Call) → run_from s (first ++ later) ≡ run_from (run_from s first) later
unfolding run_from
run-append s [] later = refl
run-append s (call ∷ first) later = run-append (after s call) first later

-- the answers' bytes
pub answers-append : (s : State) (first later : List Call) → answer_bytes s (first ++ later) ≡ answer_bytes s first ++ answer_bytes (run_from s first) later
unfolding run_from answers_from joined
answers-append s [] later = refl
answers-append s (call ∷ first) later = ap (λ (l : List ℕ). four_of (answer s call) ++ l) (answers-append (after s call) first later)

-- four bytes an answer
pub length-answers : (s : State) (calls : List Call) → length (answer_bytes s calls) ≡ 4 * length calls
unfolding answers_from joined
length-answers s [] = refl
length-answers s (call ∷ later) = let e = length-answers (after s call) later in omega (arith, e)

-- of the first k calls, the first 4k
pub answers-take : (k : ℕ) (s : State) (calls : List Call) → answer_bytes s (take k calls) ≡ take (4 * k) (answer_bytes s calls)
unfolding answers_from joined
answers-take zero s calls = refl
answers-take (suc k) s [] = sym (take-nil (4 * suc k))
answers-take (suc k) s (call ∷ later) =
    let e : 4 * suc k ≡ suc (suc (suc (suc (4 * k)))) = omega arith in
    ap (λ (l : List ℕ). four_of (answer s call) ++ l) (answers-take k (after s call) later)
    ∙ sym (ap (λ (n : ℕ). take n (answer_bytes s (call ∷ later))) e)
