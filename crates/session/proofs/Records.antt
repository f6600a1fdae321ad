-- Calls of a record with words, one after another: their record and answers are those of the first of them, and then of the others.
-- Assumes nothing.
use Prim.Native.Nat.{ℕ, zero, suc, ◌*◌, ◌<◌}
use mathlib.Core.Path.{◌≡◌, refl, ap, ap₂, ◌∙◌}
use mathlib.Core.Bool.{true}
use mathlib.Core.List.{List, [], ◌∷◌, ◌++◌}
use native.Mathlib.Nat.{not-suc-le-zero, le_of_suc-le-suc}
use native.Mathlib.Omega.{arith}
use lib.ListN.{length, get_or, take, drop}
use Rattle.wire.specs.Parts.{joined}
use Rattle.answer.specs.declared.Answer.{Answer}
use Rattle.device.specs.Record.{State}
use Rattle.device.specs.WellFormed.{well_formed}
use Rattle.device.specs.Words.{Worded, with_words}
use Rattle.drive.specs.Calls.{Call}
use Rattle.drive.specs.Checks.{answer}
use Rattle.drive.specs.After.{after}
use Rattle.drive.specs.Records.{answer_of, after_of, after_all}
use Rattle.kept.proofs.Calls.{call_kept}
use Rattle.kept.proofs.Runs.{call-size}
use Rattle.kept.proofs.Records.{formed-answer, formed-after-of}
use Rattle.session.specs.Answers.{four_of, answers_from, answer_bytes}
use Rattle.session.specs.Records.{answers_of, answer_bytes_of}

-- the record
pub all_append : (r : Worded) (first later : List Call) → after_all r (first ++ later) ≡ after_all (after_all r first) later
unfolding after_all
all_append r [] later = refl
all_append r (call ∷ first) later = all_append (after_of r call) first later

-- the answers' bytes
pub answers-of-append : (r : Worded) (first later : List Call) → answer_bytes_of r (first ++ later) ≡ answer_bytes_of r first ++ answer_bytes_of (after_all r first) later
unfolding after_all answers_of joined
answers-of-append r [] later = refl
answers-of-append r (call ∷ first) later = ap (λ (l : List ℕ). four_of (answer_of r call) ++ l) (answers-of-append (after_of r call) first later)

-- four bytes an answer
pub length-answers-of : (r : Worded) (calls : List Call) → length (answer_bytes_of r calls) ≡ 4 * length calls
unfolding answers_of joined
length-answers-of r [] = refl
length-answers-of r (call ∷ later) = let e = length-answers-of (after_of r call) later in omega (arith, e)

-- The four bytes of each call are the answer that the drive gives it at that point.
pub answer-of-at : (i : ℕ) (r : Worded) (calls : List Call) (none : Call) → i < length calls
    → take 4 (drop (4 * i) (answer_bytes_of r calls)) ≡ four_of (answer_of (after_all r (take i calls)) (get_or calls i none))
unfolding after_all answers_of joined
answer-of-at i r [] none h = absurd (not-suc-le-zero h)
answer-of-at zero r (call ∷ later) none h = refl
answer-of-at (suc i) r (call ∷ later) none h =
    let e : 4 * suc i ≡ suc (suc (suc (suc (4 * i)))) = omega arith in
    ap (λ (n : ℕ). take 4 (drop n (answer_bytes_of r (call ∷ later)))) e ∙ answer-of-at i (after_of r call) later none (le_of_suc-le-suc h)

-- From a well-formed record the answers are document 01's.
pub formed-answers : (s : State) (calls : List Call) → 0 < length s.nexuses → 0 < length s.sets → well_formed s ≡ true → answer_bytes_of (with_words s) calls ≡ answer_bytes s calls
unfolding answers_of answers_from joined
formed-answers s [] n p w = refl
formed-answers s (call ∷ later) n p w =
    let same = call-size s call in
    ap₂ (λ (a : Answer) (x : Worded). four_of a ++ answer_bytes_of x later) (formed-answer s call w) (formed-after-of s call w)
    ∙ ap (λ (l : List ℕ). four_of (answer s call) ++ l) (formed-answers (after s call) later (omega (arith, n, same.nexuses)) (omega (arith, p, same.places)) (call_kept s call n p w))
