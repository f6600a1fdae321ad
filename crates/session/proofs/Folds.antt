-- A loop over events that adds something up: what is left to add gives what all gives.
-- Assumes nothing.
use Prim.Native.Nat.{ℕ, suc, ◌+◌, ◌*◌, ◌≤◌, ◌<◌}
use mathlib.Core.Path.{◌≡◌, refl, sym, ap, ◌∙◌}
use mathlib.Core.List.{List, [], ◌∷◌, ◌++◌}
use native.Mathlib.Numerals.{add-one}
use native.Mathlib.Omega.{arith}
use lib.ListN.{length, drop, length-drop}
use Rattle.device.specs.Record.{State}
use Rattle.drive.specs.Calls.{Call}
use Rattle.drive.specs.After.{after}
use Rattle.drive.specs.Runs.{run_from}
use Rattle.recording.specs.Entries.{entry_of, call, calls}
use Rattle.recording.proofs.Entries.{calls-more, calls-none}
use Rattle.session.specs.Folds.{fold_calls}

-- the invariant: at event i, from s and r, the events that are left give what all of them give from s₀ and r₀
pub record Adds {R : Type 0} (add : ℕ → State → Call → R → R) (pages events : List ℕ) (s₀ : State) (r₀ : R) (s : State) (r : R) (rest : List ℕ) (i : ℕ) : Type 0 where
  pub runs : run_from s (calls rest pages) ≡ run_from s₀ (calls events pages)
  pub gives : fold_calls add i s (calls rest pages) r ≡ fold_calls add 0 s₀ (calls events pages) r₀
  pub counted : 8 * i + length rest ≡ length events

module _ {R : Type 0} {add : ℕ → State → Call → R → R} {pages events : List ℕ} {s₀ : State} {r₀ : R} where
  -- nothing is added yet
  pub adds-starts : Adds add pages events s₀ r₀ s₀ r₀ events 0
  adds-starts = record { runs = refl; gives = refl; counted = omega arith }

  -- one event more
  pub adds-more : {s : State} {r : R} {rest : List ℕ} {i : ℕ} → Adds add pages events s₀ r₀ s r rest i → 8 ≤ length rest
      → {t : State} {x : R} → t ≡ after s (call pages (entry_of rest)) → x ≡ add i s (call pages (entry_of rest)) r → Adds add pages events s₀ r₀ t x (drop 8 rest) (i + 1)
  unfolding run_from fold_calls
  adds-more {s} {r} {rest} {i} l h e f =
      let more = calls-more pages rest h in
      record {
        runs = rw e (sym (ap (run_from s) more) ∙ l.runs);
        gives = rw (e, f, add-one i) (sym (ap (λ (x : List Call). fold_calls add i s x r) more) ∙ l.gives);
        counted = omega (arith, l.counted, length-drop 8 rest);
      }

  -- all are added
  pub adds-ends : {s : State} {r : R} {rest : List ℕ} {i : ℕ} → Adds add pages events s₀ r₀ s r rest i → length rest < 8
      → (r ≡ fold_calls add 0 s₀ (calls events pages) r₀) × (s ≡ run_from s₀ (calls events pages))
  unfolding run_from fold_calls
  adds-ends {s} {r} {rest} {i} l h =
      let none = calls-none pages rest h in
      (sym (ap (λ (x : List Call). fold_calls add i s x r) none) ∙ l.gives, sym (ap (run_from s) none) ∙ l.runs)

-- what calls add up to, one sequence after another
pub fold-append : {R : Type 0} (add : ℕ → State → Call → R → R) (i : ℕ) (s : State) (a b : List Call) (r : R) (k : ℕ) → i + length a ≡ k
    → fold_calls add i s (a ++ b) r ≡ fold_calls add k (run_from s a) b (fold_calls add i s a r)
unfolding fold_calls run_from
fold-append add i s [] b r k e = let here : i ≡ k = omega (arith, e) in ap (λ j. fold_calls add j s b r) here
fold-append add i s (c ∷ a) b r k e = fold-append add (suc i) (after s c) a b (add i s c r) k (omega (arith, e))
