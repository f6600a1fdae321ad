-- What calls add up to: one form for answers stored, and for all that later reads a session.
use Rattle.std.specs.Prelude.{ℕ, suc, List, [], ◌∷◌}
use Rattle.device.specs.Record.{State}
use Rattle.drive.specs.Calls.{Call}
use Rattle.drive.specs.After.{after}

-- each call adds its part: by its position, counted on from i, the record before it, and what was there
unfoldable pub fold_calls : {R : Type 0} → (ℕ → State → Call → R → R) → ℕ → State → List Call → R → R
fold_calls add i s [] r = r
fold_calls add i s (call ∷ later) r = fold_calls add (suc i) (after s call) later (add i s call r)
