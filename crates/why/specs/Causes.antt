-- Document 02, request 8: "a plain reason for a nexus's next write, given the volume's support: answer number, and for 11 the kind and
-- position of the first call after the lock that established, replaced or released the set in use". Here of the calls since power-on,
-- where there are that many nexuses and places; no instance number is looked at.
use Rattle.std.specs.Prelude.{ℕ, suc, Bool, not, ◌&&◌, ◌||◌, List, eqb, take, Option, Some, None}
use Rattle.arrays.specs.Base.{when◌then◌else◌}
use Rattle.answer.specs.Answers.{number_of}
use Rattle.answer.specs.declared.Answer.{Answer}
use Rattle.device.specs.Record.{State, power_on, nexus_at}
use Rattle.device.specs.Selecting.{selected, selected_set}
use Rattle.device.specs.declared.Marks.{Marks}
use Rattle.drive.specs.Calls.{Call, write}
use Rattle.drive.specs.Checks.{answer}
use Rattle.drive.specs.After.{after}
use Rattle.drive.specs.Runs.{run}
use Rattle.history.specs.History.{trail}
use Rattle.session.specs.Folds.{fold_calls}
use Rattle.why.specs.declared.Touch.{Touch}
use Rattle.why.specs.declared.Cause.{Cause}
use Rattle.why.specs.Touches.{untouched, standing, touch_by}

-- a call raises a flag of the nexus: it was clear before, and is pending after
abbrev pub is_raised : (flag : Marks → Bool) → ℕ → (s t : State) → Bool
is_raised flag n s t = flag (nexus_at t n).marks && not (flag (nexus_at s n).marks)

abbrev pub raises : (flag : Marks → Bool) → (n i : ℕ) → State → Call → Option ℕ → Option ℕ
raises flag n i s call found = when is_raised flag n s (after s call) then Some i else found

-- which of them answers a write: for 11 the call that touched the set, for 3 and 4 the one that raised the flag, for 0 and 12 the set in
-- use; 1 and 2 have none
abbrev pub touch_for : (number : ℕ) → (first another vendor used : Touch) → Touch
touch_for number first another vendor used =
    when eqb number 11 then first
    else when eqb number 3 then another
    else when eqb number 4 then vendor
    else when eqb number 0 || eqb number 12 then used
    else untouched

-- the mode of the set in use, for 0 and 12
abbrev pub mode_for : (number mode : ℕ) → ℕ
mode_for number mode = when eqb number 0 || eqb number 12 then mode else 0

-- a write with that answer
abbrev pub cause_by : Answer → (first another vendor : Touch) → (place mode : ℕ) → Cause
cause_by a first another vendor place mode = record {
  answer = a;
  touch = touch_for (number_of a) first another vendor (standing place);
  mode = mode_for (number_of a) mode;
}

module _ (nexuses places : ℕ) where
  -- the record before the call at position i; "positions count from 0"
  abbrev pub before : List Call → (i : ℕ) → State
  before calls i = run nexuses places (take i calls)

  -- what the call that is found did in a place
  abbrev pub touch_found : List Call → Option ℕ → (place : ℕ → ℕ) → Touch
  touch_found calls (Some i) place = touch_by i (before calls i) (before calls (suc i)) (place i)
  touch_found calls None place = untouched

  -- 11: "the first call after the lock that established, replaced or released the set in use": history's one reading of all calls has the
  -- place that the lock left the nexus using, and the first later call that acted on it
  unfoldable pub stopper : ℕ → List Call → Touch
  stopper n calls = let t = trail nexuses places n calls in touch_found calls t.first (λ i. t.left)

  -- 3 and 4: the latest call that raised the flag, and what it did to the set that the nexus used
  unfoldable pub raised : (flag : Marks → Bool) → ℕ → List Call → Option ℕ
  raised flag n calls = fold_calls (raises flag n) 0 (power_on nexuses places) calls None

  unfoldable pub raiser : (flag : Marks → Bool) → ℕ → List Call → Touch
  raiser flag n calls = touch_found calls (raised flag n calls) (λ i. selected (before calls i) n)

  -- the nexus's next write, after these calls: "the write, tried at that point, gives that answer"
  unfoldable pub cause_of : ℕ → (supported : Bool) → List Call → Cause
  cause_of n supported calls =
      let s = run nexuses places calls in
      cause_by (answer s (write n supported)) (stopper n calls) (raiser (λ m. m.another) n calls) (raiser (λ m. m.vendor) n calls) (selected s n) (selected_set s n).fields.encryption
