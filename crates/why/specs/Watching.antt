-- How the code reads a session for one nexus: no rule, but what its promises say. Whether a call acted on a place is seen by the place's
-- instance number; proofs/Same shows that this is what the definitions read, which look at none.
use Rattle.std.specs.Prelude.{ℕ, Bool, not, ◌&&◌, eqb}
use Rattle.arrays.specs.Base.{when◌then◌else◌}
use Rattle.answer.specs.declared.Answer.{Answer}
use Rattle.device.specs.Record.{State, set_at}
use Rattle.device.specs.Selecting.{selected}
use Rattle.drive.specs.Calls.{Call, is_power_up}
use Rattle.drive.specs.Checks.{answer}
use Rattle.drive.specs.Effects.{effect_by}
use Rattle.drive.specs.After.{after}
use Rattle.history.specs.History.{accepts, is_found}
use Rattle.why.specs.declared.Touch.{Touch}
use Rattle.why.specs.declared.Watch.{Watch}
use Rattle.why.specs.Touches.{untouched, touch_by}
use Rattle.why.specs.Causes.{is_raised}

-- the place has another number, and not by power-on, which draws none
abbrev pub renewed : (power : Bool) → (s t : State) → (place : ℕ) → Bool
renewed power s t place = not power && not (eqb (set_at s place).number (set_at t place).number)

-- the first touch stays; any other is the first if there was none
abbrev pub first_noted : (first : Touch) → (hit : Bool) → Touch → Touch
first_noted first hit touch = when hit && not (is_found first.at) then touch else first

-- a call that made record t of record s: the lock, the nexus's own page, sets the reading anew
abbrev pub locked_by : (lock power : Bool) → (n i : ℕ) → (s t : State) → Watch → Watch
locked_by lock power n i s t w = record {
  left = when lock then selected t n else w.left;
  first = when lock then untouched else first_noted w.first (renewed power s t w.left) (touch_by i s t w.left);
  another = w.another;
  vendor = w.vendor;
}

-- the flags that it raises
abbrev pub flagged_by : (n i : ℕ) → (s t : State) → Watch → Watch
flagged_by n i s t w =
    let used = touch_by i s t (selected s n) in
    record {
      left = w.left;
      first = w.first;
      another = when is_raised (λ m. m.another) n s t then used else w.another;
      vendor = when is_raised (λ m. m.vendor) n s t then used else w.vendor;
    }

abbrev pub watched_by : (lock power : Bool) → (n i : ℕ) → (s t : State) → Watch → Watch
watched_by lock power n i s t w = flagged_by n i s t (locked_by lock power n i s t w)

-- a call with that answer, which made record t of record s
abbrev pub watched_with : (n i : ℕ) → State → Call → Answer → State → Watch → Watch
watched_with n i s call a t = watched_by (accepts n (effect_by s call a)) (is_power_up call) n i s t

unfoldable pub watched : (n i : ℕ) → State → Call → Watch → Watch
watched n i s call = watched_with n i s call (answer s call) (after s call)

abbrev pub unwatched : Watch
unwatched = record { left = 0; first = untouched; another = untouched; vendor = untouched }
