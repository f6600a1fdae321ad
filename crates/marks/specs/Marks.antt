-- Document 01: the registered mark of a nexus and its two pending unit attention flags. What an answer changes of them, and who is told.
use Rattle.std.specs.Prelude.{ℕ, Bool, true, false, not, ◌&&◌, ◌||◌, eqb, Option, Some, None}
use Rattle.arrays.specs.Arrays.{map_from}
use Rattle.answer.specs.declared.Change.{Change}
use Rattle.answer.specs.declared.Change.TheVariants.{Unchanged, AnotherCleared, VendorCleared, Registered}
use Rattle.device.specs.Record.{State, nexus_at}
use Rattle.device.specs.Selecting.{selected, selected_set}
use Rattle.device.specs.Updates.{registered, with_another, with_vendor, with_marks, with_nexuses, at_nexus}
use Rattle.device.specs.declared.Marks.{Marks}
use Rattle.device.specs.declared.Nexus.{Nexus}

-- a nexus whose marks are made anew
abbrev pub remarked : (Marks → Marks) → Nexus → Nexus
remarked f nexus = with_marks (f nexus.marks) nexus

-- "Answer numbers", the column "Record change"
abbrev pub changed : Change → Marks → Marks
changed Unchanged marks = marks
changed AnotherCleared marks = with_another false marks
changed VendorCleared marks = with_vendor false marks
changed Registered marks = registered marks

-- a change that leaves these marks as they are
abbrev pub keeps_marks : Marks → Change → Bool
keeps_marks marks Unchanged = true
keeps_marks marks AnotherCleared = false
keeps_marks marks VendorCleared = false
keeps_marks marks Registered = marks.registered

-- the record with that change in a nexus's marks
unfoldable pub changes : State → ℕ → Change → State
changes s n change = at_nexus n (remarked (changed change)) s

-- the acting nexus of a page or an event, if any
abbrev pub is_actor : Option ℕ → ℕ → Bool
is_actor None n = false
is_actor (Some m) n = eqb m n

-- "whose selected place or its number differs from before"
abbrev pub differs : State → State → ℕ → Bool
differs s t n = not (eqb (selected s n) (selected t n)) || not (eqb (selected_set s n).number (selected_set t n).number)

-- "each nexus that was registered before, isn't the acting one (page sender or preemptor), and whose .. differs from before"
abbrev pub told : (ℕ → Bool) → State → Option ℕ → ℕ → Bool
told differ s actor n = (nexus_at s n).marks.registered && not (is_actor actor n) && differ n

-- "'another nexus' for pages and preempt, 'vendor event' otherwise": those are the calls with an acting nexus
abbrev pub alerted : Option ℕ → Bool → Marks → Marks
alerted None flag marks = with_vendor (marks.vendor || flag) marks
alerted (Some m) flag marks = with_another (marks.another || flag) marks

-- "gets a flag": s is the record before, t the record after, and differ tells whose selected set differs
unfoldable pub flagged : (ℕ → Bool) → Option ℕ → State → State → State
flagged differ actor s t = with_nexuses (map_from (λ n. remarked (alerted actor (told differ s actor n))) 0 t.nexuses) t
