-- An event that releases nothing.
-- Assumes nothing.
use mathlib.Core.Path.{◌≡◌, ap, ◌∙◌}
use mathlib.Core.Bool.{true}
use mathlib.Core.List.{List}
use Rattle.arrays.specs.Arrays.{each}
use Rattle.device.specs.Record.{State}
use Rattle.marks.specs.Marks.{differs, flagged}
use Rattle.marks.proofs.Telling.{flag-none}
use Rattle.places.specs.Actions.{Action, acts, spared, released_by}
use Rattle.places.specs.declared.Event.{Event}
use Rattle.places.proofs.Releases.{spared-none}
use Rattle.drive.specs.Effects.{releasing}
use Rattle.drive.specs.After.{actions_of, changed_by, actor_of, by_number, carried_out}

-- it leaves the record as it is: nobody is told where nothing changed
pub event-none : (s : State) (event : Event) → each (spared (released_by event)) s.sets ≡ true → carried_out by_number s (releasing event) ≡ s
unfolding carried_out changed_by actions_of acts
event-none s event e =
    ap (λ (l : List Action). flagged (differs s (acts s l)) (actor_of event) s (acts s l)) (spared-none (released_by event) s.sets e) ∙ flag-none (actor_of event) s
