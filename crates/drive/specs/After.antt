-- The record after a call.
use Rattle.std.specs.Prelude.{ℕ, Bool, List, [], length, Option, Some, None}
use Rattle.answer.specs.declared.Change.TheVariants.{Registered}
use Rattle.device.specs.Record.{State, power_on}
use Rattle.marks.specs.Marks.{changes, differs, flagged}
use Rattle.marks.specs.Reset.{cleared}
use Rattle.places.specs.Actions.{Action, acts, releases, released_by, page_actions, taken}
use Rattle.places.specs.declared.Event.{Event}
use Rattle.places.specs.declared.Event.TheVariants.{Demount, NexusLoss, DeviceLoss, Preempt, Microcode, VendorRelease}
use Rattle.drive.specs.Calls.{Call}
use Rattle.drive.specs.Effects.{Effect, nothing, marks, takes, clears, releasing, restarts, effect}

-- what an effect does to the places
unfoldable pub actions_of : State → Effect → List Action
actions_of s nothing = []
actions_of s (marks n change) = []
actions_of s (takes n page) = page_actions s n page
actions_of s clears = []
actions_of s (releasing event) = releases (released_by event) s.sets
actions_of s restarts = []

-- what it makes of the record before anyone is told: a page is taken and its sender registered, an event's sets are released
unfoldable pub changed_by : State → Effect → State
changed_by s nothing = s
changed_by s (marks n change) = changes s n change
changed_by s (takes n page) = changes (taken s n page) n Registered
changed_by s clears = cleared s
changed_by s (releasing event) = acts s (releases (released_by event) s.sets)
changed_by s restarts = power_on (length s.nexuses) (length s.sets)

-- who acts in an event
abbrev pub actor_of : Event → Option ℕ
actor_of Demount = None
actor_of (NexusLoss n) = None
actor_of DeviceLoss = None
actor_of (Preempt n) = Some n
actor_of Microcode = None
actor_of (VendorRelease place) = None

-- "After a page or event" nexuses are told. How it is seen that the set a nexus uses differs is a rule: it is given the actions,
-- the record before and the record after.
abbrev pub Telling : Type 0
Telling = List Action → State → State → ℕ → Bool

unfoldable pub carried_out : Telling → State → Effect → State
carried_out rule s nothing = changed_by s nothing
carried_out rule s (marks n change) = changed_by s (marks n change)
carried_out rule s (takes n page) = let t = changed_by s (takes n page) in flagged (rule (actions_of s (takes n page)) s t) (Some n) s t
carried_out rule s clears = changed_by s clears
carried_out rule s (releasing event) = let t = changed_by s (releasing event) in flagged (rule (actions_of s (releasing event)) s t) (actor_of event) s t
carried_out rule s restarts = changed_by s restarts

-- "whose selected place or its number differs from before"
abbrev pub by_number : Telling
by_number actions = differs

abbrev pub actions : State → Call → List Action
actions s call = actions_of s (effect s call)

abbrev pub after : State → Call → State
after s call = carried_out by_number s (effect s call)
