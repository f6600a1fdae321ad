-- Document 01's words for what a call's actions do to a place, and what is claimed of the calls that `cause_of` names: which of them can
-- touch the set that a locked nexus uses, and which can raise a flag.
use Rattle.std.specs.Prelude.{ℕ, ◌≡◌, Bool, true, false, not, List, [], ◌∷◌, eqb, Option, Some, None}
use Rattle.arrays.specs.Base.{when◌then◌else◌}
use Rattle.parameters.specs.Codes.{all_scope}
use Rattle.page.specs.declared.Page.{Page}
use Rattle.device.specs.Record.{State, set_at, nexus_at, empty, used}
use Rattle.device.specs.Selecting.{selected, selected_set}
use Rattle.places.specs.Actions.{Action}
use Rattle.places.specs.declared.Event.{Event}
use Rattle.drive.specs.Calls.{Call}
use Rattle.drive.specs.Effects.{Effect, nothing, marks, takes, clears, releasing, restarts, effect}
use Rattle.drive.specs.After.{actions_of, actor_of, after}
use Rattle.history.specs.History.{hits}
use Rattle.why.specs.declared.Deed.{Deed}
use Rattle.why.specs.declared.Deed.TheVariants.{Untouched, Established, Replaced, Evicted, Released}
use Rattle.why.specs.Touches.{deed_of}

-- ---- what a call's actions did to a place

abbrev pub is_released : Deed → Bool
is_released Untouched = false
is_released Established = false
is_released Replaced = false
is_released Evicted = false
is_released Released = true

-- one action on the place. A set that it puts there evicts the one that the call "first released"; else it replaces the one that the
-- place held before the call, if any
abbrev pub deed_by : (held : Bool) → (before : Deed) → Action → Deed
deed_by held before a =
    when empty a.contents then Released
    else when is_released before then Evicted
    else when held then Replaced
    else Established

-- the actions in their order, where earlier ones did that
unfoldable pub acted_from : (place : ℕ) → (held : Bool) → (before : Deed) → List Action → Deed
acted_from place held before [] = before
acted_from place held before (a ∷ more) = acted_from place held (when eqb place a.place then deed_by held before a else before) more

-- all of a call's, where the place held a set before it or did not
abbrev pub acted_deed : (place : ℕ) → (held : Bool) → List Action → Deed
acted_deed place held actions = acted_from place held Untouched actions

-- ---- what touches the set that a locked nexus uses

-- what a call did to the set that a nexus used before it
abbrev pub deed_to : State → ℕ → Call → Deed
deed_to s n call = deed_of (selected_set s n) (set_at (after s call) (selected s n))

-- an event released it; or the nexus uses place 0, and another nexus's ALL page replaced the set there or established the first one
pub data StoppedBy (s : State) (n : ℕ) (call : Call) : Type 0 where
  released : (event : Event) → effect s call ≡ releasing event → deed_to s n call ≡ Released → StoppedBy s n call
  replaced : (m : ℕ) (page : Page) → effect s call ≡ takes m page → (m ≡ n → ⊥) → page.scope ≡ all_scope → page.supplemental ≡ false
      → selected s n ≡ 0 → deed_to s n call ≡ (when used (set_at s 0) then Replaced else Established) → StoppedBy s n call

-- ---- what raises a flag

-- "'another nexus' for pages and preempt, 'vendor event' otherwise": another nexus acts, or nobody does
abbrev pub is_other : ℕ → Option ℕ → Bool
is_other n None = false
is_other n (Some m) = not (eqb m n)

abbrev pub is_nobody : Option ℕ → Bool
is_nobody None = true
is_nobody (Some m) = false

-- "After a page or event": who acts in it passes a test
abbrev pub acts_by : (who : Option ℕ → Bool) → Effect → Bool
acts_by who nothing = false
acts_by who (marks m change) = false
acts_by who (takes m page) = who (Some m)
acts_by who clears = false
acts_by who (releasing event) = who (actor_of event)
acts_by who restarts = false

-- an effect that raised a flag of the nexus: the nexus was "registered before", the effect is a page or an event that raises this flag, and
-- it acted on the place whose set the nexus used
pub record RaisedBy (who : Option ℕ → Bool) (s : State) (n : ℕ) (e : Effect) : Type 0 where
  pub registered : (nexus_at s n).marks.registered ≡ true
  pub caused : acts_by who e ≡ true
  pub touches : hits (selected s n) (actions_of s e) ≡ true
