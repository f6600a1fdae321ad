-- Every sequence of calls since power-on: what each call did, read from the record and read without a look at any instance number.
use Rattle.std.specs.Prelude.{ℕ, suc, ◌+◌, ◌≤◌, ◌<◌, ◌^◌, Bool, true, false, not, ◌&&◌, ◌||◌, List, [], ◌∷◌, ◌++◌, map, ◌≡◌, eqb, length, Option, Some, None}
use Rattle.arrays.specs.Base.{when◌then◌else◌}
use Rattle.answer.specs.Answers.{number_of, is_done}
use Rattle.answer.specs.declared.Answer.TheVariants.{Done}
use Rattle.parameters.specs.declared.Fields.{Fields}
use Rattle.page.specs.declared.Page.{Page}
use Rattle.parameters.specs.Codes.{all_scope}
use Rattle.device.specs.Record.{State, power_on, set_at, established, new_nexus}
use Rattle.device.specs.Selecting.{selected}
use Rattle.parameters.specs.declared.Supplemental.{Supplemental}
use Rattle.device.specs.Updates.{with_marks, with_scope, with_lock, with_supplemental}
use Rattle.device.specs.declared.Set.{Set}
use Rattle.device.specs.declared.Marks.{Marks}
use Rattle.device.specs.declared.Nexus.{Nexus}
use Rattle.places.specs.Actions.{Action, release_own, establish}
use Rattle.drive.specs.Calls.{Call, write}
use Rattle.drive.specs.Checks.{first_of, check1, heard_of, answer}
use Rattle.drive.specs.Effects.{Effect, nothing, marks, takes, clears, releasing, restarts, effect}
use Rattle.drive.specs.After.{Telling, carried_out, actions_of, actions, after}
use Rattle.drive.specs.Runs.{run_from}

-- ---- what a call did

-- one of the actions is on the place: the call established, replaced or released what it holds
unfoldable pub hits : ℕ → List Action → Bool
hits place [] = false
hits place (a ∷ more) = eqb place a.place || hits place more

-- a page of nexus n was taken that isn't supplemental
abbrev pub accepts : ℕ → Effect → Bool
accepts n nothing = false
accepts n (marks m change) = false
accepts n (takes m page) = eqb m n && not page.supplemental
accepts n clears = false
accepts n (releasing event) = false
accepts n restarts = false

-- the effect, what it did to the places, and the place whose set each nexus uses afterwards
pub record Did : Type 0 where
  pub effect : Effect
  pub actions : List Action
  pub uses : ℕ → ℕ

-- what a call does to record s, where t is the record after it
abbrev pub did : State → Call → State → Did
did s call t = record { effect = effect s call; actions = actions s call; uses = selected t }

-- ---- the history as it ran

unfoldable pub ran_from : State → List Call → List Did
ran_from s [] = []
ran_from s (call ∷ later) = did s call (after s call) ∷ ran_from (after s call) later

-- ---- the history read without numbers: a record that has none

pub record BareSet : Type 0 where
  pub owner : ℕ
  pub scope : ℕ
  pub fields : Fields
  pub supplemental : Supplemental

pub record BareNexus : Type 0 where
  pub scope : ℕ
  pub lock : Bool
  pub marks : Marks

pub record Bare : Type 0 where
  pub sets : List BareSet
  pub nexuses : List BareNexus

abbrev pub bare_set : Set → BareSet
bare_set x = record { owner = x.owner; scope = x.scope; fields = x.fields; supplemental = x.supplemental }

abbrev pub bare_nexus : Nexus → BareNexus
bare_nexus x = record { scope = x.scope; lock = x.lock; marks = x.marks }

-- the record with every instance number left out
unfoldable pub bare : State → Bare
bare s = record { sets = map bare_set s.sets; nexuses = map bare_nexus s.nexuses }

-- a record that holds this and 0 for every number: what the rules are asked of, since none of those used here looks at a number
-- (`same-but-numbers` says so: records that agree but for their numbers give the same)
abbrev pub full_set : BareSet → Set
full_set x = with_supplemental x.supplemental (established x.owner x.scope 0 x.fields)

abbrev pub full_nexus : BareNexus → Nexus
full_nexus x = with_scope x.scope (with_lock x.lock (with_marks x.marks new_nexus))

unfoldable pub full : Bare → State
full b = record { counter = 0; sets = map full_set b.sets; nexuses = map full_nexus b.nexuses }

-- a nexus is told where "the selected place differs, or a call acted on it": no number is compared
abbrev pub by_action : Telling
by_action actions s t n = not (eqb (selected s n) (selected t n)) || hits (selected s n) actions

-- one call read
unfoldable pub reads : Bare → Call → Bare
reads b call = bare (carried_out by_action (full b) (effect (full b) call))

unfoldable pub read_from : Bare → List Call → List Did
read_from b [] = []
read_from b (call ∷ later) = did (full b) call (full (reads b call)) ∷ read_from (reads b call) later

-- the record that calls leave, read so
unfoldable pub read_to : Bare → List Call → Bare
read_to b [] = b
read_to b (call ∷ later) = read_to (reads b call) later

-- from power-on
abbrev pub reading : (nexuses places : ℕ) → List Call → List Did
reading nexuses places calls = read_from (bare (power_on nexuses places)) calls

-- ---- demand 3's words

-- no refusal that comes before check 11 is due: checks 1 to 4 pass
abbrev pub is_heard : State → ℕ → Bool
is_heard s n = is_done (first_of (check1 s ∷ heard_of s n))

-- the nexus's write is answered 11
abbrev pub is_stopped : State → ℕ → Bool → Bool
is_stopped s n supported = eqb (number_of (answer s (write n supported))) 11

-- none of the calls took such a page
unfoldable pub silent : ℕ → List Did → Bool
silent n [] = true
silent n (d ∷ later) = not (accepts n d.effect) && silent n later

-- some call established, replaced or released what the place holds
unfoldable pub touched : ℕ → List Did → Bool
touched place [] = false
touched place (d ∷ later) = hits place d.actions || touched place later

-- the nexus's latest page that was accepted and wasn't supplemental, among what the calls did
pub record Latest (n : ℕ) (l : List Did) : Type 0 where
  pub before : List Did
  pub page : Did
  pub later : List Did
  pub parts : l ≡ before ++ page ∷ later
  pub accepted : accepts n page.effect ≡ true
  pub silence : silent n later ≡ true

-- the place whose set that page left the nexus using
abbrev pub place_left : {n : ℕ} {l : List Did} → Latest n l → ℕ
place_left {n = n} x = x.page.uses n

-- the same of the calls as they ran: the latest page whose answer in the run was 0 and that wasn't supplemental
pub record LatestPage (n : ℕ) (s : State) (calls : List Call) : Type 0 where
  pub before : List Call
  pub page : Call
  pub later : List Call
  pub parts : calls ≡ before ++ page ∷ later
  pub answered : answer (run_from s before) page ≡ Done
  pub accepted : accepts n (effect (run_from s before) page) ≡ true
  pub silence : silent n (ran_from (after (run_from s before) page) later) ≡ true

-- the record that this page left
abbrev pub left_by : {n : ℕ} {s : State} {calls : List Call} → LatestPage n s calls → State
left_by {s = s} x = after (run_from s x.before) x.page

-- ---- the numbers

abbrev pub place_number : State → ℕ → ℕ
place_number s place = (set_at s place).number

-- there is a place, no number is above the counter, and that many more draws stay below the wrap
pub record Low (s : State) (k : ℕ) : Type 0 where
  pub some : 0 < length s.sets
  pub low : (place : ℕ) → place_number s place ≤ s.counter
  pub fits : s.counter + k < 2 ^ 32

-- how many are drawn since the latest power-on, where k were before the effect that has these actions: each action draws one
abbrev pub drew_of : ℕ → List Action → Effect → ℕ
drew_of k l nothing = k + length l
drew_of k l (marks n change) = k + length l
drew_of k l (takes n page) = k + length l
drew_of k l clears = k + length l
drew_of k l (releasing event) = k + length l
drew_of k l restarts = 0

-- one call after another
unfoldable pub drew_from : ℕ → State → List Call → ℕ
drew_from k s [] = k
drew_from k s (call ∷ later) = drew_from (drew_of k (actions s call) (effect s call)) (after s call) later

-- from power-on
abbrev pub drew : (nexuses places : ℕ) → List Call → ℕ
drew nexuses places calls = drew_from 0 (power_on nexuses places) calls

-- ---- the first call that touched the set

-- the position, counted on from i, of the first call that acted on the place
unfoldable pub first_touched : (place i : ℕ) → List Did → Option ℕ
first_touched place i [] = None
first_touched place i (d ∷ later) = when hits place d.actions then Some i else first_touched place (suc i) later

-- what it is to be that call: it acted on the place, and none before it did
pub record First (place : ℕ) (l : List Did) (position : ℕ) : Type 0 where
  pub before : List Did
  pub call : Did
  pub later : List Did
  pub parts : l ≡ before ++ call ∷ later
  pub counted : length before ≡ position
  pub untouched : touched place before ≡ false
  pub touches : hits place call.actions ≡ true

-- one reading of the whole history: the place whose set the nexus's latest page left it using,
-- and the position of the first later call that acted on it
pub record Trail : Type 0 where
  pub left : ℕ
  pub first : Option ℕ

-- the first of two that are found, where any other comes later
abbrev pub earlier : Option ℕ → Option ℕ → Option ℕ
earlier (Some i) other = Some i
earlier None other = other

-- whether there is one
abbrev pub is_found : Option ℕ → Bool
is_found (Some i) = true
is_found None = false

-- a call, at position i: such a page sets the reading anew, any other call is noted if it is the first to act on the place
unfoldable pub followed : (n i : ℕ) → Did → Trail → Trail
followed n i d t =
    when accepts n d.effect then record { left = d.uses n; first = None }
    else record { left = t.left; first = earlier t.first (when hits t.left d.actions then Some i else None) }

-- the same over a history
unfoldable pub trail_over : (n i : ℕ) → List Did → Trail → Trail
trail_over n i [] t = t
trail_over n i (d ∷ later) t = trail_over n (suc i) later (followed n i d t)

-- from power-on
unfoldable pub trail : (nexuses places n : ℕ) → List Call → Trail
trail nexuses places n calls = trail_over n 0 (reading nexuses places calls) (record { left = 0; first = None })

-- ---- the default set

-- a page that is taken, of scope ALL and not supplemental: it establishes place 0, and of the others it releases its sender's own
pub record Establishes (s : State) (e : Effect) : Type 0 where
  pub sender : ℕ
  pub page : Page
  pub taken : e ≡ takes sender page
  pub fresh : page.supplemental ≡ false
  pub acts : actions_of s e ≡ release_own s sender ++ establish 0 sender all_scope page.fields ∷ []
