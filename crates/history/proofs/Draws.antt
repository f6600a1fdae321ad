-- A call acts on few places, so few numbers are drawn.
-- Assumes nothing.
use Rattle.std.specs.Prelude.{ℕ, Option, Some, None}
use Prim.Native.Nat.{ℕ, suc, ◌+◌, ◌*◌, ◌≤◌}
use mathlib.Core.Path.{◌≡◌, ◌∙◌}
use mathlib.Core.Bool.{Bool}
use mathlib.Core.List.{List, [], ◌∷◌}
use native.Mathlib.Omega.{arith}
use lib.Dec.{eqb}
use lib.ListN.{length, length-append}
use Rattle.arrays.specs.Base.{when◌then◌else◌}
use Rattle.arrays.specs.Arrays.{fold_from}
use Rattle.arrays.proofs.Base.{if-elim}
use Rattle.parameters.specs.Codes.{local_scope, all_scope}
use Rattle.parameters.specs.declared.Fields.{Fields}
use Rattle.page.specs.declared.Page.{Page}
use Rattle.device.specs.Record.{State, power_on}
use Rattle.device.specs.declared.Set.{Set}
use Rattle.places.specs.Actions.{Action, release, due, releases, release_found, release_own, own_place, room, establish, establish_in, page_actions, released_by}
use Rattle.places.specs.declared.Room.{Room}
use Rattle.places.specs.declared.Room.TheVariants.{Free, Evicting, NoRoom}
use Rattle.places.proofs.Lengths.{power-places}
use Rattle.drive.specs.Calls.{Call}
use Rattle.drive.specs.Effects.{Effect, nothing, marks, takes, clears, releasing, restarts, effect}
use Rattle.drive.specs.After.{by_number, actions_of, actions, after}
use Rattle.drive.proofs.Effects.{effect-size}
use Rattle.history.specs.History.{drew_of, drew_from, drew}

-- at most one release for each place
releases-few : (picked : ℕ → Set → Bool) (k : ℕ) (sets : List Set) → length (fold_from (λ place set rest. when due picked place set then release place ∷ rest else rest) [] k sets) ≤ length sets
releases-few picked k [] = omega arith
releases-few picked k (x ∷ sets) =
    let h = releases-few picked (suc k) sets in
    if-elim (λ (l : List Action). length l ≤ suc (length sets)) (due picked k x) (λ e. omega (arith, h)) (λ e. omega (arith, h))

found-few : (f : Option ℕ) → length (release_found f) ≤ 1
found-few (Some place) = omega arith
found-few None = omega arith

room-few : (r : Room) (n : ℕ) (fields : Fields) → length (establish_in r n fields) ≤ 2
room-few (Free place) n fields = omega arith
room-few (Evicting place) n fields = omega arith
room-few NoRoom n fields = omega arith

-- a page acts at most twice
page-few : (s : State) (n : ℕ) (page : Page) → length (page_actions s n page) ≤ 2
unfolding page_actions
page-few s n page =
    let Few : List Action → Type 0 = λ l. length l ≤ 2 in
    let own = found-few (own_place s n) in
    let both = length-append (release_own s n) (establish 0 n all_scope page.fields ∷ []) in
    if-elim Few page.supplemental (λ e. omega arith)
    (λ e.
    if-elim Few (eqb page.scope local_scope) (λ f. room-few (room s n) n page.fields)
    (λ f. if-elim Few (eqb page.scope all_scope) (λ g. omega (arith, own, both)) (λ g. omega (arith, own))))

-- an effect at most twice, or once for each place
actions-few : (s : State) (e : Effect) → length (actions_of s e) ≤ length s.sets + 2
unfolding actions_of releases
actions-few s nothing = omega arith
actions-few s (marks n change) = omega arith
actions-few s (takes n page) = omega (arith, page-few s n page)
actions-few s clears = omega arith
actions-few s (releasing event) = omega (arith, releases-few (released_by event) 0 s.sets)
actions-few s restarts = omega arith

drew-few : (k : ℕ) (l : List Action) (e : Effect) → drew_of k l e ≤ k + length l
drew-few k l nothing = omega arith
drew-few k l (marks n change) = omega arith
drew-few k l (takes n page) = omega arith
drew-few k l clears = omega arith
drew-few k l (releasing event) = omega arith
drew-few k l restarts = omega arith

from-few : (places k : ℕ) (s : State) (calls : List Call) → length s.sets ≡ places → drew_from k s calls ≤ k + (places + 2) * length calls
unfolding drew_from
from-few places k s [] e = omega arith
from-few places k s (call ∷ later) e =
    let size = (effect-size by_number s (effect s call)).places in
    omega (arith, from-few places (drew_of k (actions s call) (effect s call)) (after s call) later (size ∙ e), drew-few k (actions s call) (effect s call), actions-few s (effect s call), e)

-- Calls since power-on draw at most two numbers each beyond the places.
pub draws-few : (nexuses places : ℕ) (calls : List Call) → drew nexuses places calls ≤ (places + 2) * length calls
draws-few nexuses places calls = let h = from-few places 0 (power_on nexuses places) calls (power-places nexuses places) in omega (arith, h)
