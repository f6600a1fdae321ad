-- No action and no page changes the number of places or of nexuses.
-- Assumes nothing.
use Prim.Native.Nat.{ℕ}
use mathlib.Core.Path.{◌≡◌, refl, ◌∙◌}
use mathlib.Core.List.{List, [], ◌∷◌}
use lib.ListN.{length, length-set, length-replicate}
use Rattle.arrays.proofs.Base.{if-elim}
use Rattle.arrays.proofs.Laws.{length-map_from}
use Rattle.page.specs.declared.Page.{Page}
use Rattle.device.specs.Record.{State, power_on, empty_set, new_nexus}
use Rattle.places.specs.Actions.{Action, freed, act, acts, page_actions, sender_after, supplemented, taken}

-- as many places and nexuses as before
pub record SameSize (before after : State) : Type 0 where
  pub places : length after.sets ≡ length before.sets
  pub nexuses : length after.nexuses ≡ length before.nexuses

-- after no change
pub size-stays : (s : State) → SameSize s s
size-stays s = record { places = refl; nexuses = refl }

-- after one change and then another
pub size-then : {s t u : State} → SameSize s t → SameSize t u → SameSize s u
size-then p q = record { places = q.places ∙ p.places; nexuses = q.nexuses ∙ p.nexuses }

-- after power-on there are the places asked for
pub power-places : (nexuses places : ℕ) → length (power_on nexuses places).sets ≡ places
unfolding power_on
power-places nexuses places = length-replicate places (empty_set 0)

-- and the nexuses
pub power-nexuses : (nexuses places : ℕ) → length (power_on nexuses places).nexuses ≡ nexuses
unfolding power_on
power-nexuses nexuses places = length-replicate nexuses new_nexus

-- after an action
pub act-size : (s : State) (a : Action) → SameSize s (act s a)
unfolding act
act-size s a = record { places = length-set s.sets a.place _; nexuses = length-map_from (freed s a.place) 0 s.nexuses }

-- after several
pub acts-size : (s : State) (more : List Action) → SameSize s (acts s more)
unfolding acts
acts-size s [] = size-stays s
acts-size s (a ∷ more) = size-then (act-size s a) (acts-size (act s a) more)

-- after the sender is left with its page
pub sender-size : (s : State) (n : ℕ) (page : Page) → SameSize s (sender_after s n page)
unfolding sender_after
sender-size s n page = record { places = refl; nexuses = length-set s.nexuses n _ }

-- after a supplemental key
pub supplemented-size : (s : State) (n : ℕ) (page : Page) → SameSize s (supplemented s n page)
unfolding supplemented
supplemented-size s n page = record { places = length-set s.sets _ _; nexuses = refl }

-- after a page
pub taken-size : (s : State) (n : ℕ) (page : Page) → SameSize s (taken s n page)
unfolding taken
taken-size s n page =
    if-elim (SameSize s) page.supplemental
    (λ e. supplemented-size s n page)
    (λ e. size-then (acts-size s (page_actions s n page)) (sender-size (acts s (page_actions s n page)) n page))
