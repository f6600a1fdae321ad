-- Effects that are no page of a nexus: but for their actions they change nothing that the nexus sees.
-- Assumes nothing.
use Rattle.std.specs.Prelude.{ℕ, Option, Some, None}
use Prim.Native.Nat.{ℕ}
use mathlib.Core.Bool.{Bool, false, not, ◌&&◌, and-true}
use mathlib.Core.List.{List, [], ◌∷◌, ◌++◌, map}
use mathlib.Core.Path.{◌≡◌, refl, sym, ◌∙◌, ap}
use lib.ListN.{length, get_or}
use lib.Seq.{map-set_same, get_or-set_other}
use lib.Dec.{eqb}
use borrow.Author.Tests.{eqb-false}
use Rattle.arrays.specs.Base.{when◌then◌else◌}
use Rattle.arrays.proofs.Base.{cases, clash, if-elim}
use Rattle.arrays.proofs.Laws.{read_same, read-map, read-map_from, same_length, find-same}
use Rattle.answer.specs.declared.Change.{Change}
use Rattle.answer.specs.declared.Change.TheVariants.{Registered}
use Rattle.parameters.specs.declared.Fields.{Fields}
use Rattle.page.specs.declared.Page.{Page}
use Rattle.parameters.specs.Codes.{local_scope, all_scope}
use Rattle.device.specs.Record.{State, nexus_at, no_set, new_nexus}
use Rattle.device.specs.Updates.{with_nexuses}
use Rattle.device.specs.Selecting.{owns, owned_place, or_else, selected}
use Rattle.device.specs.declared.Nexus.{Nexus}
use Rattle.marks.specs.Marks.{remarked, changed, changes, told, alerted, flagged}
use Rattle.marks.specs.Reset.{unmarked, cleared}
use Rattle.places.specs.Actions.{Action, acts, own_place, release_found, release_own, room, establish_in, page_actions, sender_after, supplemented, taken, released_by}
use Rattle.places.specs.declared.Room.{Room}
use Rattle.places.specs.declared.Room.TheVariants.{Free, Evicting, NoRoom}
use Rattle.places.proofs.Releases.{releases-elim}
use Rattle.drive.specs.Effects.{Effect, nothing, marks, takes, clears, releasing, restarts}
use Rattle.drive.specs.After.{actions_of, changed_by, Telling, carried_out}
use Rattle.drive.proofs.Effects.{is_restart}
use Rattle.history.specs.History.{accepts, place_number}
use Rattle.places.proofs.Sender.{supplemental-actions, taken-supplemental, taken-whole}
use Rattle.history.proofs.Left.{told_same, supplemented-same}
use Rattle.history.proofs.Held.{View, view, Foreign, acts-nexuses}

-- nexus n sees no change
abbrev pub Unseen : ℕ → State → State → Type 0
Unseen n s t = view n t ≡ view n s

-- what it sees of itself
record Part : Type 0 where
  scope : ℕ
  lock : Bool
  saved : ℕ

abbrev part : Nexus → Part
part x = record { scope = x.scope; lock = x.lock; saved = x.saved }

-- other nexuses may change, and its own marks
nexus-unseen : (n : ℕ) (s : State) (l : List Nexus) → part (get_or l n new_nexus) ≡ part (nexus_at s n) → Unseen n s (with_nexuses l s)
unfolding selected
nexus-unseen n s l e = λ i. record {
  counter = s.counter;
  places = length s.sets;
  number = λ place. place_number s place;
  lock = (e i).lock;
  saved = (e i).saved;
  selected = when eqb (e i).scope local_scope then or_else (owned_place s.sets n) 0 else 0;
}

-- so may all, where that much of each stays
nexuses-unseen : (n : ℕ) (s : State) (l : List Nexus) → map part l ≡ map part s.nexuses → Unseen n s (with_nexuses l s)
nexuses-unseen n s l e = nexus-unseen n s l (read_same part l s.nexuses new_nexus e n)

-- a change of marks is not seen
pub changes-unseen : (n m : ℕ) (change : Change) (s : State) → Unseen n s (changes s m change)
unfolding changes
changes-unseen n m change s = nexuses-unseen n s _ (map-set_same part s.nexuses m (remarked (changed change) (nexus_at s m)) new_nexus refl)

-- nor a flag
pub flagged-unseen : (n : ℕ) (differ : ℕ → Bool) (actor : Option ℕ) (s t : State) → Unseen n t (flagged differ actor s t)
unfolding flagged
flagged-unseen n differ actor s t =
    nexuses-unseen n t _ (read-map_from part (λ i. remarked (alerted actor (told differ s actor i))) (λ i x. refl) 0 t.nexuses)

-- nor a reset
cleared-unseen : (n : ℕ) (s : State) → Unseen n s (cleared s)
unfolding cleared
cleared-unseen n s = nexuses-unseen n s _ (read-map part unmarked (λ x. refl) s.nexuses)

-- nor a supplemental key
supplemented-unseen : (n m : ℕ) (page : Page) (s : State) → Unseen n s (supplemented s m page)
unfolding supplemented selected owned_place
supplemented-unseen n m page s =
    let number : (place : ℕ) → place_number (supplemented s m page) place ≡ place_number s place =
    read_same (λ x. x.number) (supplemented s m page).sets s.sets no_set (supplemented-same (λ x. x.number) (λ k x. refl) s m page) in
    let size = same_length (λ x. x.scope) (supplemented s m page).sets s.sets (supplemented-same (λ x. x.scope) (λ k x. refl) s m page) in
    let own : owned_place (supplemented s m page).sets n ≡ owned_place s.sets n = find-same Some None (owns n) (supplemented s m page).sets s.sets (supplemented-same (owns n) (λ k x. refl) s m page) in
    λ i. record {
      counter = s.counter;
      places = size i;
      number = λ place. number place i;
      lock = (nexus_at s n).lock;
      saved = (nexus_at s n).saved;
      selected = when eqb (nexus_at s n).scope local_scope then or_else (own i) 0 else 0;
    }

-- nor another sender after its page
settled-unseen : (n m : ℕ) (page : Page) (s : State) → eqb m n ≡ false → Unseen n s (sender_after s m page)
unfolding sender_after
settled-unseen n m page s e = nexus-unseen n s _ (ap part (get_or-set_other s.nexuses m n _ new_nexus (λ x. eqb-false m n e (sym x))))

-- a page that isn't supplemental is another's
pub other-sender : (m n : ℕ) (page : Page) → (eqb m n && not page.supplemental) ≡ false → page.supplemental ≡ false → eqb m n ≡ false
other-sender m n page e t = sym (and-true (eqb m n)) ∙ ap (λ b. eqb m n && not b) (sym t) ∙ e

-- another nexus's page taken, or a supplemental one
taken-unseen : (n m : ℕ) (page : Page) (s : State) → (eqb m n && not page.supplemental) ≡ false → Unseen n (acts s (page_actions s m page)) (taken s m page)
unfolding acts
taken-unseen n m page s e =
    cases page.supplemental
    (λ t. rw (taken-supplemental s m page t, supplemental-actions s m page t) (supplemented-unseen n m page s))
    (λ t. rw (taken-whole s m page t) (settled-unseen n m page (acts s (page_actions s m page)) (other-sender m n page e t)))

-- what an effect changes that is no page of the nexus's own, it changes by its actions
pub changed-unseen : (n : ℕ) (s : State) (e : Effect) → accepts n e ≡ false → is_restart e ≡ false → Unseen n (acts s (actions_of s e)) (changed_by s e)
unfolding changed_by actions_of acts
changed-unseen n s nothing e f = refl
changed-unseen n s (marks m change) e f = changes-unseen n m change s
changed-unseen n s (takes m page) e f = changes-unseen n m Registered (taken s m page) ∙ taken-unseen n m page s e
changed-unseen n s clears e f = cleared-unseen n s
changed-unseen n s (releasing event) e f = refl
changed-unseen n s restarts e f = clash refl f

-- whoever is told
pub other-unseen : (rule : Telling) (n : ℕ) (s : State) (e : Effect) → accepts n e ≡ false → is_restart e ≡ false → Unseen n (acts s (actions_of s e)) (carried_out rule s e)
other-unseen rule n s e a f = told_same (view n) (flagged-unseen n) rule s e ∙ changed-unseen n s e a f

-- it locks nobody and unlocks nobody
pub other-lock : (rule : Telling) (n : ℕ) (s : State) (e : Effect) → accepts n e ≡ false → is_restart e ≡ false → (nexus_at (carried_out rule s e) n).lock ≡ (nexus_at s n).lock
other-lock rule n s e a f =
    ap (λ (v : View). v.lock) (other-unseen rule n s e a f)
    ∙ read_same (λ (x : Nexus). x.lock) (acts s (actions_of s e)).nexuses s.nexuses new_nexus (acts-nexuses (λ (x : Nexus). x.lock) (λ x. refl) (actions_of s e) s) n

-- ---- whose contents its actions bring

-- two lists of actions that bring none of its sets
foreign-append : (n : ℕ) (a b : List Action) → Foreign n a → Foreign n b → Foreign n (a ++ b)
foreign-append n [] b f g = g
foreign-append n (x ∷ a) b f g = (f.0, foreign-append n a b f.1 g)

-- a release brings none
foreign-found : (n : ℕ) (r : Option ℕ) → Foreign n (release_found r)
foreign-found n (Some place) = (refl, tt)
foreign-found n None = tt

-- another's LOCAL page
foreign-room : (n m : ℕ) (r : Room) (fields : Fields) → eqb m n ≡ false → Foreign n (establish_in r m fields)
foreign-room n m (Free place) fields e = (e, tt)
foreign-room n m (Evicting place) fields e = (refl, (e, tt))
foreign-room n m NoRoom fields e = tt

-- another's page, or a supplemental one
foreign-page : (n m : ℕ) (s : State) (page : Page) → (eqb m n && not page.supplemental) ≡ false → Foreign n (page_actions s m page)
unfolding page_actions
foreign-page n m s page e =
    if-elim (Foreign n) page.supplemental (λ t. tt)
    (λ t. if-elim (Foreign n) (eqb page.scope local_scope)
    (λ l. foreign-room n m (room s m) page.fields (other-sender m n page e t))
    (λ l. if-elim (Foreign n) (eqb page.scope all_scope)
    (λ a. foreign-append n (release_own s m) _ (foreign-found n (own_place s m)) (refl, tt))
    (λ a. foreign-found n (own_place s m))))

-- no action of such an effect brings a LOCAL set of the nexus's
pub other-foreign : (n : ℕ) (s : State) (e : Effect) → accepts n e ≡ false → Foreign n (actions_of s e)
unfolding actions_of
other-foreign n s nothing e = tt
other-foreign n s (marks m change) e = tt
other-foreign n s (takes m page) e = foreign-page n m s page e
other-foreign n s clears e = tt
other-foreign n s (releasing event) e = releases-elim (Foreign n) tt (λ place rest f. (refl, f)) (released_by event) s.sets
other-foreign n s restarts e = tt
