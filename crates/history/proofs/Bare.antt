-- The record with its numbers left out goes its way by itself.
-- Assumes nothing.
use Rattle.std.specs.Prelude.{ℕ, Option, Some}
use Prim.Native.Nat.{ℕ}
use mathlib.Core.Bool.{false, not, ◌||◌}
use mathlib.Core.List.{map, map-map, map-id}
use mathlib.Core.Path.{◌≡◌, refl, sym, ◌∙◌, ap, ap₂}
use lib.Dec.{eqb}
use lib.ListN.{length}
use Rattle.arrays.proofs.Laws.{read_same}
use Rattle.device.specs.Record.{State, no_set}
use Rattle.device.specs.Updates.{with_supplemental, mapped}
use Rattle.device.specs.Selecting.{selected}
use Rattle.device.specs.WellFormed.{set_good, well_formed}
use Rattle.device.specs.declared.Set.{Set}
use Rattle.device.specs.declared.Nexus.{Nexus}
use Rattle.marks.specs.Marks.{flagged}
use Rattle.places.specs.Actions.{acts, appended}
use Rattle.drive.specs.Calls.{Call}
use Rattle.drive.specs.Effects.{Effect, nothing, marks, takes, clears, releasing, restarts, effect}
use Rattle.drive.specs.After.{actions_of, changed_by, actor_of, carried_out, by_number, actions, after}
use Rattle.drive.proofs.Effects.{is_restart}
use Rattle.drive.proofs.Seen.{good-seen}
use Rattle.drive.proofs.Keeps.{Keeps}
use Rattle.history.specs.History.{hits, did, Bare, bare_set, bare_nexus, bare, full_set, full_nexus, full, by_action, reads, place_number, Low}
use Rattle.history.proofs.Left.{changed-same}
use Rattle.history.proofs.Numbers.{differs-hits}
use Rattle.history.proofs.Moves.{Moves, Alike, same-selected, effect-alike, same-actions, same_effect}

-- ---- leaving numbers out, as maps

-- the counter
abbrev uncounted : ℕ → ℕ
uncounted counter = 0

-- a set
abbrev unnumbered : Set → Set
unnumbered x = full_set (bare_set x)

-- a nexus
abbrev unsaved : Nexus → Nexus
unsaved x = full_nexus (bare_nexus x)

-- no effect reads a number
keeps : Keeps unnumbered unsaved
keeps = record {
  seen = record { owner = λ x. refl; scope = λ x. refl; nexus_scope = λ x. refl; marks = λ x. refl };
  decryption = λ x. refl;
  ckod = λ x. refl;
  ckorp = λ x. refl;
  ckorl = λ x. refl;
  count = λ x. refl;
  lock = λ x. refl;
}

-- nor does being well formed depend on one
formed : (s : State) → well_formed (mapped uncounted unnumbered unsaved s) ≡ well_formed s
unfolding set_good
formed s = good-seen unnumbered unsaved keeps.seen uncounted s (λ nexuses place x. refl)

-- and what an effect changes it changes alike
moves : Moves uncounted unnumbered unsaved
moves = record {
  counter = λ i j e. refl;
  number = λ i j x e. refl;
  extends = λ key x y e. ap (λ (z : Set). with_supplemental (appended key z.supplemental) z) e;
  scopes = λ scope x. refl;
  remarks = λ marks x. refl;
  settles = λ page a b x y e h. ap (λ (z : Nexus). record { scope = page.scope; lock = page.lock; saved = 0; last_local = 0; marks = z.marks }) h;
}

-- two records that agree but for their numbers
abbrev Agree : State → State → Type 0
Agree = Alike uncounted unnumbered unsaved keeps moves

-- that is, they are one with the numbers left out
bare-agree : (s t : State) → bare s ≡ bare t → Agree s t
unfolding bare
bare-agree s t e = record {
  counter = refl;
  sets = sym (map-map full_set bare_set s.sets) ∙ ap (λ (b : Bare). map full_set b.sets) e ∙ map-map full_set bare_set t.sets;
  nexuses = sym (map-map full_nexus bare_nexus s.nexuses) ∙ ap (λ (b : Bare). map full_nexus b.nexuses) e ∙ map-map full_nexus bare_nexus t.nexuses;
}

-- and the other way
agree-bare : (s t : State) → Agree s t → bare s ≡ bare t
unfolding bare
agree-bare s t a =
    let sets : map bare_set s.sets ≡ map bare_set t.sets =
    sym (map-map bare_set unnumbered s.sets) ∙ ap (map bare_set) a.sets ∙ map-map bare_set unnumbered t.sets in
    let nexuses : map bare_nexus s.nexuses ≡ map bare_nexus t.nexuses =
    sym (map-map bare_nexus unsaved s.nexuses) ∙ ap (map bare_nexus) a.nexuses ∙ map-map bare_nexus unsaved t.nexuses in
    λ i. record { sets = sets i; nexuses = nexuses i }

-- a record made from one without numbers has no other
bare-full : (b : Bare) → bare (full b) ≡ b
unfolding bare full
bare-full b =
    let sets : map bare_set (map full_set b.sets) ≡ b.sets = map-map bare_set full_set b.sets ∙ map-id b.sets in
    let nexuses : map bare_nexus (map full_nexus b.nexuses) ≡ b.nexuses = map-map bare_nexus full_nexus b.nexuses ∙ map-id b.nexuses in
    λ i. record { sets = sets i; nexuses = nexuses i }

-- ---- no effect depends on a number

-- the place whose set a nexus uses
uses-bare : (s t : State) → bare s ≡ bare t → (n : ℕ) → selected s n ≡ selected t n
uses-bare s t e n = same-selected uncounted unnumbered unsaved keeps moves n s t (bare-agree s t e)

-- Two records that agree but for their numbers: every call has the same effect on them, does the same to the places, and, where
-- nexuses are told by the actions, leaves two records that agree but for their numbers.
pub same-but-numbers : (s t : State) → bare s ≡ bare t → (call : Call)
    → (effect s call ≡ effect t call) × (actions s call ≡ actions t call) × (bare (carried_out by_action s (effect s call)) ≡ bare (carried_out by_action t (effect t call)))
same-but-numbers s t e call =
    let a = bare-agree s t e in
    let same : effect s call ≡ effect t call = same_effect uncounted unnumbered unsaved keeps moves call s t (formed s) (formed t) a in (
      same,
      same-actions uncounted unnumbered unsaved keeps moves (effect s call) s t a ∙ ap (actions_of t) same,
      agree-bare _ _ (effect-alike uncounted unnumbered unsaved keeps moves by_action (λ l s t u v n a b. ap₂ (λ i j. not (eqb i j) || hits i l) (uses n s t a) (uses n u v b)) (effect s call) s t a)
          ∙ ap (λ x. bare (carried_out by_action t x)) same,
    )
  where
    uses : (n : ℕ) (s t : State) → Agree s t → selected s n ≡ selected t n
    uses = same-selected uncounted unnumbered unsaved keeps moves

-- ---- who is told

-- where no number is above the counter and none of the draws wraps, "its number differs" is "a call acted on it"
telling-same : (s : State) (e : Effect) (actor : Option ℕ) → is_restart e ≡ false → Low s (length (actions_of s e))
    → flagged (by_number (actions_of s e) s (changed_by s e)) actor s (changed_by s e) ≡ flagged (by_action (actions_of s e) s (changed_by s e)) actor s (changed_by s e)
telling-same s e actor f w =
    let number : (place : ℕ) → place_number (changed_by s e) place ≡ place_number (acts s (actions_of s e)) place =
    read_same (λ x. x.number) (changed_by s e).sets (acts s (actions_of s e)).sets no_set (changed-same (λ x. x.number) (λ k x. refl) s e f) in
    λ i. flagged (λ n. differs-hits (actions_of s e) s (changed_by s e) n w number i) actor s (changed_by s e)

-- So nexuses are told by the numbers just as they are by the actions: the records are the same.
pub told-by-action : (s : State) (e : Effect) → Low s (length (actions_of s e)) → carried_out by_number s e ≡ carried_out by_action s e
unfolding carried_out
told-by-action s nothing w = refl
told-by-action s (marks n change) w = refl
told-by-action s (takes n page) w = telling-same s (takes n page) (Some n) refl w
told-by-action s clears w = refl
told-by-action s (releasing event) w = telling-same s (releasing event) (actor_of event) refl w
told-by-action s restarts w = refl

-- ---- one call read

module _ (s : State) (call : Call) (w : Low s (length (actions s call))) where
  -- the record after a call, its numbers left out, is what the call is read to leave
  pub read_step : reads (bare s) call ≡ bare (after s call)
  unfolding reads
  read_step = (same-but-numbers (full (bare s)) s (bare-full (bare s)) call).2 ∙ ap bare (sym (told-by-action s (effect s call) w))

  -- and it is read to do what it did
  pub read-did : did (full (bare s)) call (full (reads (bare s) call)) ≡ did s call (after s call)
  read-did =
      let same = same-but-numbers (full (bare s)) s (bare-full (bare s)) call in
      let uses : (n : ℕ) → selected (full (reads (bare s) call)) n ≡ selected (after s call) n = uses-bare _ _ (bare-full (reads (bare s) call) ∙ read_step) in
      λ i. record { effect = same.0 i; actions = same.1 i; uses = λ n. uses n i }
