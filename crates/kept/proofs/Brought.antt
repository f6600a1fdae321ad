-- What holds of no fields and of every page that makes a set holds of every set since power-on: so no call brings what request 2 refuses.
-- Assumes nothing.
use Rattle.std.specs.Prelude.{ℕ, Option, Some, None}
use Prim.Native.Nat.{ℕ, zero, suc, ◌<◌}
use mathlib.Core.Path.{◌≡◌, refl, sym, subst}
use mathlib.Core.Bool.{Bool, true, false}
use mathlib.Core.List.{List, [], ◌∷◌, ◌++◌}
use native.Mathlib.Omega.{arith}
use borrow.Author.Tests.{eqb-true, ltb-true, ltb-false}
use lib.Dec.{eqb, ltb}
use lib.ListN.{length, get_or, set, replicate}
use lib.Seq.{set_out}
use Rattle.arrays.proofs.Base.{cases, if-elim}
use Rattle.arrays.proofs.Laws.{get_d-set-by}
use Rattle.parameters.specs.Codes.{local_scope, all_scope}
use Rattle.parameters.specs.Fields.{no_fields}
use Rattle.parameters.specs.declared.Fields.{Fields}
use Rattle.page.specs.Rules.{ceem_wrong}
use Rattle.page.specs.declared.Page.{Page}
use Rattle.device.specs.Record.{State, set_at, no_set, empty_set, power_on}
use Rattle.device.specs.Selecting.{selected}
use Rattle.device.specs.declared.Set.{Set}
use Rattle.marks.specs.Marks.{changes, flagged}
use Rattle.marks.specs.Reset.{cleared}
use Rattle.places.specs.Actions.{Action, establish, act, acts, releases, release_found, own_place, room, establish_in, page_actions, sender_after, supplemented, taken, released_by}
use Rattle.places.specs.declared.Room.{Room}
use Rattle.places.specs.declared.Room.TheVariants.{Free, Evicting, NoRoom}
use Rattle.places.proofs.Releases.{releases-elim}
use Rattle.drive.specs.Calls.{Call}
use Rattle.drive.specs.Effects.{Effect, nothing, marks, takes, clears, releasing, restarts, effect}
use Rattle.drive.specs.After.{changed_by, carried_out, by_number, after}
use Rattle.drive.specs.Runs.{run_from, run}
use Rattle.drive.proofs.Effects as effects
use Rattle.kept.proofs.Kept.{SetFit, Fit}
use Rattle.kept.proofs.Calls.{page-fit}

module _ (P : Fields → Type 0) (none : P no_fields) (past : P no_set.fields) (made : (fields : Fields) → SetFit fields → P fields) where
  -- it holds of the set in every place
  abbrev pub Held : List Set → Type 0
  Held sets = (place : ℕ) → P (get_or sets place no_set).fields

  -- one place takes a set of which it holds
  set-held : (sets : List Set) (k : ℕ) (x : Set) → P x.fields → Held sets → Held (set sets k x)
  set-held sets k x p h place =
      cases (ltb k (length sets)) (λ t. get_d-set-by (λ (y : Set). P y.fields) sets k place x no_set (λ q. ltb-true _ _ t) (λ q. p) (λ q. h place))
      (λ t. subst (λ (l : List Set). P (get_or l place no_set).fields) (sym (set_out sets k x (ltb-false _ _ t))) (h place))

  -- empty places
  empty-held : (places : ℕ) → Held (replicate places (empty_set 0))
  empty-held zero place = past
  empty-held (suc places) zero = none
  empty-held (suc places) (suc place) = empty-held places place

  -- ---- actions

  -- it holds of what each of them puts down
  abbrev Brought : List Action → Type 0
  Brought [] = Unit
  Brought (a ∷ more) = P a.contents.fields × Brought more

  acts-held : (actions : List Action) (s : State) → Brought actions → Held s.sets → Held (acts s actions).sets
  unfolding acts act
  acts-held [] s b h = h
  acts-held (a ∷ more) s b h = acts-held more (act s a) b.1 (set-held s.sets a.place _ b.0 h)

  -- releases put down the empty set
  released : (picked : ℕ → Set → Bool) (sets : List Set) → Brought (releases picked sets)
  released picked sets = releases-elim Brought tt (λ place rest h. (none, h)) picked sets

  -- a page its fields, after a release or not
  own-released : (found : Option ℕ) → Brought (release_found found)
  own-released (Some place) = (none, tt)
  own-released None = tt

  brought-append : (actions more : List Action) → Brought actions → Brought more → Brought (actions ++ more)
  brought-append [] more b h = h
  brought-append (a ∷ actions) more b h = (b.0, brought-append actions more b.1 h)

  room-brought : (r : Room) (n : ℕ) (fields : Fields) → P fields → Brought (establish_in r n fields)
  room-brought (Free place) n fields p = (p, tt)
  room-brought (Evicting place) n fields p = (none, (p, tt))
  room-brought NoRoom n fields p = tt

  module _ (s : State) (n : ℕ) (page : Page) (fit : Fit s n page) where
    fields_fit : page.supplemental ≡ false → (scope : ℕ) → eqb page.scope scope ≡ true → 0 < scope → P page.fields
    fields_fit f scope e l = made page.fields (fit.fields f (subst (λ (k : ℕ). 0 < k) (sym (eqb-true _ _ e)) l))

    page-brought : Brought (page_actions s n page)
    unfolding page_actions
    page-brought =
        if-elim Brought page.supplemental (λ t. tt)
        (λ f. if-elim Brought (eqb page.scope local_scope) (λ e. room-brought (room s n) n page.fields (fields_fit f local_scope e (omega arith)))
        (λ g. if-elim Brought (eqb page.scope all_scope)
        (λ e. brought-append (release_found (own_place s n)) (establish 0 n all_scope page.fields ∷ []) (own-released (own_place s n)) (fields_fit f all_scope e (omega arith), tt))
        (λ e. own-released (own_place s n))))

    -- a supplemental key leaves the fields
    page-held : Held s.sets → Held (taken s n page).sets
    unfolding taken sender_after supplemented
    page-held h =
        if-elim (λ (t : State). Held t.sets) page.supplemental (λ t. set-held s.sets (selected s n) _ (h (selected s n)) h)
        (λ f. acts-held (page_actions s n page) s page-brought h)

  -- ---- calls

  effect-held : (s : State) (e : Effect) → effects.Due s e → Held s.sets → Held (carried_out by_number s e).sets
  unfolding carried_out changed_by changes flagged cleared power_on
  effect-held s nothing d h = h
  effect-held s (marks n change) d h = h
  effect-held s (takes n page) d h = page-held s n page (page-fit s n page d) h
  effect-held s clears d h = h
  effect-held s (releasing event) d h = acts-held (releases (released_by event) s.sets) s (released (released_by event) s.sets) h
  effect-held s restarts d h = empty-held (length s.sets)

  run-held : (calls : List Call) (s : State) → Held s.sets → Held (run_from s calls).sets
  unfolding run_from
  run-held [] s h = h
  run-held (call ∷ calls) s h = run-held calls (after s call) (effect-held s (effect s call) (effects.effect-due s call) h)

  -- What holds of no fields and of every page that makes a set holds of every set since power-on.
  pub held-since : (nexuses places : ℕ) (calls : List Call) → Held (run nexuses places calls).sets
  unfolding power_on
  held-since nexuses places calls = run-held calls (power_on nexuses places) (empty-held places)

-- Since power-on no place holds a set with CEEM 10b or 11b and decryption DISABLE, whatever was sent.
pub never-held : (nexuses places : ℕ) (calls : List Call) (place : ℕ) → let fields = (set_at (run nexuses places calls) place).fields in
    ceem_wrong fields.ceem fields.decryption ≡ false
never-held = held-since (λ fields. ceem_wrong fields.ceem fields.decryption ≡ false) refl refl (λ fields fit. fit.paired)
