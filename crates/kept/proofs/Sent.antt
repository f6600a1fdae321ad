-- The set that an accepted page leaves its sender using is that page's.
-- Assumes nothing.
use Rattle.std.specs.Prelude.{ℕ, Option}
use Prim.Native.Nat.{ℕ, ◌<◌}
use mathlib.Core.Path.{◌≡◌, refl, sym, ap, subst, ◌∙◌}
use mathlib.Core.Bool.{Bool, true, false}
use mathlib.Core.List.{List, [], ◌∷◌, ◌++◌}
use native.Mathlib.Omega.{arith}
use borrow.Author.Tests.{eqb-true, eqb-false, eq-eqb}
use lib.Dec.{eqb}
use lib.ListN.{length, get_or}
use lib.Seq.{get_or-set_same}
use Rattle.arrays.proofs.Base.{cases, clash, both, if-true, if-false}
use Rattle.arrays.proofs.Laws.{get_d-map_from}
use Rattle.answer.specs.Answers.{is_done}
use Rattle.answer.specs.declared.Answer.TheVariants.{Done}
use Rattle.answer.specs.declared.Change.{Change}
use Rattle.answer.specs.declared.Change.TheVariants.{Registered}
use Rattle.parameters.specs.Codes.{public_scope, local_scope, all_scope}
use Rattle.page.specs.Fields.{scope_of, is_public, sdk_of}
use Rattle.page.specs.Check.{set_said}
use Rattle.page.specs.declared.Page.{Page}
use Rattle.page.proofs.Accepted.{set_says}
use Rattle.device.specs.Record.{State, set_at, nexus_at, no_set, new_nexus}
use Rattle.device.specs.Selecting.{selected, selected_set}
use Rattle.device.specs.WellFormed.{well_formed}
use Rattle.device.specs.declared.Set.{Set}
use Rattle.device.specs.declared.Nexus.{Nexus}
use Rattle.device.proofs.Selecting.{selected-shared, selected-only}
use Rattle.marks.specs.Marks.{changes, flagged}
use Rattle.places.specs.Actions.{Action, release, establish, act, acts, release_own, room, establish_in, page_actions, sender_after, taken}
use Rattle.places.specs.declared.Room.{Room}
use Rattle.places.specs.declared.Room.TheVariants.{Free, Evicting, NoRoom}
use Rattle.places.proofs.Lengths.{act-size, acts-size, taken-size}
use Rattle.places.proofs.Releases.{acts-append}
use Rattle.places.proofs.Sender.{taken-whole, sender-scope}
use Rattle.drive.specs.declared.Command.{Command}
use Rattle.drive.specs.Calls.{security_out}
use Rattle.drive.specs.Checks.{page_checked, answer}
use Rattle.drive.specs.Effects.{Effect, takes, effect_by, effect}
use Rattle.drive.specs.After.{changed_by, carried_out, by_number, after}
use Rattle.drive.proofs.Effects as effects
use Rattle.kept.specs.Sent.{AsSent}
use Rattle.kept.proofs.Near.{act-set-by}
use Rattle.kept.proofs.Kept.{RoomFit, room-fit}
use Rattle.kept.proofs.Calls.{page-fit, effect-kept}

-- ---- the set is put down

module _ (n : ℕ) (page : Page) where
  -- a place where it is
  abbrev Placed : State → Type 0
  Placed s = (place : ℕ) × AsSent n page (set_at s place)

  -- the place in which it is established
  act-sent : (s : State) (place scope : ℕ) → scope ≡ page.scope → place < length s.sets → AsSent n page (set_at (act s (establish place n scope page.fields)) place)
  act-sent s place scope e l =
      act-set-by s (establish place n scope page.fields) (AsSent n page) place l (λ q. record { owner = refl; scope = e; fields = refl; supplemental = refl })
      (λ q. clash (eq-eqb place place refl) q)

  -- LOCAL
  room-sent : (s : State) → local_scope ≡ page.scope → (r : Room) → (r ≡ NoRoom → ⊥) → RoomFit s n r → Placed (acts s (establish_in r n page.fields))
  unfolding acts
  room-sent s e (Free place) ne v = (place, act-sent s place local_scope e v.within)
  room-sent s e (Evicting place) ne v =
      (place, act-sent (act s (release place)) place local_scope e (subst (λ (k : ℕ). place < k) (sym (act-size s (release place)).places) v.0.within))
  room-sent s e NoRoom ne v = absurd (ne refl)

  -- ALL
  all-sent : (s : State) → all_scope ≡ page.scope → 0 < length s.sets → AsSent n page (set_at (acts s (release_own s n ++ establish 0 n all_scope page.fields ∷ [])) 0)
  unfolding acts
  all-sent s e some =
      subst (λ (x : State). AsSent n page (set_at x 0)) (sym (acts-append s (release_own s n) (establish 0 n all_scope page.fields ∷ [])))
      (act-sent (acts s (release_own s n)) 0 all_scope e (omega (arith, (acts-size s (release_own s n)).places)))

-- ---- marks and flags leave a scope

module _ (n : ℕ) where
  changes-scope : (s : State) (change : Change) → n < length s.nexuses → (nexus_at (changes s n change) n).scope ≡ (nexus_at s n).scope
  unfolding changes
  changes-scope s change l = ap (λ (x : Nexus). x.scope) (get_or-set_same s.nexuses n _ new_nexus l)

  flagged-scope : (differ : ℕ → Bool) (actor : Option ℕ) (s t : State) → n < length t.nexuses → (nexus_at (flagged differ actor s t) n).scope ≡ (nexus_at t n).scope
  unfolding flagged
  flagged-scope differ actor s t l = ap (λ (x : Nexus). x.scope) (get_d-map_from _ t.nexuses n new_nexus new_nexus l)

-- ---- the page carried out

module _ (s : State) (n : ℕ) (page : Page) (here : n < length s.nexuses) (whole : page.supplemental ≡ false) where
  -- its actions
  abbrev acted : State
  acted = acts s (page_actions s n page)

  -- the record after it
  abbrev done : State
  done = carried_out by_number s (takes n page)

  done-sets : done.sets ≡ acted.sets
  unfolding carried_out changed_by flagged changes sender_after
  done-sets = ap (λ (x : State). x.sets) (taken-whole s n page whole)

  done-scope : (nexus_at done n).scope ≡ page.scope
  unfolding carried_out changed_by
  done-scope =
      let t = taken s n page in
      let size = taken-size s n page in
      let registered : n < length (changes t n Registered).nexuses = omega (arith, here, size.nexuses, (effects.changes-size t n Registered).nexuses) in
      flagged-scope n _ _ s (changes t n Registered) registered ∙ changes-scope n t Registered (omega (arith, here, size.nexuses))
      ∙ ap (λ (x : State). (nexus_at x n).scope) (taken-whole s n page whole) ∙ sender-scope acted n page (omega (arith, here, (acts-size s (page_actions s n page)).nexuses))

  -- where it put a set down, and its sender uses that place
  sent-there : (place : ℕ) → AsSent n page (set_at acted place) → selected done n ≡ place → AsSent n page (selected_set done n)
  sent-there place a e = subst (λ (k : ℕ). AsSent n page (set_at done k)) (sym e) (subst (λ (l : List Set). AsSent n page (get_or l place no_set)) (sym done-sets) a)

  module _ (w : well_formed done ≡ true) where
    -- LOCAL: the place that the sender owns
    local-used : page.scope ≡ local_scope → Placed n page acted → AsSent n page (selected_set done n)
    local-used e x =
        let there : AsSent n page (set_at done x.0) = subst (λ (l : List Set). AsSent n page (get_or l x.0 no_set)) (sym done-sets) x.1 in
        sent-there x.0 x.1 (selected-only done w n x.0 (done-scope ∙ e) (both _ _ (eq-eqb _ _ (there.scope ∙ e)) (eq-eqb _ _ there.owner)))

    -- ALL: place 0
    all-used : page.scope ≡ all_scope → AsSent n page (set_at acted 0) → AsSent n page (selected_set done n)
    all-used e a = sent-there 0 a (selected-shared done n (ap (λ (k : ℕ). eqb k local_scope) (done-scope ∙ e)))

-- so with either scope
page-used : (s : State) (n : ℕ) (page : Page) → well_formed s ≡ true → 0 < length s.sets → effects.Taken s n page → page.supplemental ≡ false → 0 < page.scope
    → AsSent n page (selected_set (carried_out by_number s (takes n page)) n)
unfolding page_actions
page-used s n page w some t whole scoped =
    let here = t.within in
    let fit = page-fit s n page t in
    let kept = effect-kept by_number s (takes n page) t (omega (arith, here)) some w in
    cases (eqb page.scope local_scope)
    (λ e.
    let l = eqb-true page.scope local_scope e in
    let same : page_actions s n page ≡ establish_in (room s n) n page.fields = if-false _ _ _ whole ∙ if-true _ _ _ e in
    local-used s n page here whole kept l (subst (λ (x : List Action). Placed n page (acts s x)) (sym same) (room-sent n page s (sym l) (room s n) (fit.place whole l) (room-fit s w n))))
    (λ f.
    let a : page.scope ≡ all_scope = omega (arith, scoped, fit.scope, eqb-false page.scope local_scope f) in
    let same : page_actions s n page ≡ release_own s n ++ establish 0 n all_scope page.fields ∷ [] = if-false _ _ _ whole ∙ if-false _ _ _ f ∙ if-true _ _ _ (eq-eqb _ _ a) in
    all-used s n page here whole kept a (subst (λ (x : List Action). AsSent n page (set_at (acts s x) 0)) (sym same) (all-sent n page s (sym a) some)))

-- A page with SDK 0, LOCAL or ALL, that is done leaves its sender using the set that its bytes ask for: its own, with its scope and its fields.
pub set-as-sent : (s : State) (command : Command) (bytes : List ℕ) → well_formed s ≡ true → 0 < length s.sets → is_public bytes ≡ false → sdk_of bytes ≡ false
    → answer s (security_out command bytes) ≡ Done → AsSent command.nexus (set_said bytes) (selected_set (after s (security_out command bytes)) command.nexus)
unfolding effect_by
set-as-sent s command bytes w some used fresh e =
    let n = command.nexus in
    let read = (page_checked s n bytes).page in
    let passed = effects.out-passed s command bytes (ap is_done e) in
    let says : read ≡ set_said bytes = set_says bytes _ _ _ used fresh passed.1.0 in
    let same : effect s (security_out command bytes) ≡ takes n (set_said bytes) = if-true _ _ _ (ap is_done e) ∙ ap (takes n) says in
    let due = subst (effects.Due s) same (effects.effect-due s (security_out command bytes)) in
    let scoped : 0 < scope_of bytes = omega (arith, eqb-false (scope_of bytes) public_scope used) in
    subst (λ (x : Effect). AsSent n (set_said bytes) (selected_set (carried_out by_number s x) n)) (sym same) (page-used s n (set_said bytes) w some due refl scoped)
