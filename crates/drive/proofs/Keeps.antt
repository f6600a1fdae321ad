-- A record whose sets and nexuses are made anew, but for parts that no rule reads: every call has the effect that it had.
-- Assumes nothing.
use Rattle.std.specs.Prelude.{Some, None}
use Prim.Native.Nat.{ℕ}
use mathlib.Core.Bool.{Bool, not, ◌&&◌}
use mathlib.Core.List.{List, [], ◌∷◌, ◌++◌, map}
use mathlib.Core.Path.{◌≡◌, refl, sym, ◌∙◌, ap, ap₂}
use lib.Dec.{eqb}
use Rattle.arrays.specs.Base.{when◌then◌else◌}
use Rattle.arrays.specs.Arrays.{find}
use Rattle.arrays.proofs.Laws.{fold_from-map}
use Rattle.answer.specs.Answers.{is_done, change_of}
use Rattle.answer.specs.declared.Answer.TheVariants.{NotWellFormed, NoPlaceForLocal}
use Rattle.answer.specs.declared.Change.TheVariants.{Registered}
use Rattle.page.specs.Check.{Checked, checked}
use Rattle.page.specs.declared.Page.{Page}
use Rattle.parameters.specs.Codes.{local_scope}
use Rattle.device.specs.Record.{State, nexus_at}
use Rattle.device.specs.Updates.{mapped}
use Rattle.device.specs.WellFormed.{well_formed}
use Rattle.device.specs.declared.Set.{Set}
use Rattle.device.specs.declared.Nexus.{Nexus}
use Rattle.places.specs.Actions.{release, releases, own_place, empty_local, unlocked_local, free_at, evicting_at, room, is_no_room, page_actions, released_by}
use Rattle.places.specs.declared.Event.{Event}
use Rattle.places.specs.declared.Event.TheVariants.{Demount, NexusLoss, DeviceLoss, Preempt, Microcode, VendorRelease}
use Rattle.drive.specs.declared.Command.{Command}
use Rattle.drive.specs.Calls.{Call, power_up, security_in, security_out, write, read, unit_reset, happens}
use Rattle.status.specs.Pages.{is_in_page, is_out_page}
use Rattle.drive.specs.Checks.{answer_if, first_of, check1, check5, check6, event_check, heard_of, page_checked, checks, answer}
use Rattle.drive.specs.Effects.{Effect, nothing, marks, takes, clears, releasing, restarts, refusal, effect_by, effect}
use Rattle.drive.specs.After.{actions_of}
use Rattle.drive.proofs.Seen.{Seen, owns-kept, find-kept, nexus-seen, owned-seen, used-seen, nexuses-kept, places-kept, heard-kept}
use Rattle.drive.proofs.Effects.{write-effect, read-effect}

-- what two maps keep besides: all that the rules of a page and of an event read of a set and of a nexus
pub record Keeps (f : Set → Set) (g : Nexus → Nexus) : Type 0 where
  pub seen : Seen f g
  pub decryption : (x : Set) → (f x).fields.decryption ≡ x.fields.decryption
  pub ckod : (x : Set) → (f x).fields.ckod ≡ x.fields.ckod
  pub ckorp : (x : Set) → (f x).fields.ckorp ≡ x.fields.ckorp
  pub ckorl : (x : Set) → (f x).fields.ckorl ≡ x.fields.ckorl
  pub count : (x : Set) → (f x).supplemental.count ≡ x.supplemental.count
  pub lock : (x : Nexus) → (g x).lock ≡ x.lock

module _ (f : Set → Set) (g : Nexus → Nexus) (k : Keeps f g) where
  -- which sets an event releases
  released-kept : (event : Event) (place : ℕ) (x : Set) → released_by event place (f x) ≡ released_by event place x
  released-kept Demount place x = k.ckod x
  released-kept (NexusLoss n) place x = ap₂ ◌&&◌ (owns-kept f g k.seen n x) (k.ckorl x)
  released-kept DeviceLoss place x = ap (λ b. eqb place 0 && b) (k.ckorl x)
  released-kept (Preempt n) place x = k.ckorp x
  released-kept Microcode place x = refl
  released-kept (VendorRelease named) place x = refl

  -- the releases that agreeing tests pick
  pub releases-kept : (p : ℕ → Set → Bool) → ((i : ℕ) (x : Set) → p i (f x) ≡ p i x) → (l : List Set) → releases p (map f l) ≡ releases p l
  unfolding releases
  releases-kept p e l =
      fold_from-map f (λ i x r. when not (eqb x.scope 0) && p i x then release i ∷ r else r) (λ i x r. when not (eqb x.scope 0) && p i x then release i ∷ r else r) []
      (λ i x r. ap₂ (λ a b. when not (eqb a 0) && b then release i ∷ r else r) (k.seen.scope x) (e i x)) 0 l

  module _ (c : ℕ → ℕ) (s : State) where
    abbrev t : State
    t = mapped c f g s

    -- the nexus's scope
    scope_kept : (n : ℕ) → (nexus_at t n).scope ≡ (nexus_at s n).scope
    scope_kept n = nexus-seen f g k.seen c s (λ x. x.scope) k.seen.nexus_scope n

    -- the nexus's own place
    own-kept : (n : ℕ) → own_place t n ≡ own_place s n
    unfolding own_place
    own-kept n = ap₂ (λ a b. when eqb a local_scope then b else None) (scope_kept n) (owned-seen f g k.seen c s n)

    -- the place of a LOCAL page
    room-kept : (n : ℕ) → room t n ≡ room s n
    unfolding room
    room-kept n =
        let free : find Some None empty_local t.sets ≡ find Some None empty_local s.sets = find-kept f g k.seen empty_local empty_local (λ i x. ap (λ a. not (eqb i 0) && eqb a 0) (k.seen.scope x)) s.sets in
        let lent : find Some None (unlocked_local t) t.sets ≡ find Some None (unlocked_local s) s.sets =
        find-kept f g k.seen (unlocked_local t) (unlocked_local s)
        (λ i x. ap (λ o. not (eqb i 0) && not (nexus_at t o).lock) (k.seen.owner x) ∙ ap (λ l. not (eqb i 0) && not l) (nexus-seen f g k.seen c s (λ y. y.lock) k.lock x.owner))
        s.sets in
        λ i. free_at (own-kept n i) (free_at (free i) (evicting_at (lent i)))

    -- a page's check
    page-kept : (n : ℕ) (page : List ℕ) → page_checked t n page ≡ page_checked s n page
    page-kept n page =
        let m = scope_kept n in
        let d = used-seen f g k.seen c s (λ x. x.fields.decryption) k.decryption n in
        let o = used-seen f g k.seen c s (λ x. x.supplemental.count) k.count n in
        λ i. checked page (m i) (d i) (o i)

    -- what a page does to the places
    pub page-actions-kept : (n : ℕ) (page : Page) → page_actions t n page ≡ page_actions s n page
    unfolding page_actions
    page-actions-kept n page = rw (own-kept n, room-kept n)

    -- what an effect does to the places
    pub actions-kept : (e : Effect) → actions_of t e ≡ actions_of s e
    unfolding actions_of
    actions-kept nothing = refl
    actions-kept (marks n change) = refl
    actions-kept (takes n page) = page-actions-kept n page
    actions-kept clears = refl
    actions-kept (releasing event) = releases-kept (released_by event) (released-kept event) s.sets
    actions-kept restarts = refl

    -- where the maps keep being well formed
    module _ (formed : well_formed t ≡ well_formed s) where
      -- checks 1 to 4
      first-kept : (n : ℕ) → check1 t ∷ heard_of t n ≡ check1 s ∷ heard_of s n
      first-kept = heard-kept f g k.seen c s formed

      -- the answer to SECURITY PROTOCOL IN
      in_kept : (command : Command) → answer t (security_in command) ≡ answer s (security_in command)
      unfolding answer checks
      in_kept command = ap (λ l. first_of (l ++ check5 command.protocol ∷ check6 (is_in_page command.code) ∷ [])) (first-kept command.nexus)

      -- the answer to a page
      out-kept : (command : Command) (page : List ℕ) → answer t (security_out command page) ≡ answer s (security_out command page)
      unfolding answer checks
      out-kept command page =
          let n = command.nexus in
          let read : page_checked t n page ≡ page_checked s n page = page-kept n page in
          λ i. first_of (first-kept n i ++ check5 command.protocol ∷ check6 (is_out_page command.code) ∷ (read i).answer
          ∷ answer_if (not (read i).page.supplemental && eqb (read i).page.scope local_scope && is_no_room (room-kept n i)) NoPlaceForLocal ∷ [])

      -- the answer to a reset
      reset-kept : answer t unit_reset ≡ answer s unit_reset
      unfolding answer checks
      reset-kept = ap (λ b. first_of (answer_if (not b) NotWellFormed ∷ checks s unit_reset)) formed

      -- the answer to an event
      event-kept : (event : Event) → answer t (happens event) ≡ answer s (happens event)
      unfolding answer checks
      event-kept event = λ i. first_of (answer_if (not (formed i)) NotWellFormed ∷ event_check (nexuses-kept f g k.seen c s i) (places-kept f g k.seen c s i) event ∷ [])

      -- every call does what it did: a write's answer 11 alone looks at a number, and it does nothing
      pub effect-kept : (call : Call) → effect t call ≡ effect s call
      unfolding effect_by answer checks
      effect-kept power_up = refl
      effect-kept (security_in command) = ap (λ a. when is_done a then marks command.nexus Registered else refusal (Some command.nexus) (change_of a)) (in_kept command)
      effect-kept (security_out command page) =
          ap₂ (λ a (p : Checked). when is_done a then takes command.nexus p.page else refusal (Some command.nexus) (change_of a)) (out-kept command page) (page-kept command.nexus page)
      effect-kept (write n supported) =
          write-effect t n supported ∙ ap (λ l. refusal (Some n) (change_of (first_of l))) (first-kept n) ∙ sym (write-effect s n supported)
      effect-kept (read n block) =
          read-effect t n block ∙ ap (λ l. refusal (Some n) (change_of (first_of l))) (first-kept n) ∙ sym (read-effect s n block)
      effect-kept unit_reset = ap (λ a. when is_done a then clears else nothing) reset-kept
      effect-kept (happens event) = ap (λ a. when is_done a then releasing event else nothing) (event-kept event)
