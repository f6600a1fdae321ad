-- What holds of a nexus after its own page, and stays under every other effect.
-- Assumes nothing.
use Rattle.std.specs.Prelude.{Some, None}
use Prim.Native.Nat.{ℕ, zero, suc, ◌<◌}
use mathlib.Core.Bool.{true, false}
use mathlib.Core.Path.{◌≡◌, refl, sym, ◌∙◌, ap, subst}
use native.Mathlib.Omega.{arith}
use lib.ListN.{length, get_or, replicate}
use lib.Seq.{get_or-set_same}
use lib.Dec.{eqb}
use borrow.Author.Tests.{eqb-true, eqb-false, not-true}
use Rattle.arrays.specs.Base.{when◌then◌else◌}
use Rattle.arrays.proofs.Base.{cases, clash, and_left, and_right, if-elim, if-true}
use Rattle.arrays.proofs.Laws.{find-by}
use Rattle.answer.specs.declared.Change.TheVariants.{Registered}
use Rattle.page.specs.declared.Page.{Page}
use Rattle.parameters.specs.Codes.{local_scope}
use Rattle.device.specs.Record.{State, power_on, set_at, nexus_at, no_set, new_nexus}
use Rattle.device.specs.Updates.{with_scope, at_nexus}
use Rattle.device.specs.Selecting.{owns, owned_place, or_else, selected, selected_set}
use Rattle.device.specs.declared.Nexus.{Nexus}
use Rattle.device.proofs.Selecting.{selected-within}
use Rattle.marks.specs.Marks.{changes}
use Rattle.places.specs.Actions.{acts, page_actions, nexus_after, sender_after, taken}
use Rattle.places.proofs.Lengths.{acts-size, sender-size}
use Rattle.drive.specs.Effects.{Effect, nothing, marks, takes, clears, releasing, restarts}
use Rattle.drive.specs.After.{actions_of, changed_by, Telling, carried_out}
use Rattle.drive.proofs.Effects.{is_restart}
use Rattle.history.specs.History.{accepts, place_number}
use Rattle.places.proofs.Sender.{taken-whole}
use Rattle.history.proofs.Numbers.{Fits, Sound, acts-sound, anew, effect-sound}
use Rattle.history.proofs.Held.{Mark, View, view, Held, hit_by, acts-held}
use Rattle.history.proofs.Others.{Unseen, changes-unseen, flagged-unseen, other-unseen, other-lock, other-foreign}

-- nexus n is one of the nexuses, there is a place, and the numbers are sound
pub record Base (n : ℕ) (s : State) : Type 0 where
  pub here : n < length s.nexuses
  pub some : 0 < length s.sets
  pub sound : Sound s

-- the numbers are sound and, while the nexus is locked, tell what the mark says
pub record Good (n : ℕ) (m : Mark) (s : State) : Type 0 where
  pub sound : Sound s
  pub held : (nexus_at s n).lock ≡ true → Held m (view n s)

-- ---- the nexus's own page

-- a nexus that does not use place 0 uses a LOCAL set
selected-used : (s : State) (n : ℕ) → (selected s n ≡ 0 → ⊥) → (set_at s (selected s n)).scope ≡ local_scope
unfolding selected owned_place
selected-used s n =
    if-elim (λ p. (p ≡ 0 → ⊥) → (set_at s p).scope ≡ local_scope) (eqb (nexus_at s n).scope local_scope)
    (λ e. find-by Some None (λ place. owns n) no_set (λ f. (or_else f 0 ≡ 0 → ⊥) → (set_at s (or_else f 0)).scope ≡ local_scope) s.sets
    (λ k l t ne. eqb-true _ _ (and_left _ _ t))
    (λ ne. absurd (ne refl)))
    (λ e ne. absurd (ne refl))

module _ (n : ℕ) (page : Page) (e : State) (b : Base n e) where
  -- the number that it saves
  abbrev number : ℕ
  number = (selected_set (at_nexus n (with_scope page.scope) e) n).number

  -- the sender afterwards
  nexus-is : nexus_at (sender_after e n page) n ≡ nexus_after page number (nexus_at e n)
  unfolding sender_after
  nexus-is = get_or-set_same e.nexuses n (nexus_after page number (nexus_at e n)) new_nexus b.here

  -- the place that a nexus with its sets uses
  uses : Nexus → ℕ
  uses x = when eqb x.scope local_scope then or_else (owned_place e.sets n) 0 else 0

  -- saving changes no place
  selected-is : selected (sender_after e n page) n ≡ selected (at_nexus n (with_scope page.scope) e) n
  unfolding sender_after selected uses
  selected-is = ap uses nexus-is ∙ sym (ap uses (get_or-set_same e.nexuses n (with_scope page.scope (nexus_at e n)) new_nexus b.here))

  -- with LOCK 1, it has saved its set's number
  settled-kept : (nexus_at (sender_after e n page) n).lock ≡ true → (nexus_at (sender_after e n page) n).saved ≡ place_number (sender_after e n page) (selected (sender_after e n page) n)
  settled-kept l =
      let locked : page.lock ≡ true = sym (ap (λ (x : Nexus). x.lock) nexus-is) ∙ l in
      ap (λ (x : Nexus). x.saved) nexus-is ∙ if-true _ _ _ locked ∙ kept
    where
      kept : number ≡ place_number (sender_after e n page) (selected (sender_after e n page) n)
      kept = ap (λ p. place_number e p) (sym selected-is) ∙ unfold sender_after in refl

  -- the numbers are as they were
  settled-sound : Sound (sender_after e n page)
  unfolding sender_after
  settled-sound = record { low = b.sound.low; apart = b.sound.apart; born = b.sound.born }

  -- so what it saves tells, if it locks
  settled-held : (nexus_at (sender_after e n page) n).lock ≡ true → Held (record { left = selected (sender_after e n page) n; touched = false }) (view n (sender_after e n page))
  settled-held l =
      let s : State = sender_after e n page in
      let kept : (nexus_at s n).saved ≡ place_number s (selected s n) = settled-kept l in
      record {
        inside = selected-within s n (rw (sender-size e n page).places b.some);
        drawn = omega (arith, kept, settled-sound.low (selected s n));
        still = λ t. refl;
        kept = λ t. kept;
        moved = λ t. clash t refl;
        home = λ ne. absurd (ne refl);
        root = λ z. cases (eqb (selected s n) 0)
            (λ x. eqb-true _ _ x)
            (λ x. omega (arith, settled-sound.born (selected s n) (sym kept ∙ z), selected-used s n (eqb-false _ _ x)));
      }

-- the nexus's own page taken: it uses the place that it is left using, and has saved its number if it locks
taken-held : (rule : Telling) (n : ℕ) (s : State) (page : Page) → Base n s → page.supplemental ≡ false → Fits s (length (page_actions s n page))
    → (nexus_at (carried_out rule s (takes n page)) n).lock ≡ true → Held (record { left = selected (carried_out rule s (takes n page)) n; touched = false }) (view n (carried_out rule s (takes n page)))
unfolding carried_out changed_by
taken-held rule n s page b w fits l =
    let a = page_actions s n page in
    let e = acts s (page_actions s n page) in
    let base : Base n (acts s (page_actions s n page)) = record { here = rw (acts-size s a).nexuses b.here; some = rw (acts-size s a).places b.some; sound = acts-sound a s fits b.sound } in
    let same : Unseen n (sender_after e n page) (carried_out rule s (takes n page)) =
    flagged-unseen n _ _ s (changes (taken s n page) n Registered) ∙ changes-unseen n n Registered (taken s n page) ∙ ap (view n) (taken-whole s n page w) in
    subst (λ (v : View). Held (record { left = v.selected; touched = false }) v) (sym same) (settled-held n page e base (sym (ap (λ (v : View). v.lock) same) ∙ l))

-- a page of the nexus's that isn't supplemental
pub accepted-is : (n : ℕ) (e : Effect) → accepts n e ≡ true → (page : Page) × (e ≡ takes n page) × (page.supplemental ≡ false)
accepted-is n nothing t = clash t refl
accepted-is n (marks m change) t = clash t refl
accepted-is n (takes m page) t = (page, ap (λ i. takes i page) (eqb-true m n (and_left _ _ t)), not-true _ (and_right (eqb m n) _ t))
accepted-is n clears t = clash t refl
accepted-is n (releasing event) t = clash t refl
accepted-is n restarts t = clash t refl

-- it sets the mark anew
pub own-good : (rule : Telling) (n : ℕ) (s : State) (e : Effect) → Base n s → accepts n e ≡ true → Fits s (length (actions_of s e)) → Good n (record { left = selected (carried_out rule s e) n; touched = false }) (carried_out rule s e)
unfolding actions_of
own-good rule n s e b t fits =
    let r = accepted-is n e t in
    record {
      sound = effect-sound rule s e fits b.sound;
      held = rw r.1 (taken-held rule n s r.0 b r.2 (rw r.1 at fits));
    }

-- ---- any other effect

-- every nexus is new
pub new-nexus : (k n : ℕ) → get_or (replicate k new_nexus) n new_nexus ≡ new_nexus
new-nexus zero n = refl
new-nexus (suc k) zero = refl
new-nexus (suc k) (suc n) = new-nexus k n

-- nobody is locked at power-on
pub power-unlocked : (nexuses places n : ℕ) → (nexus_at (power_on nexuses places) n).lock ≡ false
unfolding power_on
power-unlocked nexuses places n = ap (λ (x : Nexus). x.lock) (new-nexus nexuses n)

-- so nobody is locked after power-on
restarted : {C : Type 0} (rule : Telling) (n : ℕ) (s : State) (e : Effect) → is_restart e ≡ true → (nexus_at (carried_out rule s e) n).lock ≡ true → C
restarted rule n s e t l = clash (rw (anew rule s e t) at l) (power-unlocked (length s.nexuses) (length s.sets) n)

-- a nexus is locked by its own page alone
pub lock-kept : (rule : Telling) (n : ℕ) (s : State) (e : Effect) → accepts n e ≡ false → (nexus_at (carried_out rule s e) n).lock ≡ true → (nexus_at s n).lock ≡ true
lock-kept rule n s e a l =
    cases (is_restart e)
    (λ t. restarted rule n s e t l)
    (λ f. sym (other-lock rule n s e a f) ∙ l)

-- what holds stays, and the places acted on are noted
pub other-good : (rule : Telling) (n : ℕ) (m : Mark) (s : State) (e : Effect) → accepts n e ≡ false → Fits s (length (actions_of s e)) → Good n m s → Good n (hit_by (actions_of s e) m) (carried_out rule s e)
other-good rule n m s e a fits g = record {
  sound = effect-sound rule s e fits g.sound;
  held = λ l.
      cases (is_restart e)
      (λ t. restarted rule n s e t l)
      (λ f. subst (Held (hit_by (actions_of s e) m)) (sym (other-unseen rule n s e a f))
      (acts-held n m (actions_of s e) s fits g.sound (other-foreign n s e a) (g.held (lock-kept rule n s e a l))));
}
