-- Who raises a flag of a nexus, and that it acted on the place whose set the nexus used.
-- Assumes nothing.
use Rattle.std.specs.Prelude.{ℕ, Option, Some, None}
use Prim.Native.Nat.{ℕ, ◌≤◌}
use mathlib.Core.Path.{◌≡◌, refl, sym, ap, ◌∙◌}
use mathlib.Core.Bool.{Bool, true, false, not, ◌&&◌}
use mathlib.Core.List.{List, [], ◌∷◌, map}
use native.Mathlib.Omega.{arith}
use borrow.Author.Tests.{eqb-true, eq-eqb, ltb-true, ltb-false, not-true}
use lib.Dec.{eqb, ltb}
use lib.ListN.{length, get_or-eq_default, get_or-map}
use lib.Seq.{map-set_same}
use Rattle.arrays.specs.Arrays.{map_from}
use Rattle.arrays.proofs.Base.{cases, clash, and_left, and_right, each_holds, if-elim, or-other, or_left_false, or_right_false}
use Rattle.arrays.proofs.Laws.{length-map_from, get_d-map_from, get_d_set, read_same}
use Rattle.answer.specs.declared.Change.{Change}
use Rattle.answer.specs.declared.Change.TheVariants.{Unchanged, AnotherCleared, VendorCleared, Registered}
use Rattle.page.specs.declared.Page.{Page}
use Rattle.device.specs.Record.{State, power_on, nexus_at, new_nexus, no_marks}
use Rattle.device.specs.Selecting.{selected}
use Rattle.device.specs.declared.Marks.{Marks}
use Rattle.device.specs.declared.Nexus.{Nexus}
use Rattle.marks.specs.Marks.{remarked, changed, changes, is_actor, told, alerted, flagged}
use Rattle.marks.specs.Reset.{unmarked, cleared}
use Rattle.places.specs.Actions.{Action, act, acts, releases, released_by, page_actions, sender_after, supplemented, taken}
use Rattle.places.proofs.Sender.{taken-supplemental, taken-whole}
use Rattle.drive.specs.Calls.{Call}
use Rattle.drive.specs.Effects.{Effect, nothing, marks, takes, clears, releasing, restarts, effect}
use Rattle.drive.specs.After.{actions_of, changed_by, actor_of, carried_out, actions, after}
use Rattle.drive.proofs.Effects.{is_restart}
use Rattle.history.specs.History.{hits, accepts, by_action, Low}
use Rattle.history.proofs.Held.{View, Foreign, stayed, acts-nexuses}
use Rattle.history.proofs.Others.{changed-unseen, other-foreign}
use Rattle.history.proofs.Good.{new-nexus}
use Rattle.history.proofs.Bare.{told-by-action}
use Rattle.why.specs.Causes.{is_raised}
use Rattle.why.specs.Deeds.{is_other, is_nobody, acts_by, RaisedBy}

-- ---- a nexus keeps its place while no other's call acts on it

pub acts-stayed : (n : ℕ) (l : List Action) (s : State) → Foreign n l → hits (selected s n) l ≡ false → selected (acts s l) n ≡ selected s n
unfolding acts hits
acts-stayed n [] s o h = refl
acts-stayed n (a ∷ l) s o h =
    let stay : selected (act s a) n ≡ selected s n = stayed n s a o.0 (or_left_false (eqb (selected s n) a.place) _ h) in
    acts-stayed n l (act s a) o.1 (ap (λ k. hits k l) stay ∙ or_right_false (eqb (selected s n) a.place) _ h) ∙ stay

-- so where what it uses differs, the call acted on its place
differs-touches : (n : ℕ) (s : State) (e : Effect) → accepts n e ≡ false → is_restart e ≡ false → by_action (actions_of s e) s (changed_by s e) n ≡ true → hits (selected s n) (actions_of s e) ≡ true
differs-touches n s e a f d =
    cases (hits (selected s n) (actions_of s e)) (λ t. t)
    (λ h.
    let stay : selected (changed_by s e) n ≡ selected s n = ap (λ (v : View). v.selected) (changed-unseen n s e a f) ∙ acts-stayed n (actions_of s e) s (other-foreign n s e a) h in
    let same : not (eqb (selected s n) (selected (changed_by s e) n)) ≡ false = ap not (eq-eqb _ _ (sym stay)) in
    or-other _ (hits (selected s n) (actions_of s e)) d same)

-- ---- marks

-- a page that is taken leaves them
taken-marks : (s : State) (m : ℕ) (page : Page) → map (λ (x : Nexus). x.marks) (taken s m page).nexuses ≡ map (λ (x : Nexus). x.marks) s.nexuses
unfolding supplemented sender_after
taken-marks s m page =
    let read : State → List Marks = λ t. map (λ (x : Nexus). x.marks) t.nexuses in
    cases page.supplemental
    (λ t. ap read (taken-supplemental s m page t))
    (λ f.
    ap read (taken-whole s m page f)
    ∙ map-set_same (λ (x : Nexus). x.marks) (acts s (page_actions s m page)).nexuses m _ new_nexus refl
    ∙ acts-nexuses (λ (x : Nexus). x.marks) (λ x. refl) (page_actions s m page) s)

-- what is asked of a flag of nexus n: a new nexus has it not, no answer sets it, and it is set only where the nexus is told, and only by an
-- actor that passes the test, if that isn't the nexus itself
record Flag (flag : Marks → Bool) (who : Option ℕ → Bool) (n : ℕ) : Type 0 where
  new : flag no_marks ≡ false
  answers : (change : Change) (m : Marks) → flag (changed change m) ≡ true → flag m ≡ true
  alerts : (actor : Option ℕ) (b : Bool) (m : Marks) → flag m ≡ false → flag (alerted actor b m) ≡ true → (b ≡ true) × (is_actor actor n ≡ false → who actor ≡ true)

module _ (flag : Marks → Bool) (who : Option ℕ → Bool) (n : ℕ) (law : Flag flag who n) where
  -- whether it is pending
  abbrev pending : State → Bool
  pending s = flag (nexus_at s n).marks

  -- which depends on the marks alone
  marks-same : (s t : State) → map (λ (x : Nexus). x.marks) s.nexuses ≡ map (λ (x : Nexus). x.marks) t.nexuses → pending s ≡ pending t
  marks-same s t e = ap flag (read_same (λ (x : Nexus). x.marks) s.nexuses t.nexuses new_nexus e n)

  -- an answer raises none
  changes-raise : (s : State) (m : ℕ) (change : Change) → pending (changes s m change) ≡ true → pending s ≡ true
  unfolding changes
  changes-raise s m change p =
      if-elim (λ (x : Nexus). flag x.marks ≡ true → pending s ≡ true) (eqb n m && ltb m (length s.nexuses))
      (λ t q. ap (λ k. flag (nexus_at s k).marks) (eqb-true n m (and_left _ _ t)) ∙ law.answers change (nexus_at s m).marks q)
      (λ f q. q)
      (sym (ap (λ (x : Nexus). flag x.marks) (get_d_set s.nexuses m n (remarked (changed change) (nexus_at s m)) new_nexus)) ∙ p)

  -- nor does any effect before nexuses are told
  changed-raise : (s : State) (e : Effect) → pending (changed_by s e) ≡ true → pending s ≡ true
  unfolding changed_by cleared power_on
  changed-raise s nothing p = p
  changed-raise s (marks m change) p = changes-raise s m change p
  changed-raise s (takes m page) p = sym (marks-same (taken s m page) s (taken-marks s m page)) ∙ changes-raise (taken s m page) m Registered p
  changed-raise s clears p = clash p (ap (λ (x : Nexus). flag x.marks) (get_or-map unmarked s.nexuses n new_nexus) ∙ law.new)
  changed-raise s (releasing event) p =
      let l = releases (released_by event) s.sets in
      sym (marks-same (acts s l) s (acts-nexuses (λ (x : Nexus). x.marks) (λ x. refl) l s)) ∙ p
  changed-raise s restarts p = clash p (ap (λ (x : Nexus). flag x.marks) (new-nexus (length s.nexuses) n) ∙ law.new)

  -- who is told of it
  flagged-raise : (differ : ℕ → Bool) (actor : Option ℕ) (s t : State) → pending t ≡ false → pending (flagged differ actor s t) ≡ true
      → (told differ s actor n ≡ true) × (is_actor actor n ≡ false → who actor ≡ true)
  unfolding flagged
  flagged-raise differ actor s t f p =
      let tells : ℕ → Nexus → Nexus = λ i. remarked (alerted actor (told differ s actor i)) in
      cases (ltb n (length t.nexuses))
      (λ l. law.alerts actor (told differ s actor n) (nexus_at t n).marks f (sym (ap (λ (x : Nexus). flag x.marks) (get_d-map_from tells t.nexuses n new_nexus new_nexus (ltb-true _ _ l))) ∙ p))
      (λ g.
      let past : length (map_from tells 0 t.nexuses) ≤ n = omega (arith, length-map_from tells 0 t.nexuses, ltb-false n (length t.nexuses) g) in
      clash p (ap (λ (x : Nexus). flag x.marks) (get_or-eq_default (map_from tells 0 t.nexuses) new_nexus past) ∙ law.new))

  -- an effect of which nexuses are told
  telling-raises : (s : State) (e : Effect) (actor : Option ℕ) → is_restart e ≡ false → (is_actor actor n ≡ false → accepts n e ≡ false) → acts_by who e ≡ who actor → pending s ≡ false
      → pending (flagged (by_action (actions_of s e) s (changed_by s e)) actor s (changed_by s e)) ≡ true → RaisedBy who s n e
  telling-raises s e actor f other same off on =
      let still : pending (changed_by s e) ≡ false = cases (pending (changed_by s e)) (λ t. clash (changed-raise s e t) off) (λ z. z) in
      let r = flagged-raise (by_action (actions_of s e) s (changed_by s e)) actor s (changed_by s e) still on in
      let parts = each_holds _ (_ ∷ _ ∷ []) r.0 in
      let apart : is_actor actor n ≡ false = not-true _ parts.1.0 in
      record { registered = parts.0; caused = same ∙ r.1 apart; touches = differs-touches n s e (other apart) f parts.1.1.0 }

  -- any effect
  effect-raises : (s : State) (e : Effect) → pending s ≡ false → pending (carried_out by_action s e) ≡ true → RaisedBy who s n e
  unfolding carried_out
  effect-raises s nothing off on = clash (changed-raise s nothing on) off
  effect-raises s (marks m change) off on = clash (changed-raise s (marks m change) on) off
  effect-raises s (takes m page) off on = telling-raises s (takes m page) (Some m) refl (λ f. ap (λ b. b && not page.supplemental) f) refl off on
  effect-raises s clears off on = clash (changed-raise s clears on) off
  effect-raises s (releasing event) off on = telling-raises s (releasing event) (actor_of event) refl (λ f. refl) refl off on
  effect-raises s restarts off on = clash (changed-raise s restarts on) off

  -- any call
  raised : (s : State) (call : Call) → Low s (length (actions s call)) → is_raised flag n s (after s call) ≡ true → RaisedBy who s n (effect s call)
  raised s call low e =
      effect-raises s (effect s call)
      (not-true _ (and_right (pending (after s call)) _ e))
      (ap pending (sym (told-by-action s (effect s call) low)) ∙ and_left _ _ e)

-- ---- the two flags

another-flag : (n : ℕ) → Flag (λ m. m.another) (is_other n) n
another-flag n = record { new = refl; answers = answers; alerts = alerts }
  where
    answers : (change : Change) (m : Marks) → (changed change m).another ≡ true → m.another ≡ true
    answers Unchanged m p = p
    answers AnotherCleared m p = clash p refl
    answers VendorCleared m p = p
    answers Registered m p = p

    alerts : (actor : Option ℕ) (b : Bool) (m : Marks) → m.another ≡ false → (alerted actor b m).another ≡ true → (b ≡ true) × (is_actor actor n ≡ false → is_other n actor ≡ true)
    alerts None b m f p = clash p f
    alerts (Some k) b m f p = (or-other m.another b p f, λ g. ap not g)

vendor-flag : (n : ℕ) → Flag (λ m. m.vendor) is_nobody n
vendor-flag n = record { new = refl; answers = answers; alerts = alerts }
  where
    answers : (change : Change) (m : Marks) → (changed change m).vendor ≡ true → m.vendor ≡ true
    answers Unchanged m p = p
    answers AnotherCleared m p = p
    answers VendorCleared m p = clash p refl
    answers Registered m p = p

    alerts : (actor : Option ℕ) (b : Bool) (m : Marks) → m.vendor ≡ false → (alerted actor b m).vendor ≡ true → (b ≡ true) × (is_actor actor n ≡ false → is_nobody actor ≡ true)
    alerts None b m f p = (or-other m.vendor b p f, λ g. refl)
    alerts (Some k) b m f p = clash p f

-- "another nexus" is raised only by a page or a preempt of another nexus that acted on the place whose set the nexus used.
pub another-touches : (s : State) (n : ℕ) (call : Call) → Low s (length (actions s call)) → is_raised (λ m. m.another) n s (after s call) ≡ true → RaisedBy (is_other n) s n (effect s call)
another-touches s n call = raised (λ m. m.another) (is_other n) n (another-flag n) s call

-- "vendor event" only by any other event that did.
pub vendor-touches : (s : State) (n : ℕ) (call : Call) → Low s (length (actions s call)) → is_raised (λ m. m.vendor) n s (after s call) ≡ true → RaisedBy is_nobody s n (effect s call)
vendor-touches s n call = raised (λ m. m.vendor) is_nobody n (vendor-flag n) s call
