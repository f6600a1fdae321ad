-- Two records that maps make the same stay so under every effect, where the maps keep what the rules read and nobody is told otherwise.
-- Assumes nothing.
use Rattle.std.specs.Prelude.{ℕ, Option, Some}
use Prim.Native.Nat.{ℕ}
use mathlib.Core.Bool.{Bool, true, false, not, ◌&&◌}
use mathlib.Core.List.{List, [], ◌∷◌, map}
use mathlib.Core.Path.{◌≡◌, refl, sym, ◌∙◌, ap, ap₂, subst}
use lib.Dec.{eqb}
use lib.ListN.{length, set, length-map}
use Rattle.arrays.specs.Base.{when◌then◌else◌}
use Rattle.arrays.specs.Arrays.{map_from}
use Rattle.arrays.proofs.Base.{if-map}
use Rattle.arrays.proofs.Laws.{map-set, map-map_from, map-over, read_same}
use Rattle.answer.specs.declared.Change.{Change}
use Rattle.answer.specs.declared.Change.TheVariants.{Registered}
use Rattle.page.specs.declared.Page.{Page}
use Rattle.parameters.specs.Codes.{public_scope}
use Rattle.device.specs.Record.{State, set_at, nexus_at, no_set, new_nexus, no_marks}
use Rattle.device.specs.Updates.{with_marks, with_scope, numbered, with_supplemental, at_nexus, mapped}
use Rattle.device.specs.Selecting.{selected, selected_set}
use Rattle.device.specs.WellFormed.{well_formed}
use Rattle.device.specs.declared.Set.{Set}
use Rattle.device.specs.declared.Marks.{Marks}
use Rattle.device.specs.declared.Nexus.{Nexus}
use Rattle.marks.specs.Marks.{remarked, changed, changes, told, alerted, is_actor, flagged}
use Rattle.marks.specs.Reset.{unmarked, cleared}
use Rattle.places.specs.Actions.{Action, drawn, freed, act, acts, releases, released_by, page_actions, nexus_after, sender_after, appended, supplemented, taken}
use Rattle.drive.specs.Calls.{Call}
use Rattle.drive.specs.Effects.{Effect, nothing, marks, takes, clears, releasing, restarts, effect}
use Rattle.drive.specs.After.{actions_of, changed_by, actor_of, Telling, carried_out}
use Rattle.drive.proofs.Seen.{selected-seen}
use Rattle.drive.proofs.Keeps.{Keeps}
use Rattle.drive.proofs.Keeps as keeps

-- what three maps, of the counter, of a set and of a nexus, do with each change that an effect makes
pub record Moves (c : ℕ → ℕ) (f : Set → Set) (g : Nexus → Nexus) : Type 0 where
  pub counter : (i j : ℕ) → c i ≡ c j → c (drawn i) ≡ c (drawn j)
  pub number : (i j : ℕ) (x : Set) → c i ≡ c j → f (numbered (drawn i) x) ≡ f (numbered (drawn j) x)
  pub extends : (key : List ℕ) (x y : Set) → f x ≡ f y → f (with_supplemental (appended key x.supplemental) x) ≡ f (with_supplemental (appended key y.supplemental) y)
  pub scopes : (scope : ℕ) (x : Nexus) → g (with_scope scope x) ≡ with_scope scope (g x)
  pub remarks : (marks : Marks) (x : Nexus) → g (with_marks marks x) ≡ with_marks marks (g x)
  pub settles : (page : Page) (a b : Set) (x y : Nexus) → f a ≡ f b → g x ≡ g y → g (nexus_after page a.number x) ≡ g (nexus_after page b.number y)

module _ (c : ℕ → ℕ) (f : Set → Set) (g : Nexus → Nexus) (k : Keeps f g) (m : Moves c f g) where
  -- the maps make them the same
  pub record Alike (s t : State) : Type 0 where
    pub counter : c s.counter ≡ c t.counter
    pub sets : map f s.sets ≡ map f t.sets
    pub nexuses : map g s.nexuses ≡ map g t.nexuses

  -- that is, what they make of both is one record
  alike_same : (s t : State) → Alike s t → mapped c f g s ≡ mapped c f g t
  alike_same s t a = λ i. record { counter = a.counter i; sets = a.sets i; nexuses = a.nexuses i }

  -- the maps keep being well formed
  abbrev pub Formed : State → Type 0
  Formed s = well_formed (mapped c f g s) ≡ well_formed s

  -- what the maps keep is the same of both
  through : {X : Type 0} (F : State → X) (s t : State) → F (mapped c f g s) ≡ F s → F (mapped c f g t) ≡ F t → Alike s t → F s ≡ F t
  through F s t e h a = sym e ∙ ap F (alike_same s t a) ∙ h

  -- the place that a nexus uses
  pub same-selected : (n : ℕ) (s t : State) → Alike s t → selected s n ≡ selected t n
  same-selected n s t = through (λ x. selected x n) s t (selected-seen f g k.seen c s n) (selected-seen f g k.seen c t n)

  -- what is made of a nexus
  same-nexus : (n : ℕ) (s t : State) → Alike s t → g (nexus_at s n) ≡ g (nexus_at t n)
  same-nexus n s t a = read_same g s.nexuses t.nexuses new_nexus a.nexuses n

  -- of a set
  same_set : (p : ℕ) (s t : State) → Alike s t → f (set_at s p) ≡ f (set_at t p)
  same_set p s t a = read_same f s.sets t.sets no_set a.sets p

  -- and a nexus's marks
  same-marks : (x y : Nexus) → g x ≡ g y → x.marks ≡ y.marks
  same-marks x y e = sym (k.seen.marks x) ∙ ap (λ z. z.marks) e ∙ k.seen.marks y

  -- where one of two is picked
  if-alike : (b : Bool) (s t u v : State) → Alike s u → Alike t v → Alike (when b then s else t) (when b then u else v)
  if-alike true s t u v a b = a
  if-alike false s t u v a b = b

  -- a nexus made anew
  at-alike : (n : ℕ) (u v : Nexus → Nexus) (s t : State) → (g (nexus_at s n) ≡ g (nexus_at t n) → g (u (nexus_at s n)) ≡ g (v (nexus_at t n))) → Alike s t → Alike (at_nexus n u s) (at_nexus n v t)
  at-alike n u v s t e a = record {
    counter = a.counter;
    sets = a.sets;
    nexuses =
        map-set g s.nexuses n (u (nexus_at s n))
        ∙ ap₂ (λ (l : List Nexus) (x : Nexus). set l n x) a.nexuses (e (same-nexus n s t a))
        ∙ sym (map-set g t.nexuses n (v (nexus_at t n)));
  }

  -- its marks made anew
  remark-alike : (n : ℕ) (h : Marks → Marks) (s t : State) → Alike s t → Alike (at_nexus n (remarked h) s) (at_nexus n (remarked h) t)
  remark-alike n h s t a =
      at-alike n (remarked h) (remarked h) s t
      (λ e. m.remarks _ _ ∙ ap₂ (λ (r : Marks) (x : Nexus). with_marks (h r) x) (same-marks (nexus_at s n) (nexus_at t n) e) e ∙ sym (m.remarks _ _))
      a

  -- by a change
  changes-alike : (n : ℕ) (change : Change) (s t : State) → Alike s t → Alike (changes s n change) (changes t n change)
  unfolding changes
  changes-alike n change s t a = remark-alike n (changed change) s t a

  -- all nexuses made anew
  each-alike : (u v : ℕ → Nexus → Nexus) → ((i : ℕ) (x : Nexus) → g (u i x) ≡ v i (g x)) → ((i : ℕ) (x : Nexus) → g (v i x) ≡ v i (g x)) → (l r : List Nexus) → map g l ≡ map g r → map g (map_from u 0 l) ≡ map g (map_from v 0 r)
  each-alike u v e h l r a =
      map-map_from g u v e 0 l
      ∙ ap (λ (x : List Nexus). map_from v 0 x) a
      ∙ sym (map-map_from g v v h 0 r)

  -- an action
  act-alike : (x : Action) (s t : State) → Alike s t → Alike (act s x) (act t x)
  unfolding act
  act-alike x s t a = record {
    counter = m.counter s.counter t.counter a.counter;
    sets =
        map-set f s.sets x.place (numbered (drawn s.counter) x.contents)
        ∙ ap₂ (λ (l : List Set) (y : Set). set l x.place y) a.sets (m.number s.counter t.counter x.contents a.counter)
        ∙ sym (map-set f t.sets x.place (numbered (drawn t.counter) x.contents));
    nexuses =
        each-alike (freed s x.place) (freed t x.place)
        (λ i y. free s i y ∙ ap (λ p. when eqb p x.place then with_scope public_scope (g y) else g y) (same-selected i s t a))
        (λ i y. free t i y)
        s.nexuses t.nexuses a.nexuses;
  }
    where
      free : (s : State) (i : ℕ) (y : Nexus) → g (freed s x.place i y) ≡ freed s x.place i (g y)
      free s i y = if-map g (eqb (selected s i) x.place) _ _ ∙ ap (λ (z : Nexus). when eqb (selected s i) x.place then z else g y) (m.scopes public_scope y)

  -- several
  acts-alike : (l : List Action) (s t : State) → Alike s t → Alike (acts s l) (acts t l)
  unfolding acts
  acts-alike [] s t a = a
  acts-alike (x ∷ l) s t a = acts-alike l (act s x) (act t x) (act-alike x s t a)

  -- the sender after its page
  sender-alike : (n : ℕ) (page : Page) (s t : State) → Alike s t → Alike (sender_after s n page) (sender_after t n page)
  unfolding sender_after
  sender-alike n page s t a =
      let scoped : Alike (at_nexus n (with_scope page.scope) s) (at_nexus n (with_scope page.scope) t) =
      at-alike n (with_scope page.scope) (with_scope page.scope) s t (λ e. m.scopes _ _ ∙ ap (with_scope page.scope) e ∙ sym (m.scopes _ _)) a in
      let q : State → Set = λ x. selected_set (at_nexus n (with_scope page.scope) x) n in
      let p = same-selected n _ _ scoped in
      let number : f (q s) ≡ f (q t) = ap (λ i. f (set_at s i)) p ∙ same_set _ s t a in
      at-alike n (nexus_after page (q s).number) (nexus_after page (q t).number) s t (m.settles page (q s) (q t) (nexus_at s n) (nexus_at t n) number) a

  -- a supplemental key
  supplemented-alike : (n : ℕ) (page : Page) (s t : State) → Alike s t → Alike (supplemented s n page) (supplemented t n page)
  unfolding supplemented
  supplemented-alike n page s t a =
      let more : Set → Set = λ x. with_supplemental (appended page.fields.key x.supplemental) x in
      let p = same-selected n s t a in
      record {
        counter = a.counter;
        sets =
            map-set f s.sets (selected s n) (more (set_at s (selected s n)))
            ∙ ap (λ q. set (map f s.sets) q (f (more (set_at s q)))) p
            ∙ ap₂ (λ (l : List Set) (y : Set). set l (selected t n) y) a.sets (m.extends page.fields.key (set_at s (selected t n)) (set_at t (selected t n)) (same_set (selected t n) s t a))
            ∙ sym (map-set f t.sets (selected t n) (more (set_at t (selected t n))));
        nexuses = a.nexuses;
      }

  -- a page taken
  taken-alike : (n : ℕ) (page : Page) (s t : State) → Alike s t → Alike (taken s n page) (taken t n page)
  unfolding taken
  taken-alike n page s t a =
      let done : Alike (acts s (page_actions s n page)) (acts t (page_actions t n page)) =
      rw (through (λ x. page_actions x n page) s t (keeps.page-actions-kept f g k c s n page) (keeps.page-actions-kept f g k c t n page) a) (acts-alike (page_actions t n page) s t a) in
      if-alike page.supplemental _ _ _ _ (supplemented-alike n page s t a) (sender-alike n page _ _ done)

  -- the flags, where they tell the same
  flagged_alike : (p q : ℕ → Bool) (actor : Option ℕ) (s u t v : State) → ((n : ℕ) → p n ≡ q n) → Alike s t → Alike u v → Alike (flagged p actor s u) (flagged q actor t v)
  unfolding flagged
  flagged_alike p q actor s u t v d a b = record {
    counter = b.counter;
    sets = b.sets;
    nexuses =
        each-alike (λ i. remarked (alerted actor (told p s actor i))) (λ i. remarked (alerted actor (told q t actor i)))
        (λ i x. remark p s i x ∙ ap (λ w. remarked (alerted actor w) (g x)) (tells i))
        (λ i x. remark q t i x)
        u.nexuses v.nexuses b.nexuses;
  }
    where
      tells : (i : ℕ) → told p s actor i ≡ told q t actor i
      tells i = ap₂ (λ (r : Marks) w. r.registered && not (is_actor actor i) && w) (same-marks (nexus_at s i) (nexus_at t i) (same-nexus i s t a)) (d i)

      remark : (p : ℕ → Bool) (s : State) (i : ℕ) (x : Nexus) → g (remarked (alerted actor (told p s actor i)) x) ≡ remarked (alerted actor (told p s actor i)) (g x)
      remark p s i x = m.remarks _ x ∙ ap (λ r. with_marks (alerted actor (told p s actor i) r) (g x)) (sym (k.seen.marks x))

  -- a reset
  cleared-alike : (s t : State) → Alike s t → Alike (cleared s) (cleared t)
  unfolding cleared
  cleared-alike s t a = record {
    counter = a.counter;
    sets = a.sets;
    nexuses = over s ∙ ap (map unmarked) a.nexuses ∙ sym (over t);
  }
    where
      over : (x : State) → map g (map unmarked x.nexuses) ≡ map unmarked (map g x.nexuses)
      over x = map-over g unmarked unmarked (λ y. m.remarks no_marks y) x.nexuses

  -- what an effect does to the places
  pub same-actions : (e : Effect) (s t : State) → Alike s t → actions_of s e ≡ actions_of t e
  same-actions e s t = through (λ x. actions_of x e) s t (keeps.actions-kept f g k c s e) (keeps.actions-kept f g k c t e)

  -- an effect before anyone is told
  changed-alike : (e : Effect) (s t : State) → Alike s t → Alike (changed_by s e) (changed_by t e)
  unfolding changed_by actions_of
  changed-alike nothing s t a = a
  changed-alike (marks n change) s t a = changes-alike n change s t a
  changed-alike (takes n page) s t a = changes-alike n Registered _ _ (taken-alike n page s t a)
  changed-alike clears s t a = cleared-alike s t a
  changed-alike (releasing event) s t a =
      subst (λ l. Alike (acts s (releases (released_by event) s.sets)) (acts t l)) (same-actions (releasing event) s t a)
      (acts-alike (releases (released_by event) s.sets) s t a)
  changed-alike restarts s t a =
      let n : length s.nexuses ≡ length t.nexuses = through (λ x. length x.nexuses) s t (length-map s.nexuses g) (length-map t.nexuses g) a in
      let p : length s.sets ≡ length t.sets = through (λ x. length x.sets) s t (length-map s.sets f) (length-map t.sets f) a in
      rw (n, p) (record { counter = refl; sets = refl; nexuses = refl })

  -- a rule that tells the same of records that the maps make the same
  abbrev Fair : Telling → Type 0
  Fair rule = (l : List Action) (s t u v : State) (n : ℕ) → Alike s t → Alike u v → rule l s u n ≡ rule l t v n

  module _ (rule : Telling) (fair : Fair rule) where
    -- an effect that tells nexuses
    telling-alike : (e : Effect) (actor : Option ℕ) (s t : State) → Alike s t
        → Alike (flagged (rule (actions_of s e) s (changed_by s e)) actor s (changed_by s e)) (flagged (rule (actions_of t e) t (changed_by t e)) actor t (changed_by t e))
    telling-alike e actor s t a =
        let b = changed-alike e s t a in
        flagged_alike _ _ actor s (changed_by s e) t (changed_by t e)
        (λ n. ap (λ l. rule l s (changed_by s e) n) (same-actions e s t a) ∙ fair (actions_of t e) s t (changed_by s e) (changed_by t e) n a b) a b

    -- every effect
    pub effect-alike : (e : Effect) (s t : State) → Alike s t → Alike (carried_out rule s e) (carried_out rule t e)
    unfolding carried_out
    effect-alike nothing s t a = changed-alike nothing s t a
    effect-alike (marks n change) s t a = changed-alike (marks n change) s t a
    effect-alike (takes n page) s t a = telling-alike (takes n page) (Some n) s t a
    effect-alike clears s t a = changed-alike clears s t a
    effect-alike (releasing event) s t a = telling-alike (releasing event) (actor_of event) s t a
    effect-alike restarts s t a = changed-alike restarts s t a

  -- and every call has the same
  pub same_effect : (call : Call) (s t : State) → Formed s → Formed t → Alike s t → effect s call ≡ effect t call
  same_effect call s t ws wt = through (λ x. effect x call) s t (keeps.effect-kept f g k c s ws call) (keeps.effect-kept f g k c t wt call)
