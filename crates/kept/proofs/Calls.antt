-- Every call leaves a well-formed record well formed.
-- Assumes nothing.
use Rattle.std.specs.Prelude.{ℕ, Option}
use Prim.Native.Nat.{ℕ, ◌<◌}
use mathlib.Core.Path.{◌≡◌, refl, sym, ap, ◌∙◌}
use mathlib.Core.Bool.{Bool, true, false, not, ◌&&◌, ◌||◌}
use mathlib.Core.Logic.{⊎_elim}
use mathlib.Core.List.{List}
use native.Mathlib.Omega.{arith}
use borrow.Author.Tests.{eq-eqb}
use lib.Dec.{eqb}
use lib.ListN.{length}
use Rattle.arrays.proofs.Base.{cases, clash}
use Rattle.arrays.proofs.Loops.{map_from-map}
use Rattle.answer.specs.declared.Change.{Change}
use Rattle.answer.specs.declared.Change.TheVariants.{Registered}
use Rattle.kad.proofs.Good.{good-lengths, good-tails}
use Rattle.page.specs.declared.Page.{Page}
use Rattle.page.proofs.Accepted.{IsSet, accepted-page}
use Rattle.parameters.specs.Codes.{local_scope}
use Rattle.device.specs.Record.{State, nexus_at}
use Rattle.device.specs.Selecting.{selected_set}
use Rattle.device.specs.WellFormed.{well_formed}
use Rattle.device.specs.Updates.{with_nexuses}
use Rattle.device.specs.declared.Nexus.{Nexus}
use Rattle.parameters.proofs.Good.{ranges-good}
use Rattle.device.proofs.WellFormed.{power-on-well}
use Rattle.marks.specs.Marks.{remarked, changed, changes, told, alerted, flagged}
use Rattle.marks.specs.Reset.{unmarked, cleared}
use Rattle.places.specs.Actions.{released_by, room, is_no_room, taken}
use Rattle.places.specs.declared.Room.{Room}
use Rattle.places.specs.declared.Room.TheVariants.{NoRoom}
use Rattle.drive.specs.Calls.{Call, power_up, security_in, security_out, write, read, unit_reset, happens, is_power_up}
use Rattle.drive.specs.Checks.{checks, answer}
use Rattle.drive.specs.Effects.{Effect, nothing, marks, takes, clears, releasing, restarts, effect_by, effect}
use Rattle.drive.specs.After.{changed_by, Telling, carried_out, by_number, after}
use Rattle.drive.proofs.Effects as effects
use Rattle.kept.proofs.Kept.{releases-kept, marks-kept, mark-kept, SetFit, Fit, taken-kept}

-- ---- marks, flags and the reset are free

changes-kept : (s : State) (n : ℕ) (change : Change) → well_formed (changes s n change) ≡ well_formed s
unfolding changes
changes-kept s n change = mark-kept n (remarked (changed change)) s refl

flagged-kept : (differ : ℕ → Bool) (actor : Option ℕ) (s t : State) → well_formed (flagged differ actor s t) ≡ well_formed t
unfolding flagged
flagged-kept differ actor s t = marks-kept (λ n. remarked (alerted actor (told differ s actor n))) (λ n x. refl) t

cleared-kept : (s : State) → well_formed (cleared s) ≡ well_formed s
unfolding cleared
cleared-kept s =
    ap (λ (l : List Nexus). well_formed (with_nexuses l s)) (sym (map_from-map unmarked 0 s.nexuses)) ∙ marks-kept (λ n. unmarked) (λ n x. refl) s

-- ---- what a page that is taken is, to the places

-- a place that isn't none
some-room : (r : Room) → is_no_room r ≡ false → r ≡ NoRoom → ⊥
some-room r f e = clash (ap is_no_room e) f

-- where check 10 found no fault, a LOCAL set has a place
room-there : (supplemental local : Bool) (r : Room) → (not supplemental && local && is_no_room r) ≡ false → supplemental ≡ false → local ≡ true → r ≡ NoRoom → ⊥
room-there supplemental local r f s l = some-room r (rw (s, l) at f)

set-fit : (page : Page) → IsSet page → SetFit page.fields
set-fit page x = record {
  codes = ranges-good page.fields (record { encryption = x.encryption; decryption = x.decryption; index = omega (arith, x.index); ceem = x.ceem; lengths = good-lengths x.kads });
  index = x.index;
  tails = good-tails x.kads;
  paired = x.paired;
}

-- what crate page guarantees of an accepted page is what crate places asks
pub page-fit : (s : State) (n : ℕ) (page : Page) → effects.Taken s n page → Fit s n page
page-fit s n page t =
    let place : page.supplemental ≡ false → page.scope ≡ local_scope → room s n ≡ NoRoom → ⊥ =
    λ f l. room-there page.supplemental (eqb page.scope local_scope) (room s n) t.placed f (eq-eqb _ _ l) in
    ⊎_elim
    (λ x. record {
      scope = omega (arith, x.public);
      fields = λ f some. absurd (omega (arith, x.public));
      place = place;
      key = λ y. clash y x.fresh;
    })
    (λ y. ⊎_elim
    (λ x. record {
      scope = x.scoped.known;
      fields = λ f. clash x.supplemental f;
      place = place;
      key = λ z. record { scope = sym x.same; some = x.scoped.used; key = x.sized; fewer = x.room };
    })
    (λ x. record {
      scope = x.scoped.known;
      fields = λ f some. set-fit page x;
      place = place;
      key = λ z. clash z x.fresh;
    }) y)
    (rw t.read at (accepted-page t.bytes (nexus_at s n).scope (selected_set s n).fields.decryption (selected_set s n).supplemental.count t.found))

-- ---- every call

-- what is known of an effect is enough for it to leave a well-formed record well formed, whoever is told
pub effect-kept : (rule : Telling) (s : State) (e : Effect) → effects.Due s e → 0 < length s.nexuses → 0 < length s.sets → well_formed s ≡ true → well_formed (carried_out rule s e) ≡ true
unfolding carried_out changed_by
effect-kept rule s nothing d nexuses places w = w
effect-kept rule s (marks n change) d nexuses places w = changes-kept s n change ∙ w
effect-kept rule s (takes n page) d nexuses places w =
    flagged-kept _ _ s (changes (taken s n page) n Registered) ∙ changes-kept (taken s n page) n Registered ∙ taken-kept s n page w d.within places (page-fit s n page d)
effect-kept rule s clears d nexuses places w = cleared-kept s ∙ w
effect-kept rule s (releasing event) d nexuses places w = flagged-kept _ _ s _ ∙ releases-kept (released_by event) s w
effect-kept rule s restarts d nexuses places w = power-on-well (length s.nexuses) (length s.sets) (λ h. nexuses)

-- Every call of a well-formed record leaves a well-formed record.
pub call_kept : (s : State) (call : Call) → 0 < length s.nexuses → 0 < length s.sets → well_formed s ≡ true → well_formed (after s call) ≡ true
call_kept s call = effect-kept by_number s (effect s call) (effects.effect-due s call)

-- A record that isn't well formed stays as it is, until power-on.
pub unformed-stays : (s : State) (call : Call) → well_formed s ≡ false → is_power_up call ≡ false → after s call ≡ s
unfolding answer effect_by carried_out changed_by
unformed-stays s power_up w f = clash refl f
unformed-stays s (security_in command) w f = rw w refl
unformed-stays s (security_out command page) w f = rw w refl
unformed-stays s (write n supported) w f = rw w refl
unformed-stays s (read n block) w f = rw w refl
unformed-stays s unit_reset w f = rw w refl
unformed-stays s (happens event) w f = rw w refl

-- Power-on gives a well-formed one.
restarted : (s : State) (call : Call) → 0 < length s.nexuses → is_power_up call ≡ true → well_formed (after s call) ≡ true
unfolding checks answer effect_by carried_out changed_by
restarted s power_up nexuses e = power-on-well (length s.nexuses) (length s.sets) (λ h. nexuses)
restarted s (security_in command) nexuses e = clash e refl
restarted s (security_out command page) nexuses e = clash e refl
restarted s (write n supported) nexuses e = clash e refl
restarted s (read n block) nexuses e = clash e refl
restarted s unit_reset nexuses e = clash e refl
restarted s (happens event) nexuses e = clash e refl

-- So whether the record after a call is well formed is known before it: check 1 need not be made again.
module _ (s : State) (call : Call) (nexuses : 0 < length s.nexuses) (places : 0 < length s.sets) where
  pub formed-after : well_formed (after s call) ≡ (well_formed s || is_power_up call)
  formed-after =
      cases (well_formed s)
      (λ w. call_kept s call nexuses places w ∙ sym (rw w))
      (λ f. cases (is_power_up call) (λ t. restarted s call nexuses t ∙ sym (rw (f, t))) (λ u. ap well_formed (unformed-stays s call f u) ∙ f ∙ sym (rw (f, u))))
