use borrow.Author.Rules.{rules}
use mathlib.Core.Bool.{◌&&◌}
use mathlib.Core.Path.{◌≡◌, sym, ap, ◌∙◌}
use Rattle.arrays.proofs.Base.{if-true}
use Rattle.places.specs.Actions.{no_place, taken}
use Rattle.places.specs.declared.Room.{Room}
use Rattle.device_16.specs.Model.{state, device}
use Rattle.places_16.specs.Taking.{taken_in}
use Rattle.places_16.proofs.Taking.{taken_in_lem, no-place-asked}
use Rattle.drive.specs.After.{changed_by}
use Rattle.drive.specs.Records.{held_after}
use Rattle.drive_16.proofs.accept.Statement.{statement}
use Rattle.drive_16.proofs.accept.Tie as tie

-- whether the page has no place, as the code found it
tested : (c : tie.After-is_no_room) → let a = c.before.before.before.args in (c.before.needs_place.result && c.is_no_room.result) ≡ no_place (state a.r.device) a.n a.page
tested c =
    let a = c.before.before.before.args in
    simp (c.before.needs_place.ensures, c.is_no_room.ensures, c.before.before.room_asked-room.ensures) (no-place-asked (state a.r.device) a.n a.page)

-- the page taken
took : (c : tie.After-take_page-taken) → let a = c.before.before.before.before.before.args in c.take_page-taken.result ≡ device (taken (state a.r.device) a.n a.page)
took c =
    let a = c.before.before.before.before.before.args in
    c.take_page-taken.ensures ∙ ap (λ (r : Room). device (taken_in (state a.r.device) a.n a.page r)) c.before.before.before.before.room_asked-room.ensures
    ∙ ap device (taken_in_lem (state a.r.device) a.n a.page)

pub accept_spec : {M : Type 1} → statement M
unfolding held_after changed_by
accept_spec =
    tie.close
    (tie.spec
    (λ c κs. search rules)
    (λ c κs. search rules)
    (λ c κs. search rules)
    (λ c κs. search rules)
    (λ c. c.refuse.ensures ∙ sym (if-true _ _ _ (sym (tested c.before.before) ∙ c.before.if-needs_place-is_no_room.true)))
    (λ c κs. search rules)
    (λ c κs. search rules)
    (λ c κs. search rules)
    (λ c.
    let passed = c.before.before.before in
    let f = sym (tested passed.before.before) ∙ passed.if-needs_place-is_no_room.false in
    simp (f, c.tell.ensures, c.before.change_marks-registered.ensures, took c.before.before)))
