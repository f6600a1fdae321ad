-- What a call gives back, by what it is answered.
-- Assumes nothing.
use Rattle.std.specs.Prelude.{Some, None}
use Prim.Native.Nat.{ℕ, ◌<◌}
use mathlib.Core.Path.{◌≡◌, refl, sym, ap, ◌∙◌}
use mathlib.Core.Bool.{Bool, true, false}
use mathlib.Core.List.{List}
use lib.ListN.{length}
use Rattle.arrays.specs.Arrays.{each}
use Rattle.arrays.proofs.Base.{cases, if-true, if-false}
use Rattle.wire.specs.Buffers.{shown}
use Rattle.answer.specs.Answers.{sense_of, change_of, is_done}
use Rattle.answer.specs.declared.Answer.{Answer}
use Rattle.answer.specs.declared.Answer.TheVariants.{Done, NoPlaceForLocal}
use Rattle.answer.specs.declared.Change.TheVariants.{Registered}
use Rattle.answer.proofs.Numbers.{done-is}
use Rattle.device.specs.Record.{State}
use Rattle.device.specs.Words.{Worded, keeping}
use Rattle.device.specs.Selecting.{selected, selected_set}
use Rattle.marks.specs.Marks.{changes}
use Rattle.marks.specs.Parts.{told_by}
use Rattle.drive.specs.Calls.{Call, security_in, security_out, write, read, happens, sender_of}
use Rattle.places.specs.Actions.{no_place, spared, released_by}
use Rattle.places.specs.declared.Event.{Event}
use Rattle.drive.specs.Checks.{check10, page_checked}
use Rattle.drive.specs.Effects.{takes, doing, effect_by, releasing}
use Rattle.drive.specs.After.{changed_by, actor_of}
use Rattle.drive.specs.Records.{answer_of, held_after}
use Rattle.drive.specs.Outcomes.{response_page, in_length, in_buffer, decided, decision, decided_place, decided_index, read_decision}
use Rattle.drive.specs.declared.Command.{Command}
use Rattle.drive.specs.declared.Decision.TheVariants.{Refused}
use Rattle.drive.specs.declared.Block.{Block}
use Rattle.drive.specs.declared.ReadDecision.TheVariants.{Withheld}
use Rattle.drive.specs.Restoring.{ruled_decision, restored}
use Rattle.drive.proofs.Records.{held-refusal, held-is}
use Rattle.device_16.specs.Model.{record_of}
use Rattle.drive_16.specs.Outcomes.{outcome_with, in_outcome_with, write_outcome_with, read_outcome_with, outcome, in_outcome, write_outcome, read_outcome, held_by, outcome_by, in_outcome_by, write_outcome_by, read_outcome_by, refused_record, refused_call, refused_in, refused_write, refused_read, unchanged, page_outcome}

-- ---- with the answer that is due, what the code makes is due

pub out-due : (r : Worded) (call : Call) → 0 < length r.state.sets → outcome_by r call (answer_of r call) ≡ outcome r call
unfolding outcome_by outcome
out-due r call some = ap (λ (t : Worded). outcome_with t (answer_of r call)) (held-is r call some)

pub in-due : (r : Worded) (command : Command) → 0 < length r.state.sets → in_outcome_by r command (answer_of r (security_in command)) ≡ in_outcome r command
unfolding in_outcome_by in_outcome
in-due r command some = ap (λ (t : Worded). in_outcome_with t r.state command (answer_of r (security_in command))) (held-is r (security_in command) some)

pub write-due : (r : Worded) (n : ℕ) (supported : Bool) → 0 < length r.state.sets → write_outcome_by r n supported (answer_of r (write n supported)) ≡ write_outcome r n supported
unfolding write_outcome_by write_outcome
write-due r n supported some = ap (λ (t : Worded). write_outcome_with t r.state n (answer_of r (write n supported))) (held-is r (write n supported) some)

pub read-due : (r : Worded) (n : ℕ) (block : Block) → 0 < length r.state.sets → read_outcome_by r n block (answer_of r (read n block)) ≡ read_outcome r n block
unfolding read_outcome_by read_outcome
read-due r n block some = ap (λ (t : Worded). read_outcome_with t r.state n block (answer_of r (read n block))) (held-is r (read n block) some)

module _ (r : Worded) (call : Call) (a : Answer) where
  -- the record after a call that is carried out
  record-done : is_done a ≡ true → held_after r (doing r.state call) ≡ held_by r call a
  unfolding effect_by
  record-done t = sym (simp t)

  -- after one that is refused: what the row says
  record-refused : (n : ℕ) → sender_of call ≡ Some n → is_done a ≡ false → refused_record r n a ≡ held_by r call a
  unfolding effect_by
  record-refused n e f = sym (simp (f, e) (sym (held-refusal r n (change_of a))))

  -- nothing, where nobody sent it
  record-kept : sender_of call ≡ None → is_done a ≡ false → r ≡ held_by r call a
  unfolding effect_by held_after
  record-kept e f = sym (simp (f, e))

  -- the outcome of a call that is refused
  pub out-refused : (n : ℕ) → sender_of call ≡ Some n → is_done a ≡ false → refused_call r n a ≡ outcome_by r call a
  unfolding outcome_by
  out-refused n e f = ap (λ (t : Worded). outcome_with t a) (record-refused n e f)

  pub out-kept : sender_of call ≡ None → is_done a ≡ false → unchanged r a ≡ outcome_by r call a
  unfolding outcome_by
  out-kept e f = ap (λ (t : Worded). outcome_with t a) (record-kept e f)

  -- of one that is carried out
  pub out-done : is_done a ≡ true → record { after = record_of (held_after r (doing r.state call)); answer = a; sense = sense_of Done } ≡ outcome_by r call a
  unfolding outcome_by
  out-done t =
      let e : Done ≡ a = sym (done-is a t) in
      λ i. record { after = record_of (record-done t i); answer = a; sense = sense_of (e i) }

-- SECURITY PROTOCOL IN
module _ (r : Worded) (command : Command) (a : Answer) where
  abbrev page : List ℕ
  page = response_page r.state command.nexus command.code

  pub in-refused : is_done a ≡ false → refused_in r command.nexus a ≡ in_outcome_by r command a
  unfolding in_outcome_by
  in-refused f =
      let none : 0 ≡ in_length r.state command a = sym (simp f) in
      λ i. record { after = record_of (record-refused r (security_in command) a command.nexus refl f i); answer = a; sense = sense_of a; length = none i }

  pub in_kept : (buffer : List ℕ) → is_done a ≡ false → buffer ≡ in_buffer r.state command a buffer
  in_kept buffer f = sym (simp f)

  pub in-done : is_done a ≡ true → record { after = record_of (keeping r.words (changes r.state command.nexus Registered)); answer = a; sense = sense_of Done; length = length page } ≡ in_outcome_by r command a
  unfolding in_outcome_by held_after changed_by
  in-done t =
      let e : Done ≡ a = sym (done-is a t) in
      let told : length page ≡ in_length r.state command a = sym (simp t) in
      λ i. record { after = record_of (record-done r (security_in command) a t i); answer = a; sense = sense_of (e i); length = told i }

  pub in-shown : (buffer : List ℕ) → is_done a ≡ true → shown page buffer ≡ in_buffer r.state command a buffer
  in-shown buffer t = sym (simp t)

-- the write decision
module _ (r : Worded) (n : ℕ) (supported : Bool) (a : Answer) where
  abbrev s : State
  s = r.state

  pub write-refused : is_done a ≡ false → refused_write r n a ≡ write_outcome_by r n supported a
  unfolding write_outcome_by
  write-refused f =
      let none : Refused ≡ decision s n a = sym (simp f) in
      let nowhere : 0 ≡ decided_place s n a = sym (simp f) in
      let without : 0 ≡ decided_index s n a = sym (simp f) in
      λ i. record { after = record_of (record-refused r (write n supported) a n refl f i); answer = a; sense = sense_of a; decision = none i; place = nowhere i; index = without i }

  pub write_done : is_done a ≡ true
      → record { after = record_of r; answer = a; sense = sense_of Done; decision = decided (selected_set s n).fields.encryption; place = selected s n; index = (selected_set s n).fields.index } ≡ write_outcome_by r n supported a
  unfolding write_outcome_by held_after
  write_done t =
      let e : Done ≡ a = sym (done-is a t) in
      let made : decided (selected_set s n).fields.encryption ≡ decision s n a = sym (simp t) in
      let where-it-is : selected s n ≡ decided_place s n a = sym (simp t) in
      let under : (selected_set s n).fields.index ≡ decided_index s n a = sym (simp t) in
      λ i. record { after = record_of (record-done r (write n supported) a t i); answer = a; sense = sense_of (e i); decision = made i; place = where-it-is i; index = under i }

-- the read decision
module _ (r : Worded) (n : ℕ) (block : Block) (a : Answer) where
  pub read-refused : is_done a ≡ false → refused_read r n a ≡ read_outcome_by r n block a
  unfolding read_outcome_by
  read-refused f =
      let none : Withheld ≡ read_decision r.state n block a = sym (simp f) in
      let nowhere : 0 ≡ decided_place r.state n a = sym (simp f) in
      λ i. record { after = record_of (record-refused r (read n block) a n refl f i); answer = a; sense = sense_of a; decision = none i; place = nowhere i }

  pub read_done : is_done a ≡ true
      → record { after = record_of r; answer = a; sense = sense_of Done; decision = ruled_decision (restored (selected_set r.state n) block); place = selected r.state n } ≡ read_outcome_by r n block a
  unfolding read_outcome_by held_after
  read_done t =
      let e : Done ≡ a = sym (done-is a t) in
      let made : ruled_decision (restored (selected_set r.state n) block) ≡ read_decision r.state n block a = sym (simp t) in
      let where-it-is : selected r.state n ≡ decided_place r.state n a = sym (simp t) in
      λ i. record { after = record_of (record-done r (read n block) a t i); answer = a; sense = sense_of (e i); decision = made i; place = where-it-is i }

-- a page that passed its check is answered by check 10
pub page-decides : (r : Worded) (command : Command) (bytes : List ℕ) (a : Answer) → a ≡ check10 r.state command.nexus (page_checked r.state command.nexus bytes).page
    → page_outcome r command.nexus (page_checked r.state command.nexus bytes).page ≡ outcome_by r (security_out command bytes) a
page-decides r command bytes a e =
    let n = command.nexus in
    let read = (page_checked r.state n bytes).page in
    cases (no_place r.state n read)
    (λ t.
    let refusal : NoPlaceForLocal ≡ a = sym (e ∙ if-true _ NoPlaceForLocal Done t) in
    if-true _ _ _ t ∙ ap (refused_call r n) refusal ∙ out-refused r (security_out command bytes) a n refl (ap is_done (sym refusal)))
    (λ f.
    let done : Done ≡ a = sym (e ∙ if-false _ NoPlaceForLocal Done f) in
    if-false _ _ _ f
    ∙ ap (λ (x : Answer). record { after = record_of (held_after r (takes n read)); answer = x; sense = sense_of Done }) done
    ∙ out-done r (security_out command bytes) a (ap is_done (sym done)))

-- an event that is carried out
module _ (r : Worded) (event : Event) where
  -- one that releases nothing leaves the record as it is
  pub event-spared : each (spared (released_by event)) r.state.sets ≡ true → unchanged r Done ≡ outcome_by r (happens event) Done
  unfolding held_after
  event-spared spares =
      let same : r ≡ held_after r (releasing event) = sym (if-true _ _ _ spares) in
      ap (λ (t : Worded). outcome_with t Done) same ∙ out-done r (happens event) Done refl

  -- one that releases something
  pub event-done : each (spared (released_by event)) r.state.sets ≡ false
      → record { after = record_of (told_by (actor_of event) r (changed_by r.state (releasing event))); answer = Done; sense = sense_of Done } ≡ outcome_by r (happens event) Done
  unfolding held_after
  event-done f =
      let some : held_after r (releasing event) ≡ told_by (actor_of event) r (changed_by r.state (releasing event)) = if-false _ _ _ f in
      ap (λ (t : Worded). outcome_with t Done) (sym some) ∙ out-done r (happens event) Done refl
