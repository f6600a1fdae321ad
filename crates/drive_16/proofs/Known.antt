-- What each call gives back after check 1, by what the code's checks tell.
-- Assumes nothing.
use Prim.Native.Nat.{ℕ, ◌<◌}
use mathlib.Core.Path.{◌≡◌, refl, sym, ap, ap₂, ◌∙◌}
use mathlib.Core.Bool.{Bool, true, false}
use mathlib.Core.List.{List, [], ◌∷◌}
use lib.ListN.{length}
use Rattle.std.specs.Prelude.{Ok, Err, None}
use Rattle.arrays.specs.Arrays.{each}
use Rattle.wire.specs.Buffers.{shown}
use Rattle.answer.specs.Answers.{sense_of, is_done, passed}
use Rattle.answer.specs.declared.Answer.{Answer}
use Rattle.answer.specs.declared.Refusal.{Refusal}
use Rattle.answer.specs.declared.Answer.TheVariants.{Done, NotWellFormed}
use Rattle.answer.specs.declared.Change.TheVariants.{Registered}
use Rattle.answer.proofs.Passed.{passed-is, refused-is}
use Rattle.page.specs.Check.{Checked, told}
use Rattle.page.specs.declared.Page.{Page}
use Rattle.page.proofs.Ruled.{told-done, told-fault}
use Rattle.device.specs.Record.{State, nexus_at, set_at}
use Rattle.device.specs.Words.{Worded, formed, keeping}
use Rattle.device.specs.Selecting.{selected, selected_set}
use Rattle.device.specs.declared.Nexus.{Nexus}
use Rattle.marks.specs.Marks.{changes}
use Rattle.marks.specs.Parts.{told_by}
use Rattle.status.specs.Pages.{is_in_page, is_out_page}
use Rattle.places.specs.Actions.{spared, released_by}
use Rattle.places.specs.declared.Event.{Event}
use Rattle.drive.specs.declared.Command.{Command}
use Rattle.drive.specs.declared.Block.{Block}
use Rattle.drive.specs.declared.ReadDecision.{ReadDecision}
use Rattle.drive.specs.Calls.{Call, security_in, security_out, write, read, happens, sender_of, is_power_up}
use Rattle.drive.specs.Restoring.{ruled_answer, ruled_decision, restored}
use Rattle.drive.specs.Checks.{first_of, heard, heard_of, commanded, commanded_of, permitted, event_check, page_checked, check10, checks, known_answer}
use Rattle.drive.specs.Effects.{releasing}
use Rattle.drive.specs.After.{actor_of, changed_by}
use Rattle.drive.specs.Outcomes.{response_page, in_buffer, decided}
use Rattle.drive.proofs.Checks.{first-fault, first_next, last-is}
use Rattle.drive.proofs.Records.{formed-known, unformed-due}
use Rattle.drive.proofs.Passing.{refused-stops, restored-refused, front-refused, front-passed, rest-refused, rest-passed}
use Rattle.device_16.specs.Model.{record_of}
use Rattle.drive_16.specs.Outcomes.{outcome, outcome_by, in_outcome_by, write_outcome_by, read_outcome_by, known_outcome, known_in_outcome, known_write_outcome, known_read_outcome, refused_call, refused_in, page_outcome, refused_write, refused_read, unchanged}
use Rattle.drive_16.proofs.Outcomes.{out-refused, out-kept, out-due, page-decides, in-refused, in_kept, in-done, in-shown, write-refused, write_done, read-refused, read_done, event-spared, event-done}

-- a record that is well formed, and has places
pub known-due : (r : Worded) (call : Call) → 0 < length r.state.sets → formed r ≡ true → known_outcome r call ≡ outcome r call
known-due r call some t = ap (outcome_by r call) (formed-known r call t) ∙ out-due r call some

-- one that isn't, and a call without a sender
pub out-unformed : (r : Worded) (call : Call) → 0 < length r.state.sets → sender_of call ≡ None → is_power_up call ≡ false → formed r ≡ false → unchanged r NotWellFormed ≡ outcome r call
out-unformed r call some nobody running f =
    out-kept r call NotWellFormed nobody refl ∙ ap (outcome_by r call) (unformed-due r call running f) ∙ out-due r call some

-- ---- a security command, of a nexus that was found in a record of so many

module _ (r : Worded) (command : Command) (nexuses : ℕ) (nexus : Nexus) (supported : Bool) (size : length r.state.nexuses ≡ nexuses) (seen : nexus ≡ nexus_at r.state command.nexus) where
  pub commanded_is : (supports : Bool) → supported ≡ supports → first_of (commanded nexuses command nexus.marks supported) ≡ first_of (commanded_of r.state command supports)
  commanded_is supports e =
      ap₂ (λ (k : ℕ) (x : Nexus). first_of (commanded k command x.marks supported)) (sym size) seen ∙ ap (λ (b : Bool). first_of (commanded_of r.state command b)) e

  in-is : supported ≡ is_in_page command.code → first_of (commanded nexuses command nexus.marks supported) ≡ known_answer r.state (security_in command)
  unfolding known_answer checks
  in-is e = commanded_is (is_in_page command.code) e

  pub in-stopped : supported ≡ is_in_page command.code → (a : Answer) → Err a ≡ passed (first_of (commanded nexuses command nexus.marks supported))
      → (refused_in r command.nexus a ≡ known_in_outcome r command) × ((buffer : List ℕ) → buffer ≡ in_buffer r.state command (known_answer r.state (security_in command)) buffer)
  in-stopped e a h =
      let front = first_of (commanded nexuses command nexus.marks supported) in
      let f = refused-stops front a h in
      let is : a ≡ known_answer r.state (security_in command) = refused-is front a h ∙ in-is e in (
        in-refused r command a f ∙ ap (in_outcome_by r command) is,
        λ buffer. in_kept r command a buffer f ∙ ap (λ (x : Answer). in_buffer r.state command x buffer) is,
      )

  pub in-given : supported ≡ is_in_page command.code → Ok tt ≡ passed (first_of (commanded nexuses command nexus.marks supported)) → let page = response_page r.state command.nexus command.code in
      (record { after = record_of (keeping r.words (changes r.state command.nexus Registered)); answer = Done; sense = sense_of Done; length = length page } ≡ known_in_outcome r command)
      × ((buffer : List ℕ) → shown page buffer ≡ in_buffer r.state command (known_answer r.state (security_in command)) buffer)
  in-given e h =
      let is : Done ≡ known_answer r.state (security_in command) = passed-is (first_of (commanded nexuses command nexus.marks supported)) h ∙ in-is e in (
        in-done r command Done refl ∙ ap (in_outcome_by r command) is,
        λ buffer. in-shown r command Done buffer refl ∙ ap (λ (x : Answer). in_buffer r.state command x buffer) is,
      )

  -- a page that is sent
  module _ (bytes : List ℕ) (supports : supported ≡ is_out_page command.code) where
    abbrev call : Call
    call = security_out command bytes

    abbrev n : ℕ
    n = command.nexus

    abbrev checked : Checked
    checked = page_checked r.state n bytes

    abbrev rest : List Answer
    rest = checked.answer ∷ check10 r.state n checked.page ∷ []

    -- checks 2 to 6 refuse it
    pub out-stopped : (a : Answer) → Err a ≡ passed (first_of (commanded nexuses command nexus.marks supported)) → refused_call r n a ≡ known_outcome r call
    unfolding checks
    out-stopped a e =
        let front = commanded_of r.state command (is_out_page command.code) in
        let h : Err a ≡ passed (first_of front) = e ∙ ap passed (commanded_is (is_out_page command.code) supports) in
        out-refused r call a n refl (refused-stops (first_of front) a h) ∙ ap (outcome_by r call) (front-refused r.state call front rest refl a h)

    module _ (clear : Ok tt ≡ passed (first_of (commanded nexuses command nexus.marks supported))) where
      out-clear : known_answer r.state call ≡ first_of rest
      unfolding checks
      out-clear = front-passed r.state call (commanded_of r.state command (is_out_page command.code)) rest refl (clear ∙ ap passed (commanded_is (is_out_page command.code) supports))

      -- the page is wrong
      pub page-refused : (x : Refusal) → Err x ≡ told checked → refused_call r n x.answer ≡ known_outcome r call
      page-refused x k =
          let (f, e) = told-fault checked x (sym k) in
          out-refused r call x.answer n refl (ap is_done (sym e) ∙ f)
          ∙ ap (outcome_by r call) (sym e ∙ sym (out-clear ∙ first-fault checked.answer (check10 r.state n checked.page ∷ []) f))

      -- it isn't, and check 10 decides
      pub page-right : (x : Page) → Ok x ≡ told checked → page_outcome r n x ≡ known_outcome r call
      page-right x k =
          let (t, e) = told-done checked x (sym k) in
          ap (page_outcome r n) (sym e)
          ∙ page-decides r command bytes (known_answer r.state call) (out-clear ∙ first_next checked.answer (check10 r.state n checked.page ∷ []) t ∙ last-is (check10 r.state n checked.page))

-- ---- a write and a read, of a nexus that was found in a record of so many, and the place that it uses

module _ (r : Worded) (n nexuses : ℕ) (nexus : Nexus) (size : length r.state.nexuses ≡ nexuses) (seen : nexus ≡ nexus_at r.state n) where
  abbrev s : State
  s = r.state

  heard_is : first_of (heard nexuses n nexus.marks) ≡ first_of (heard_of s n)
  heard_is = ap₂ (λ (k : ℕ) (x : Nexus). first_of (heard k n x.marks)) (sym size) seen

  -- a write that checks 2 to 4 refuse
  pub write-unheard : (supported : Bool) (a : Answer) → Err a ≡ passed (first_of (heard nexuses n nexus.marks)) → refused_write r n a ≡ known_write_outcome r n supported
  unfolding checks
  write-unheard supported a e =
      let h : Err a ≡ passed (first_of (heard_of s n)) = e ∙ ap passed heard_is in
      write-refused r n supported a (refused-stops (first_of (heard_of s n)) a h)
      ∙ ap (write_outcome_by r n supported) (front-refused s (write n supported) (heard_of s n) (permitted (nexus_at s n) (selected_set s n) supported) refl a h)

  -- a read
  pub read-unheard : (block : Block) (a : Answer) → Err a ≡ passed (first_of (heard nexuses n nexus.marks)) → refused_read r n a ≡ known_read_outcome r n block
  unfolding checks
  read-unheard block a e =
      let h : Err a ≡ passed (first_of (heard_of s n)) = e ∙ ap passed heard_is in
      read-refused r n block a (refused-stops (first_of (heard_of s n)) a h)
      ∙ ap (read_outcome_by r n block) (front-refused s (read n block) (heard_of s n) (ruled_answer (restored (selected_set s n) block) ∷ []) refl a h)

  module _ (place : ℕ) (chosen : place ≡ selected s n) (clear : Ok tt ≡ passed (first_of (heard nexuses n nexus.marks))) where
    front-clear : Ok tt ≡ passed (first_of (heard_of s n))
    front-clear = clear ∙ ap passed heard_is

    permitted_is : (supported : Bool) → first_of (permitted nexus (set_at s place) supported) ≡ first_of (permitted (nexus_at s n) (selected_set s n) supported)
    permitted_is supported = ap₂ (λ (x : Nexus) (p : ℕ). first_of (permitted x (set_at s p) supported)) seen chosen

    -- a write that its own checks refuse
    pub write-stopped : (supported : Bool) (a : Answer) → Err a ≡ passed (first_of (permitted nexus (set_at s place) supported)) → refused_write r n a ≡ known_write_outcome r n supported
    unfolding checks
    write-stopped supported a e =
        let own = permitted (nexus_at s n) (selected_set s n) supported in
        let h : Err a ≡ passed (first_of own) = e ∙ ap passed (permitted_is supported) in
        write-refused r n supported a (refused-stops (first_of own) a h)
        ∙ ap (write_outcome_by r n supported) (rest-refused s (write n supported) (heard_of s n) own refl front-clear a h)

    -- one that they permit
    pub write-permitted : (supported : Bool) → Ok tt ≡ passed (first_of (permitted nexus (set_at s place) supported))
        → record { after = record_of r; answer = Done; sense = sense_of Done; decision = decided (set_at s place).fields.encryption; place = place; index = (set_at s place).fields.index } ≡ known_write_outcome r n supported
    unfolding checks
    write-permitted supported e =
        let own = permitted (nexus_at s n) (selected_set s n) supported in
        (λ i. record { after = record_of r; answer = Done; sense = sense_of Done; decision = decided (set_at s (chosen i)).fields.encryption; place = chosen i; index = (set_at s (chosen i)).fields.index })
        ∙ write_done r n supported Done refl
        ∙ ap (write_outcome_by r n supported) (rest-passed s (write n supported) (heard_of s n) own refl front-clear (e ∙ ap passed (permitted_is supported)))

    ruling_is : (block : Block) → restored (set_at s place) block ≡ restored (selected_set s n) block
    ruling_is block = ap (λ (p : ℕ). restored (set_at s p) block) chosen

    -- a read that its block refuses
    pub read-stopped : (block : Block) (a : Answer) → Err a ≡ restored (set_at s place) block → refused_read r n a ≡ known_read_outcome r n block
    unfolding checks
    read-stopped block a e =
        let own = ruled_answer (restored (selected_set s n) block) in
        let h : Err a ≡ passed own = restored-refused (selected_set s n) block a (e ∙ ruling_is block) in
        read-refused r n block a (refused-stops own a h)
        ∙ ap (read_outcome_by r n block) (rest-refused s (read n block) (heard_of s n) (own ∷ []) refl front-clear a (h ∙ ap passed (sym (last-is own))))

    -- one whose block is given
    pub read-given : (block : Block) (decision : ReadDecision) → Ok decision ≡ restored (set_at s place) block
        → record { after = record_of r; answer = Done; sense = sense_of Done; decision = decision; place = place } ≡ known_read_outcome r n block
    unfolding checks
    read-given block decision e =
        let h : Ok decision ≡ restored (selected_set s n) block = e ∙ ruling_is block in
        let own = ruled_answer (restored (selected_set s n) block) in
        let done : Done ≡ own = ap ruled_answer h in
        (λ i. record { after = record_of r; answer = Done; sense = sense_of Done; decision = ruled_decision (h i); place = chosen i })
        ∙ read_done r n block Done refl
        ∙ ap (read_outcome_by r n block) (rest-passed s (read n block) (heard_of s n) (own ∷ []) refl front-clear (ap passed (done ∙ sym (last-is own))))

-- ---- an event, of a record of so many nexuses and places

module _ (r : Worded) (event : Event) (nexuses places : ℕ) (n : length r.state.nexuses ≡ nexuses) (p : length r.state.sets ≡ places) where
  event-is : event_check nexuses places event ≡ known_answer r.state (happens event)
  unfolding known_answer checks
  event-is = sym (simp (n, p) (last-is (event_check nexuses places event)))

  pub event-refused : (a : Answer) → Err a ≡ passed (event_check nexuses places event) → unchanged r a ≡ known_outcome r (happens event)
  event-refused a e =
      out-kept r (happens event) a refl (refused-stops (event_check nexuses places event) a e)
      ∙ ap (outcome_by r (happens event)) (refused-is (event_check nexuses places event) a e ∙ event-is)

  module _ (none : Bool) (passes : Ok tt ≡ passed (event_check nexuses places event)) (e : none ≡ each (spared (released_by event)) r.state.sets) where
    event-passes : Done ≡ known_answer r.state (happens event)
    event-passes = passed-is (event_check nexuses places event) passes ∙ event-is

    -- it releases nothing
    pub event-none : none ≡ true → unchanged r Done ≡ known_outcome r (happens event)
    event-none t = event-spared r event (sym e ∙ t) ∙ ap (outcome_by r (happens event)) event-passes

    -- it releases something
    pub event-some : none ≡ false
        → record { after = record_of (told_by (actor_of event) r (changed_by r.state (releasing event))); answer = Done; sense = sense_of Done } ≡ known_outcome r (happens event)
    event-some f = event-done r event (sym e ∙ f) ∙ ap (outcome_by r (happens event)) event-passes
