-- A session played, event by event.
-- Assumes nothing.
use Prim.Native.Nat.{ℕ, ◌+◌, ◌≤◌}
use mathlib.Core.Path.{◌≡◌, refl, sym, ap, ap₂, ◌∙◌}
use mathlib.Core.Bool.{Bool, true, false, ◌||◌}
use mathlib.Core.List.{List}
use native.Mathlib.Omega.{arith}
use lib.ListN.{length, drop}
use Rattle.arrays.proofs.Base.{cases, if-false}
use Rattle.answer.specs.declared.Answer.{Answer}
use Rattle.device.specs.Record.{State}
use Rattle.device.specs.WellFormed.{well_formed}
use Rattle.device.specs.Words.{Worded, with_words, formed}
use Rattle.device.proofs.WellFormed.{power-on-well}
use Rattle.words.proofs.Words.{formed-is, is-formed}
use Rattle.places.proofs.Lengths.{power-places, power-nexuses}
use Rattle.drive.specs.Calls.{Call, is_power_up}
use Rattle.drive.specs.Checks.{answer, answer_where}
use Rattle.drive.specs.Effects.{effect_by}
use Rattle.drive.specs.After.{by_number, carried_out, after}
use Rattle.drive.specs.Records.{answer_of, after_of}
use Rattle.drive.proofs.Records.{held-is}
use Rattle.sizes_16.specs.Sizes.{nexus_count, place_count}
use Rattle.device_16.specs.Model.{worded}
use Rattle.drive_16.specs.Outcomes.{outcome_by}
use Rattle.drive_16.specs.declared.Outcome.{Outcome}
use Rattle.calls.specs.Asking.{call_of}
use Rattle.calls.specs.Quiet.{sender_number, quietly}
use Rattle.calls.specs.declared.Asked.{Asked}
use Rattle.calls.specs.declared.Quiet.{Quiet}
use Rattle.calls.proofs.Quietly.{quiet_of, quiet-still}
use Rattle.calls_16.specs.Sights.{sighted}
use Rattle.calls_16.specs.declared.Sight.{Sight}
use Rattle.calls_16.proofs.Known.{quiet-found}
use Rattle.recording.specs.Entries.{entry_of, event_asked, event_page, call}
use Rattle.recording.specs.declared.Entry.{Entry}
use Rattle.session.proofs.Folds.{Adds, adds-starts, adds-more}
use Rattle.session_16.specs.Sessions.{start}
use Rattle.kept.proofs.Calls.{call_kept}
use Rattle.kept.proofs.Runs.{call-size}
use Rattle.kept.proofs.Records.{formed-answer, formed-after-of}

-- ---- one event, of any record

-- what the code knows of the record: whether it is well formed, and its sizes
pub record Known (r : Worded) (well : Bool) : Type 0 where
  pub known : well ≡ formed r
  pub nexuses : length r.state.nexuses ≡ nexus_count
  pub places : length r.state.sets ≡ place_count

-- the call that was made of an event
pub call-made : (pages rest : List ℕ) {page : List ℕ} {e : Entry} {asked : Asked} → e ≡ entry_of rest → asked ≡ event_asked e → page ≡ event_page pages e → call_of asked page ≡ call pages (entry_of rest)
unfolding call
call-made pages rest a b c = ap₂ call_of (b ∙ ap event_asked a) (c ∙ ap (event_page pages) a)

-- what is found of an event
pub event-found : (well : Bool) (s : State) (rest : List ℕ) → length s.nexuses ≡ nexus_count → {e : Entry} {asked : Asked} {n : ℕ} {sight : Sight} {q : Quiet} → e ≡ entry_of rest → asked ≡ event_asked e
    → n ≡ sender_number asked → sight ≡ sighted s n → q ≡ quietly well nexus_count sight.nexus sight.set asked → q ≡ quiet_of well s (event_asked (entry_of rest))
event-found well s rest size {asked = asked} a b c d f = quiet-found well s asked size c d f ∙ ap (quiet_of well s) (b ∙ ap event_asked a)

-- an event that leaves the record as it is: its answer is the one that is due, and it isn't power-on
pub record Quietly (r : Worded) (c : Call) (a : Answer) : Type 0 where
  pub answered : a ≡ answer_of r c
  pub left : r ≡ after_of r c
  pub running : is_power_up c ≡ false

-- one that is made: its answer and record are those that are due
pub record Made (r : Worded) (c : Call) (o : Outcome) : Type 0 where
  pub answered : o.answer ≡ answer_of r c
  pub left : worded o.after ≡ after_of r c

module _ {r : Worded} {well : Bool} (k : Known r well) where
  pub quiet_is : (pages rest : List ℕ) {q : Quiet} → q ≡ quiet_of well r.state (event_asked (entry_of rest)) → q.quiet ≡ true → Quietly r (call pages (entry_of rest)) q.answer
  unfolding call answer_where
  quiet_is pages rest {q} found here =
      let c = call pages (entry_of rest) in
      let still = quiet-still by_number well r.state (event_asked (entry_of rest)) (event_page pages (entry_of rest)) (sym (ap (λ (x : Quiet). x.quiet) found) ∙ here) in
      let due : answer_where well r.state c ≡ answer_of r c = ap (λ (b : Bool). answer_where b r.state c) k.known in
      let stays : carried_out by_number r.state (effect_by r.state c (answer_of r c)) ≡ r.state = sym (ap (λ (a : Answer). carried_out by_number r.state (effect_by r.state c a)) due) ∙ still.stays in
      record {
        answered = ap (λ (x : Quiet). x.answer) found ∙ sym still.answered ∙ due;
        left = kept c still.running stays;
        running = still.running;
      }
    where
      kept : (c : Call) → is_power_up c ≡ false → carried_out by_number r.state (effect_by r.state c (answer_of r c)) ≡ r.state → r ≡ after_of r c
      kept c p stays =
          cases (formed r)
          (λ t.
          let is = formed-is r t in
          let same : answer_of r c ≡ answer r.state c = ap (λ (x : Worded). answer_of x c) is.1 ∙ formed-answer r.state c is.0 in
          is.1 ∙ ap with_words (sym stays ∙ ap (λ (a : Answer). carried_out by_number r.state (effect_by r.state c a)) same) ∙ sym (formed-after-of r.state c is.0) ∙ sym (ap (λ (x : Worded). after_of x c) is.1))
          (λ f. sym (if-false (formed r || is_power_up c) (with_words (after r.state c)) r (ap (λ (b : Bool). b || is_power_up c) f ∙ p)))

  pub made-is : {c c' : Call} {o : Outcome} → c ≡ c' → o ≡ outcome_by r c (answer_where well r.state c) → Made r c' o
  unfolding outcome_by
  made-is {c} {c'} {o} it e =
      let due : o ≡ outcome_by r c' (answer_of r c') = e ∙ ap (λ (b : Bool). outcome_by r c (answer_where b r.state c)) k.known ∙ ap (λ (x : Call). outcome_by r x (answer_of r x)) it in
      record {
        answered = ap (λ (x : Outcome). x.answer) due;
        left = ap (λ (x : Outcome). worded x.after) due ∙ held-is r c' (omega (arith, k.places));
      }

-- ---- a session from power-on, whatever is added up

-- the invariant of the loop: what is left to play adds up to what all does, and the record is well formed
pub record Playing {R : Type 0} (add : ℕ → State → Call → R → R) (pages events : List ℕ) (s₀ : State) (x₀ : R) (r : Worded) (x : R) (rest : List ℕ) (i : ℕ) : Type 0 where
  pub adds : Adds add pages events s₀ x₀ r.state x rest i
  pub is : r ≡ with_words r.state
  pub well : well_formed r.state ≡ true
  pub knows : Known r true

well-known : (r : Worded) → r ≡ with_words r.state → well_formed r.state ≡ true → length r.state.nexuses ≡ nexus_count → length r.state.sets ≡ place_count → Known r true
well-known r e w n p = record { known = sym (ap formed e ∙ is-formed r.state ∙ w); nexuses = n; places = p }

pub play-starts : {R : Type 0} {add : ℕ → State → Call → R → R} {pages events : List ℕ} {x₀ : R} {r : Worded} → r ≡ with_words start → Playing add pages events start x₀ r x₀ events 0
play-starts {pages = pages} e = rw e (record {
  adds = adds-starts;
  is = refl;
  well = power-on-well nexus_count place_count (λ h. omega arith);
  knows = well-known (with_words start) refl (power-on-well nexus_count place_count (λ h. omega arith)) (power-nexuses nexus_count place_count) (power-places nexus_count place_count);
})

module _ {R : Type 0} {add : ℕ → State → Call → R → R} {pages events : List ℕ} {s₀ : State} {x₀ : R} {r : Worded} {x : R} {rest : List ℕ} {i : ℕ}
    (l : Playing add pages events s₀ x₀ r x rest i) where
  -- the next event's call
  abbrev pub next : Call
  next = call pages (entry_of rest)

  -- what is due of a record with words is what document 01 says
  pub answer-due : answer_of r next ≡ answer r.state next
  answer-due = ap (λ (y : Worded). answer_of y next) l.is ∙ formed-answer r.state next l.well

  pub after-due : after_of r next ≡ with_words (after r.state next)
  after-due = ap (λ (y : Worded). after_of y next) l.is ∙ formed-after-of r.state next l.well

  -- one event more
  pub play-more : 8 ≤ length rest → {t : Worded} {y : R} → t ≡ after_of r next → y ≡ add i r.state next x → Playing add pages events s₀ x₀ t y (drop 8 rest) (i + 1)
  play-more h e told =
      let there = e ∙ after-due in
      let same = call-size r.state next in
      let k = l.knows in
      let w = call_kept r.state next (omega (arith, k.nexuses)) (omega (arith, k.places)) l.well in
      rw there (record {
        adds = adds-more l.adds h refl told;
        is = refl;
        well = w;
        knows = well-known (with_words (after r.state next)) refl w (same.nexuses ∙ k.nexuses) (same.places ∙ k.places);
      })
