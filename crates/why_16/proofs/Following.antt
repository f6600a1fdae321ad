-- A session followed for one nexus: what is noted, event by event.
-- Assumes nothing.
use Prim.Native.Nat.{ℕ, ◌+◌, ◌≤◌}
use mathlib.Core.Path.{◌≡◌, sym, ap, ap₂, ◌∙◌}
use mathlib.Core.Bool.{true}
use mathlib.Core.List.{List}
use lib.ListN.{length, drop}
use Rattle.answer.specs.declared.Answer.{Answer}
use Rattle.device.specs.Record.{State}
use Rattle.drive.specs.Calls.{Call}
use Rattle.drive.specs.Checks.{answer, answer_where}
use Rattle.drive.specs.After.{after}
use Rattle.device.specs.Words.{Worded}
use Rattle.device_16.specs.Model.{state, worded}
use Rattle.drive_16.specs.Outcomes.{outcome_by}
use Rattle.drive_16.specs.declared.Outcome.{Outcome}
use Rattle.calls.specs.Asking.{call_of}
use Rattle.calls.specs.declared.Asked.{Asked}
use Rattle.calls.specs.declared.Quiet.{Quiet}
use Rattle.calls.proofs.Quietly.{quiet_of}
use Rattle.recording.specs.Entries.{entry_of, event_asked, event_page, call}
use Rattle.recording.specs.declared.Entry.{Entry}
use Rattle.session_16.specs.Sessions.{start}
use Rattle.session_16.proofs.Playing.{Playing, play-more, next, answer-due, after-due, call-made, quiet_is, made-is}
use Rattle.why.specs.declared.Watch.{Watch}
use Rattle.why.specs.Watching.{watched_with, watched, unwatched}
use Rattle.why.proofs.Watching.{quiet-watched}

-- the invariant of the loop
abbrev pub Following : (n : ℕ) → (pages events : List ℕ) → Worded → Watch → (rest : List ℕ) → (i : ℕ) → Type 0
Following n pages events r w rest i = Playing (watched n) pages events start unwatched r w rest i

module _ (n : ℕ) {pages events : List ℕ} {r : Worded} {w : Watch} {rest : List ℕ} {i : ℕ} (l : Following n pages events r w rest i) where
  abbrev s : State
  s = r.state

  -- nothing is noted of an event that leaves the record as it is
  quiet_same : {q : Quiet} → q ≡ quiet_of true s (event_asked (entry_of rest)) → q.quiet ≡ true → w ≡ watched n i s (next l) w
  unfolding call
  quiet_same found here =
      let still = quiet_is l.knows pages rest found here in
      let stays : after s (next l) ≡ s = sym (ap (λ (x : Worded). x.state) (still.left ∙ after-due l)) in
      sym (quiet-watched n i true s (event_asked (entry_of rest)) (event_page pages (entry_of rest)) w (sym (ap (λ (x : Quiet). x.quiet) found) ∙ here) still.running stays)

  module _ (h : 8 ≤ length rest) {t : Worded} {x : Watch} where
    pub quiet-followed : {q : Quiet} → q ≡ quiet_of true s (event_asked (entry_of rest)) → q.quiet ≡ true → t ≡ r → x ≡ w → Following n pages events t x (drop 8 rest) (i + 1)
    quiet-followed found here a b = play-more l h (a ∙ (quiet_is l.knows pages rest found here).left) (b ∙ quiet_same found here)

    -- of any other what the call did
    pub call-followed : {page : List ℕ} {e : Entry} {asked : Asked} {o : Outcome} → e ≡ entry_of rest → asked ≡ event_asked e → page ≡ event_page pages e
        → o ≡ outcome_by r (call_of asked page) (answer_where true s (call_of asked page)) → x ≡ watched_with n i s (call_of asked page) o.answer (state o.after.device) w
        → t ≡ worded o.after → Following n pages events t x (drop 8 rest) (i + 1)
    unfolding watched
    call-followed {o = o} a b c d f u =
        let it = call-made pages rest a b c in
        let m = made-is l.knows it d in
        let told : o.answer ≡ answer s (next l) = m.answered ∙ answer-due l in
        let left : state o.after.device ≡ after s (next l) = ap (λ (y : Worded). y.state) (m.left ∙ after-due l) in
        play-more l h (u ∙ m.left)
        (f ∙ ap (λ (y : Call). watched_with n i s y o.answer (state o.after.device) w) it
        ∙ ap₂ (λ (y : Answer) (z : State). watched_with n i s (next l) y z w) told left)
