use Prim.Native.Nat.{ℕ, ◌+◌, ◌*◌, ◌<◌, ◌^◌}
use mathlib.Core.Bool.{Bool}
use mathlib.Core.List.{List}
use lib.Dec.{lit<}
use mathlib.Core.Path.{◌≡◌, ap, ◌∙◌}
use native.Mathlib.Omega.{arith}
use lib.ListN.{length}
use Rattle.answer.specs.Answers.{number_of}
use Rattle.answer.specs.declared.Answer.{Answer}
use Rattle.answer.specs.declared.Row.{Row}
use Rattle.sizes_16.specs.Sizes.{nexus_count, place_count}
use Rattle.device.specs.Selecting.{selected, selected_set}
use Rattle.device.specs.Words.{with_words}
use Rattle.device_16.specs.Model.{state, worded}
use Rattle.drive.specs.Calls.{Call, write}
use Rattle.drive.specs.Checks.{answer}
use Rattle.drive.specs.Records.{answer_of}
use Rattle.drive.specs.Runs.{run}
use Rattle.kept.proofs.Runs.{since-power-on}
use Rattle.kept.proofs.Records.{formed-answer}
use Rattle.drive_16.specs.Outcomes.{write_outcome}
use Rattle.drive_16.specs.declared.WriteOutcome.{WriteOutcome}
use Rattle.calls_16.specs.declared.Sight.{Sight}
use Rattle.recording.specs.Entries.{calls}
use Rattle.recording.proofs.Entries.{length-calls}
use Rattle.why.specs.declared.Cause.{Cause}
use Rattle.why.specs.Causes.{cause_by}
use Rattle.why.proofs.Same.{cause-found}
use Rattle.why_16.specs.Following.{followed_for}
use Rattle.why_16.specs.declared.Followed.{Followed}
use Rattle.why_16.proofs.cause_after.Goals as goal
use Rattle.why_16.proofs.cause_after.Goals.{After-mode_for}

-- the cause of an answer, by what was followed
abbrev cause_with : Followed → ℕ → Answer → Cause
cause_with f n x =
    cause_by x f.watch.first f.watch.another f.watch.vendor (selected (state f.after.device) n) (selected_set (state f.after.device) n).fields.encryption

-- as it is made
made : After-mode_for → Followed → Cause
made c f =
    let a = c.args in
    cause_with f a.n (answer_of (worded f.after) (write a.n a.supported))

-- since power-on the write is answered as document 01 says
answered-since : (n : ℕ) (supported : Bool) (l : List Call) → answer_of (with_words (run nexus_count place_count l)) (write n supported) ≡ answer (run nexus_count place_count l) (write n supported)
answered-since n supported l = formed-answer (run nexus_count place_count l) (write n supported) (since-power-on nexus_count place_count (lit< tt) (lit< tt) l)

pub returns : goal.returns
unfolding write_outcome made
returns c =
    let w = c in
    let f = w in
    let a = f.args in
    let events = a.events.now in
    let pages = a.pages.now in
    let answered = ap (λ (o : WriteOutcome). o.answer) w.write-answer.ensures in
    let number = ap (λ (r : Row). r.number) c.row_of-number.ensures ∙ ap number_of answered in
    let place = c.selected-place.ensures.0 in
    let mode = ap (λ (x : Sight). x.set.fields.encryption) c.look.ensures in
    let few : (place_count + 2) * length (calls events pages) < 2 ^ 32 = omega (arith, length-calls pages events, f.requires) in
    let told : record { answer = w.write-answer.result.answer; touch = c.touch_for.result; mode = c.mode_for.result } ≡ made c f.follow-followed.result = simp (c.mode_for.ensures, c.touch_for.ensures, number, answered, place, mode) in
    told ∙ ap (made c) f.follow-followed.ensures
    ∙ ap (cause_with (followed_for a.n (calls events pages)) a.n) (answered-since a.n a.supported (calls events pages))
    ∙ cause-found nexus_count place_count a.n (omega arith) a.supported (calls events pages) few
