-- This model's instance of what is proved once over the sizes.
-- Assumes nothing.
use Prim.Native.Nat.{ℕ, ◌+◌, ◌*◌, ◌/◌, ◌%◌, ◌≤◌, ◌<◌, ◌^◌}
use mathlib.Core.Bool.{Bool, true, false}
use mathlib.Core.List.{List, [], ◌∷◌, ◌++◌}
use mathlib.Core.Path.{◌≡◌, refl, sym, ap, subst, ◌∙◌}
use lib.Dec.{lit<, lit≤}
use lib.ListN.{length, take, drop}
use native.Mathlib.Omega.{arith}
use Rattle.arrays.specs.Base.{Exactly}
use Rattle.arrays.specs.Words.{ones_over}
use Rattle.answer.specs.Answers.{sense_of}
use Rattle.answer.specs.declared.Answer.TheVariants.{NotWellFormed}
use Rattle.wire.specs.Buffers.{shown}
use Rattle.wire.specs.Parts.{joined}
use Rattle.wire.proofs.Bytes.{Below}
use Rattle.page.specs.Check.{checked}
use Rattle.device.specs.Record.{State, nexus_at, power_on}
use Rattle.device.specs.Selecting.{selected, selected_set}
use Rattle.device.specs.Words.{Worded, with_words, formed}
use Rattle.device.proofs.WellFormed.{power-on-well}
use Rattle.words.specs.Served.{InOne}
use Rattle.words.proofs.Words.{is-formed, in_one}
use Rattle.places.proofs.Lengths.{power-places, power-nexuses}
use Rattle.drive.specs.Calls.{Call, write, is_power_up}
use Rattle.drive.specs.declared.Decision.TheVariants.{Encrypted}
use Rattle.drive.specs.Checks.{page_checked}
use Rattle.drive.specs.Records.{answer_of, after_all}
use Rattle.drive.specs.Runs.{run}
use Rattle.kept.proofs.Runs.{since-power-on}
use Rattle.kept.proofs.Records.{formed-answer, run-size, unformed-record, words-since-power-on, ones-since-power-on}
use Rattle.history.specs.History.{is_heard, is_stopped, LatestPage, left_by, ran_from, touched, drew}
use Rattle.history.proofs.Demand.{demand3-run}
use Rattle.sizes_16.specs.Sizes.{nexus_count, place_count}
use Rattle.device_16.specs.Model.{state, worded, record_of}
use Rattle.device_16.specs.declared.Device.{Device}
use Rattle.device_16.specs.declared.Record.{Record}
use Rattle.drive_16.specs.Outcomes.{outcome, powered_on, write_outcome}
use Rattle.recording.specs.Entries.{calls}
use Rattle.recording.specs.Files.{header, sound_file, file_verdict, event_bytes, page_bytes, calls_of, file_of}
use Rattle.session.specs.Answers.{four_of, answer_bytes}
use Rattle.session.specs.Records.{answers_of, answer_bytes_of}
use Rattle.session.proofs.Records.{formed-answers}
use Rattle.session.proofs.Replayed.{file-taken}
use Rattle.session_16.specs.Sessions.{start, Gives}
use Rattle.session_16.specs.declared.Ran.{Ran}
use Rattle.batch.specs.Due.{Room, SoundBatch}
use Rattle.batch.proofs.Batched.{batch-one-by-one}
use Rattle.batch.proofs.Replays.{batch-as-session}
use Rattle.batch_16.specs.Batches.{Batched}
use Rattle.claim.specs.Rows.{row_of_nexus, counts_as}
use Rattle.claim.specs.Files.{rate_most, claim_text}
use Rattle.claim.specs.Claimable.{Claimable}
use Rattle.claim.proofs.Exactly.{written, claimed-exactly}
use Rattle.claim.proofs.Long.{text-few}
use Rattle.why.specs.declared.Reason.{Reason}
use Rattle.why.specs.Reasons.{why}
use Rattle.why.specs.Truths.{TrueReason}
use Rattle.why.proofs.Truth.{why-true}
use Rattle.salvage.specs.Salvage.{kept_events, salvaged}
use Rattle.salvage.specs.Saved.{Salvageable}
use Rattle.salvage.proofs.Replayed.{kept-replayed}
use Rattle.promises_16.specs.Runs.{leaves, tells, since_power_on}
-- What this model writes as a record's bytes is loaded as the same record; bytes that are loaded, written again, are the same bytes; a
-- load takes bytes exactly if their count is right and each yes/no byte is 0 or 1; a refused one carries nothing.
pub use Rattle.record_16.proofs.RoundTrip.{loaded-of-record, written-of-loaded, loaded-is-formed, refused-load}
-- A command whose reply has room is replied to as the stream's definition says.
pub use Rattle.stream_16.proofs.Serving.{is-served}

-- it is the record over lists, with its words
pub leaves_run : (r : Record) (calls : List Call) → worded (leaves r calls) ≡ after_all (worded r) calls
unfolding leaves after_all outcome
leaves_run r [] = refl
leaves_run r (call ∷ later) = leaves_run (outcome (worded r) call).after later

-- and the answers are those over lists
pub tells-answers : (r : Record) (calls : List Call) → tells r calls ≡ answer_bytes_of (worded r) calls
unfolding tells answers_of joined outcome
tells-answers r [] = refl
tells-answers r (call ∷ later) = ap (λ (l : List ℕ). four_of (answer_of (worded r) call) ++ l) (tells-answers (outcome (worded r) call).after later)

-- since power-on they are document 01's
from_start : (made : List Call) → answer_bytes_of (with_words start) made ≡ answer_bytes start made
from_start made = formed-answers start made (omega (arith, power-nexuses nexus_count place_count)) (omega (arith, power-places nexus_count place_count)) (power-on-well nexus_count place_count (λ h. lit< tt))

-- Document 02, request 7: since power-on each word of this model's record is what the scopes say,
pub words-here : (calls : List Call) → worded (since_power_on calls) ≡ with_words (run nexus_count place_count calls)
words-here calls = leaves_run powered_on.after calls ∙ words-since-power-on nexus_count place_count (lit< tt) (lit< tt) calls

-- "and the number of ones over all places is 16",
pub ones-here : (calls : List Call) → ones_over (since_power_on calls).words ≡ 16
ones-here calls = ap (λ (w : Worded). ones_over w.words) (leaves_run powered_on.after calls) ∙ ones-since-power-on nexus_count place_count (lit< tt) (lit< tt) calls

-- and a nexus's bit is in the word of the place that it selects and in no other.
pub in-one-here : (calls : List Call) (n : ℕ) → n < nexus_count → InOne (run nexus_count place_count calls) n
in-one-here calls n h =
    let size = run-size calls (power_on nexus_count place_count) in
    in_one (run nexus_count place_count calls) n (omega (arith, h, size.nexuses, power-nexuses nexus_count place_count)) (omega (arith, size.places, power-places nexus_count place_count))

-- the record over lists, without its words
pub runs_so : (calls : List Call) → state (since_power_on calls).device ≡ run nexus_count place_count calls
runs_so calls = ap (λ (w : Worded). w.state) (words-here calls)

-- since power-on every record of this model is well formed, its words included
pub always-well-formed : (calls : List Call) → formed (worded (since_power_on calls)) ≡ true
always-well-formed calls = ap formed (words-here calls) ∙ is-formed (run nexus_count place_count calls) ∙ since-power-on nexus_count place_count (lit< tt) (lit< tt) calls

-- A record of this model that is not well formed, be it by its words alone, answers 1 to every call but power-on, and comes back as it is.
pub unformed-here : (r : Record) (call : Call) → formed (worded r) ≡ false → is_power_up call ≡ false → outcome (worded r) call ≡ record { after = r; answer = NotWellFormed; sense = sense_of NotWellFormed }
unfolding outcome
unformed-here r call f p = let s = unformed-record (worded r) call f p in λ i. record { after = record_of (s.left i); answer = s.answered i; sense = sense_of (s.answered i) }

-- the page rules are the page's alone: this model's page check is `checked`, of the nexus's scope, its set's mode and its count of keys
pub page-rules : (d : Device) (n : ℕ) (page : List ℕ) → page_checked (state d) n page ≡ checked page (nexus_at (state d) n).scope (selected_set (state d) n).fields.decryption (selected_set (state d) n).supplemental.count
page-rules d n page = refl

-- demand 3 of this model, of the run itself
pub demand3-here : (calls : List Call) → drew nexus_count place_count calls < 2 ^ 32
    → (n : ℕ) → n < nexus_count → (supported : Bool) → is_heard (state (since_power_on calls).device) n ≡ true → (nexus_at (state (since_power_on calls).device) n).lock ≡ true
    → (x : LatestPage n (power_on nexus_count place_count) calls)
    × (is_stopped (state (since_power_on calls).device) n supported ≡ touched (selected (left_by x) n) (ran_from (left_by x) x.later))
demand3-here calls fits n here supported heard locked =
    let e = runs_so calls in
    let r = demand3-run nexus_count place_count (lit< tt) calls fits n here supported (subst (λ (s : State). is_heard s n ≡ true) e heard) (subst (λ (s : State). (nexus_at s n).lock ≡ true) e locked) in
    (r.0, ap (λ (s : State). is_stopped s n supported) e ∙ r.1)

-- replay of a sound file, as its promise states it, leaves the record that the file's events leave, each sent as a call by itself
pub replay-as-calls : (file buffer : List ℕ) (r : Ran) (after : List ℕ) → Gives (file_verdict file) start (calls_of file) buffer r after → sound_file file ≡ true
    → worded r.after ≡ worded (since_power_on (calls_of file))
replay-as-calls file buffer r after g sound =
    ap (λ (x : Ran). worded x.after) g.ran ∙ ap with_words (file-taken start file buffer sound).left ∙ sym (words-here (calls_of file))

-- of every sound file: a write event counts in row k as encrypted exactly if that is its nexus's row and it may be claimed at that point of
-- the session
pub claimed-here : (file : List ℕ) → Below file → sound_file file ≡ true → (before later : List Call) (n : ℕ) (supported : Bool) → calls_of file ≡ before ++ write n supported ∷ later
    → (k : ℕ) → Exactly (counts_as nexus_count k Encrypted (written start before n supported) ≡ true) ((row_of_nexus nexus_count n ≡ k) × Claimable nexus_count place_count before n supported)
claimed-here = claimed-exactly nexus_count place_count (lit< tt) (lit< tt) (lit≤ tt)

-- the text of every claim that is made has room in TEXT_MOST bytes
pub text-here : (rate : ℕ) (file : List ℕ) → length (event_bytes file) < 65536 → rate ≤ rate_most → length (claim_text nexus_count place_count rate file) ≤ 435
text-here rate file h r = text-few nexus_count place_count rate file (lit< tt) h r

-- A batch that is taken, as its promise states it, from any record of this model: the record that its events leave, each sent as a call by
-- itself, their answers, and the bytes beyond as they were.
pub record SentOneByOne (r : Record) (events pages buffer : List ℕ) (ran : Ran) (end : List ℕ) : Type 0 where
  pub left : ran.after ≡ leaves r (calls events pages)
  pub told : end ≡ tells r (calls events pages) ++ drop (4 * (length events / 8)) buffer

pub batch-as-calls : (r : Record) (events pages buffer : List ℕ) (ran : Ran) (end : List ℕ) → Batched (worded r) events pages buffer ran end
    → Room events (length buffer) → SoundBatch events pages → SentOneByOne r events pages buffer ran end
batch-as-calls r events pages buffer ran end b room sound =
    let same = batch-one-by-one (worded r) events pages buffer room sound in
    record {
      left = ap (λ (x : Ran). x.after) b.ran ∙ ap record_of (same.left ∙ sym (leaves_run r (calls events pages)));
      told = b.told ∙ same.told ∙ ap (λ (l : List ℕ). l ++ drop (4 * (length events / 8)) buffer) (sym (tells-answers r (calls events pages)));
    }

-- A batch from power-on, and replay of the file made of it, as both are promised: the same verdict, record and bytes, sound or not.
pub batch-as-replay : (events pages buffer : List ℕ) {r x : Ran} {after end : List ℕ} → Batched (with_words start) events pages buffer r after
    → Gives (file_verdict (file_of events pages)) start (calls_of (file_of events pages)) buffer x end
    → length events % 8 ≡ 0 → Room events (length buffer) → 8 + length events + length pages < 65536 → (r ≡ x) × (after ≡ end)
batch-as-replay events pages buffer b g whole room small =
    let same = batch-as-session start (omega (arith, power-nexuses nexus_count place_count)) (omega (arith, power-places nexus_count place_count)) (power-on-well nexus_count place_count (λ h. lit< tt)) events pages buffer whole room small in
    (b.ran ∙ (λ i. record { after = record_of (same.left i); verdict = same.verdict i }) ∙ sym g.ran, b.told ∙ same.told ∙ sym g.told)

-- A reason, as its promise states it, of a recording that is taken: it is the true one,
pub why-here : (file : List ℕ) → Below file → sound_file file ≡ true → (events : ℕ) → events ≤ (header file).event_count → (n : ℕ) (supported : Bool) {r : Reason}
    → r ≡ why nexus_count place_count file events n supported → TrueReason nexus_count place_count file events n supported r
why-here file bytes sound events h n supported e =
    subst (TrueReason nexus_count place_count file events n supported) (sym e) (why-true nexus_count place_count (lit< tt) (lit< tt) (lit≤ tt) file bytes sound events h n supported)

-- and its answer is the one that this model's write gives after those events, each sent as a call by itself.
pub tried_here : (file : List ℕ) → Below file → sound_file file ≡ true → (events : ℕ) → events ≤ (header file).event_count → (n : ℕ) (supported : Bool) {r : Reason}
    → r ≡ why nexus_count place_count file events n supported → r.cause.answer ≡ (write_outcome (worded (since_power_on (take events (calls_of file)))) n supported).answer
unfolding write_outcome
tried_here file bytes sound events h n supported e =
    let l = take events (calls_of file) in
    (why-here file bytes sound events h n supported e).answered
    ∙ sym (formed-answer (run nexus_count place_count l) (write n supported) (since-power-on nexus_count place_count (lit< tt) (lit< tt) l))
    ∙ ap (λ (w : Worded). answer_of w (write n supported)) (sym (words-here l))

-- The new file of a recording that can be salvaged, replayed as it is promised: the record that the kept events leave, each sent as a call by
-- itself since power-on, and their answers.
pub record KeptSent (file buffer : List ℕ) (r : Ran) (end : List ℕ) : Type 0 where
  pub left : r.after ≡ since_power_on (calls (kept_events file) (page_bytes file))
  pub told : end ≡ shown (tells powered_on.after (calls (kept_events file) (page_bytes file))) buffer

pub salvaged-here : (file buffer : List ℕ) {r : Ran} {end : List ℕ} → Salvageable file
    → Gives (file_verdict (salvaged file)) start (calls_of (salvaged file)) buffer r end → KeptSent file buffer r end
salvaged-here file buffer w g =
    let kept = calls (kept_events file) (page_bytes file) in
    let k = kept-replayed file w start buffer in
    record {
      left = ap (λ (x : Ran). x.after) g.ran ∙ ap record_of (ap with_words k.left ∙ sym (words-here kept));
      told = g.told ∙ k.told ∙ ap (λ (l : List ℕ). shown l buffer) (sym (tells-answers powered_on.after kept ∙ from_start kept));
    }
