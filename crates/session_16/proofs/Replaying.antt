-- A session from any record: answers stored, event by event.
-- Assumes nothing.
use Prim.Native.Nat.{ℕ, ◌+◌, ◌*◌, ◌≤◌, ◌<◌}
use mathlib.Core.Path.{◌≡◌, refl, sym, ap, ap₂, ◌∙◌}
use mathlib.Core.Bool.{Bool, ◌||◌, or-false}
use mathlib.Core.List.{List}
use native.Mathlib.Omega.{arith}
use lib.ListN.{length, drop, length-drop}
use lib.Seq.{sets, length-sets}
use Rattle.wire.specs.Parts.{joined}
use Rattle.wire.specs.Buffers.{shown}
use Rattle.wire.proofs.Stores.{sets-append, sets-shown}
use Rattle.answer.specs.declared.Answer.{Answer}
use Rattle.device.specs.Words.{Worded}
use Rattle.drive.specs.Calls.{Call, is_power_up}
use Rattle.drive.specs.Records.{answer_of, after_of, after_all}
use Rattle.device_16.specs.Model.{worded}
use Rattle.drive_16.specs.declared.Outcome.{Outcome}
use Rattle.calls.specs.Asking.{call_of, is_power_on}
use Rattle.calls.specs.declared.Asked.{Asked}
use Rattle.calls.proofs.Quietly.{is-power}
use Rattle.recording.specs.Entries.{entry_of, call, calls}
use Rattle.recording.proofs.Entries.{calls-more, calls-none}
use Rattle.session.specs.Answers.{four_of}
use Rattle.session.specs.Records.{answers_of, answer_bytes_of}
use Rattle.kept.proofs.Records.{formed-then, size_of}
use Rattle.session_16.proofs.Playing.{Known, Quietly, Made}

-- the invariant of the loop: the calls that are left give the record that all give, their answers stored what all answers stored give, the
-- buffer keeps its length, and it is known whether the record is well formed
pub record Replaying (pages events : List ℕ) (r₀ : Worded) (out₀ : List ℕ) (r : Worded) (out : List ℕ) (well : Bool) (rest : List ℕ) (i : ℕ) : Type 0 where
  pub runs : after_all r (calls rest pages) ≡ after_all r₀ (calls events pages)
  pub gives : sets out (4 * i) (answer_bytes_of r (calls rest pages)) ≡ shown (answer_bytes_of r₀ (calls events pages)) out₀
  pub counted : 8 * i + length rest ≡ length events
  pub kept : length out ≡ length out₀
  pub knows : Known r well

pub replay-starts : {pages events : List ℕ} {r : Worded} {out : List ℕ} {well : Bool} → Known r well → Replaying pages events r out r out well events 0
replay-starts {pages} {events} {r} {out} k =
    record { runs = refl; gives = sets-shown (answer_bytes_of r (calls events pages)) out; counted = omega arith; kept = refl; knows = k }

module _ {pages events : List ℕ} {r₀ : Worded} {out₀ : List ℕ} {r : Worded} {out : List ℕ} {well : Bool} {rest : List ℕ} {i : ℕ}
    (l : Replaying pages events r₀ out₀ r out well rest i) (h : 8 ≤ length rest) where
  abbrev pub here : Call
  here = call pages (entry_of rest)

  -- one event more
  stored : {t : Worded} {end : List ℕ} {a : Answer} {then : Bool} → t ≡ after_of r here → a ≡ answer_of r here → end ≡ sets out (4 * i) (four_of a) → then ≡ (well || is_power_up here)
      → Replaying pages events r₀ out₀ t end then (drop 8 rest) (i + 1)
  unfolding after_all answers_of joined
  stored {t} {end} {a} {then} e f g w =
      let more = calls-more pages rest h in
      let k = l.knows in
      let same = size_of r here in
      let told : end ≡ sets out (4 * i) (four_of (answer_of r here)) = g ∙ ap (λ (x : Answer). sets out (4 * i) (four_of x)) f in
      let later = calls (drop 8 rest) pages in
      let on : 4 * (i + 1) ≡ 4 * i + 4 = omega arith in
      record {
        runs = ap (λ (x : Worded). after_all x later) e ∙ sym (ap (after_all r) more) ∙ l.runs;
        gives =
            ap₂ (λ (x : List ℕ) (y : Worded). sets x (4 * (i + 1)) (answer_bytes_of y later)) told e
            ∙ ap (λ (n : ℕ). sets (sets out (4 * i) (four_of (answer_of r here))) n (answer_bytes_of (after_of r here) later)) on
            ∙ sets-append out (4 * i) (four_of (answer_of r here)) (answer_bytes_of (after_of r here) later)
            ∙ sym (ap (λ (x : List Call). sets out (4 * i) (answer_bytes_of r x)) more)
            ∙ l.gives;
        counted = omega (arith, l.counted, length-drop 8 rest);
        kept = ap length told ∙ length-sets out (4 * i) (four_of (answer_of r here)) ∙ l.kept;
        knows = rw e (record {
          known = w ∙ ap (λ (b : Bool). b || is_power_up here) k.known ∙ sym (formed-then r here (omega (arith, k.nexuses)) (omega (arith, k.places)));
          nexuses = same.nexuses ∙ k.nexuses;
          places = same.places ∙ k.places;
        });
      }

  -- that leaves the record as it is
  pub quiet-stored : {a : Answer} → Quietly r here a → {t : Worded} {end : List ℕ} {then : Bool} → t ≡ r → end ≡ sets out (4 * i) (four_of a) → then ≡ well
      → Replaying pages events r₀ out₀ t end then (drop 8 rest) (i + 1)
  quiet-stored q e f g = stored (e ∙ q.left) q.answered f (g ∙ sym (ap (λ (b : Bool). well || b) q.running ∙ or-false well))

  -- any other
  pub call-stored : (asked : Asked) (page : List ℕ) {o : Outcome} {power : Bool} → call_of asked page ≡ here → Made r here o → power ≡ is_power_on asked
      → {t : Worded} {end : List ℕ} {then : Bool} → t ≡ worded o.after → end ≡ sets out (4 * i) (four_of o.answer) → then ≡ (well || power)
      → Replaying pages events r₀ out₀ t end then (drop 8 rest) (i + 1)
  call-stored asked page it m p e f g = stored (e ∙ m.left) m.answered f (g ∙ ap (λ (b : Bool). well || b) (p ∙ sym (is-power asked page) ∙ ap is_power_up it))

-- all events are replayed
pub replay-ends : {pages events : List ℕ} {r₀ : Worded} {out₀ : List ℕ} {r : Worded} {out : List ℕ} {well : Bool} {rest : List ℕ} {i : ℕ} → Replaying pages events r₀ out₀ r out well rest i → length rest < 8
    → (r ≡ after_all r₀ (calls events pages)) × (out ≡ shown (answer_bytes_of r₀ (calls events pages)) out₀)
unfolding after_all answers_of joined
replay-ends {pages = pages} {r = r} {out = out} {rest = rest} {i = i} l h =
    let none = calls-none pages rest h in
    (sym (ap (after_all r) none) ∙ l.runs, sym (ap (λ (x : List Call). sets out (4 * i) (answer_bytes_of r x)) none) ∙ l.gives)
