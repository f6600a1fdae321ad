-- Two batches in a row.
-- Assumes nothing.
use Prim.Native.Nat.{ℕ, ◌+◌, ◌*◌, ◌/◌}
use mathlib.Core.Path.{◌≡◌, sym, ap, ap₂, ◌∙◌}
use mathlib.Core.Bool.{◌&&◌}
use mathlib.Core.List.{List, [], ◌++◌, append_assoc, append-nil}
use native.Mathlib.Nat.{add-zero}
use native.Mathlib.Omega.{arith}
use lib.ListN.{length, take, drop, length-append, length-drop}
use lib.Seq.{drop-drop, length-take-le}
use Rattle.arrays.proofs.Base.{both}
use Rattle.arrays.proofs.Laws.{all_append, drop-take}
use Rattle.device.specs.Words.{Worded}
use Rattle.drive.specs.Calls.{Call}
use Rattle.drive.specs.Records.{after_all}
use Rattle.recording.specs.Entries.{entries, sound, all_sound, calls}
use Rattle.recording.proofs.Entries.{entries-append, length-calls, calls-append}
use Rattle.recording.proofs.Exactly.{events-told, events-sound}
use Rattle.session.specs.Records.{answer_bytes_of}
use Rattle.session.proofs.Records as records
use Rattle.batch.specs.Batches.{batch_record, batch_buffer}
use Rattle.batch.specs.Due.{Room, SoundBatch}
use Rattle.batch.proofs.Batched.{batch-one-by-one}

-- A batch in two: the first answers go to the first bytes of the buffer, the others to the rest of it.
pub record InARow (r : Worded) (events pages first first_pages later later_pages buffer : List ℕ) : Type 0 where
  pub left : batch_record r events pages buffer
      ≡ batch_record (batch_record r first first_pages (take (4 * (length first / 8)) buffer)) later later_pages (drop (4 * (length first / 8)) buffer)
  pub told : batch_buffer r events pages buffer
      ≡ batch_buffer r first first_pages (take (4 * (length first / 8)) buffer)
      ++ batch_buffer (batch_record r first first_pages (take (4 * (length first / 8)) buffer)) later later_pages (drop (4 * (length first / 8)) buffer)

-- nothing is past the first n
drop-first : (n : ℕ) (l : List ℕ) → drop n (take n l) ≡ []
drop-first n l = ap (λ (k : ℕ). drop n (take k l)) (sym (add-zero n)) ∙ drop-take n 0 l

-- A batch whose calls are those of a batch and then those of another, each with page bytes of its own, equals the two in a row.
module _ (r : Worded) (events pages first first_pages later later_pages buffer : List ℕ) (joined : calls events pages ≡ calls first first_pages ++ calls later later_pages) where
  abbrev first_calls : List Call
  first_calls = calls first first_pages

  abbrev later_calls : List Call
  later_calls = calls later later_pages

  abbrev n : ℕ
  n = length first / 8

  abbrev m : ℕ
  m = length later / 8

  abbrev first_buffer : List ℕ
  first_buffer = take (4 * n) buffer

  abbrev later_buffer : List ℕ
  later_buffer = drop (4 * n) buffer

  counted : length events / 8 ≡ n + m
  counted = omega (arith, ap length joined, length-append first_calls later_calls, length-calls pages events, length-calls first_pages first, length-calls later_pages later)

  module _ (room : Room events (length buffer)) where
    first-room : Room first (length first_buffer)
    first-room =
        let size = length-take-le (4 * n) buffer (omega (arith, room.holds, counted)) in
        record { few = omega (arith, room.few, counted); holds = omega (arith, size) }

    later-room : Room later (length later_buffer)
    later-room = record { few = omega (arith, room.few, counted); holds = omega (arith, room.holds, counted, length-drop (4 * n) buffer) }

    pub batches-in-a-row : SoundBatch events pages → SoundBatch first first_pages → SoundBatch later later_pages
        → InARow r events pages first first_pages later later_pages buffer
    batches-in-a-row sound one two =
        let between = batch_record r first first_pages first_buffer in
        let whole = batch-one-by-one r events pages buffer room sound in
        let a = batch-one-by-one r first first_pages first_buffer first-room one in
        let b = batch-one-by-one between later later_pages later_buffer later-room two in
        let there : 4 * (n + m) ≡ 4 * n + 4 * m = omega arith in
        let beyond : drop (4 * (n + m)) buffer ≡ drop (4 * m) later_buffer = ap (λ (k : ℕ). drop k buffer) there ∙ sym (drop-drop (4 * m) (4 * n) buffer) in
        let first_told : batch_buffer r first first_pages first_buffer ≡ answer_bytes_of r first_calls =
        a.told ∙ ap (λ (l : List ℕ). answer_bytes_of r first_calls ++ l) (drop-first (4 * n) buffer) ∙ append-nil (answer_bytes_of r first_calls) in
        let later_told : batch_buffer between later later_pages later_buffer ≡ answer_bytes_of (after_all r first_calls) later_calls ++ drop (4 * (n + m)) buffer =
        b.told ∙ ap₂ (λ (x : Worded) (l : List ℕ). answer_bytes_of x later_calls ++ l) a.left (sym beyond) in
        record {
          left = whole.left ∙ ap (after_all r) joined ∙ records.all_append r first_calls later_calls ∙ sym (b.left ∙ ap (λ (x : Worded). after_all x later_calls) a.left);
          told =
              whole.told
              ∙ ap₂ (λ (l : List Call) (k : ℕ). answer_bytes_of r l ++ drop (4 * k) buffer) joined counted
              ∙ ap (λ (l : List ℕ). l ++ drop (4 * (n + m)) buffer) (records.answers-of-append r first_calls later_calls)
              ∙ append_assoc (answer_bytes_of r first_calls) (answer_bytes_of (after_all r first_calls) later_calls) (drop (4 * (n + m)) buffer)
              ∙ sym (ap₂ (λ (k l : List ℕ). k ++ l) first_told later_told);
        }

-- ---- with the same page bytes

-- the events of two sound batches are sound together
pub joined-sound : (first later pages : List ℕ) → SoundBatch first pages → SoundBatch later pages → SoundBatch (first ++ later) pages
joined-sound first later pages one two =
    let count = length pages in
    let split : all_sound count (entries (first ++ later)) ≡ (all_sound count (entries first) && all_sound count (entries later)) =
    ap (all_sound count) (entries-append later first one.whole) ∙ all_append (sound count) (entries first) (entries later) in
    let each = split ∙ both (all_sound count (entries first)) (all_sound count (entries later)) (events-sound count (entries first) one.each) (events-sound count (entries later) two.each) in
    record { whole = omega (arith, one.whole, two.whole, length-append first later); each = events-told count (entries (first ++ later)) each }

-- So two batches in a row equal one, where 64 and the buffer allow it.
pub batches-join : (r : Worded) (first later pages buffer : List ℕ) → Room (first ++ later) (length buffer) → SoundBatch first pages → SoundBatch later pages
    → InARow r (first ++ later) pages first pages later pages buffer
batches-join r first later pages buffer room one two =
    batches-in-a-row r (first ++ later) pages first pages later pages buffer (calls-append pages first later one.whole) room (joined-sound first later pages one two) one two
