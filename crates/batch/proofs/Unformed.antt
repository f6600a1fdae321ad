-- From a record that isn't well formed, be it its words alone: each event answers 1 until a power-on.
-- Assumes nothing.
use Prim.Native.Nat.{ℕ, ◌*◌, ◌/◌}
use mathlib.Core.Path.{◌≡◌, refl, ap, ap₂, ◌∙◌}
use mathlib.Core.Bool.{true, false, ◌||◌, or-true}
use mathlib.Core.List.{List, [], ◌∷◌, ◌++◌}
use lib.ListN.{length, drop, replicate}
use Rattle.arrays.proofs.Base.{if-true}
use Rattle.wire.specs.Parts.{joined, Each}
use Rattle.answer.specs.declared.Answer.{Answer}
use Rattle.answer.specs.declared.Answer.TheVariants.{Done, NotWellFormed}
use Rattle.device.specs.Record.{power_on}
use Rattle.device.specs.Words.{Worded, with_words, formed}
use Rattle.drive.specs.Calls.{Call, power_up, is_power_up}
use Rattle.drive.specs.Checks.{checks, answer, known_answer, answer_where}
use Rattle.drive.specs.Effects.{effect_by}
use Rattle.drive.specs.After.{changed_by, carried_out}
use Rattle.drive.specs.Records.{answer_of, after_of, after_all}
use Rattle.recording.specs.Entries.{calls}
use Rattle.session.specs.Answers.{four_of}
use Rattle.session.specs.Records.{answers_of, answer_bytes_of}
use Rattle.session.proofs.Records.{all_append, answers-of-append}
use Rattle.kept.proofs.Records.{unformed-record}
use Rattle.batch.specs.Batches.{batch_record, batch_buffer}
use Rattle.batch.specs.Due.{Room, SoundBatch}
use Rattle.batch.proofs.Batched.{batch-one-by-one}

-- no call of them is a power-on
abbrev pub NoPower : List Call → Type 0
NoPower = Each (λ call. is_power_up call ≡ false)

-- answer 1, once for each call
abbrev pub ones : List Call → List ℕ
ones calls = joined four_of (replicate (length calls) NotWellFormed)

-- the record since power-on, of as many nexuses and places
abbrev pub fresh : Worded → Worded
fresh r = with_words (power_on (length r.state.nexuses) (length r.state.sets))

-- power-on is done whatever the record
power-done : (r : Worded) → answer_of r power_up ≡ Done
unfolding answer_where known_answer checks
power-done r = if-true (formed r || true) Done NotWellFormed (or-true (formed r))

power-after : (r : Worded) → after_of r power_up ≡ fresh r
unfolding checks answer effect_by changed_by carried_out
power-after r = if-true (formed r || true) (fresh r) r (or-true (formed r))

module _ (r : Worded) (unformed : formed r ≡ false) where
  -- the record stays as it is
  pub unformed-run : (calls : List Call) → NoPower calls → after_all r calls ≡ r
  unfolding after_all
  unformed-run [] none = refl
  unformed-run (call ∷ later) none = ap (λ (x : Worded). after_all x later) (unformed-record r call unformed none.0).left ∙ unformed-run later none.1

  -- and each call answers 1
  pub unformed-answers : (calls : List Call) → NoPower calls → answer_bytes_of r calls ≡ ones calls
  unfolding answers_of joined
  unformed-answers [] none = refl
  unformed-answers (call ∷ later) none =
      let same = unformed-record r call unformed none.0 in
      ap₂ (λ (a : Answer) (x : Worded). four_of a ++ answer_bytes_of x later) same.answered same.left
      ∙ ap (λ (l : List ℕ). four_of NotWellFormed ++ l) (unformed-answers later none.1)

  -- until a power-on, which is done: from there on it goes as since power-on
  module _ (before later : List Call) (none : NoPower before) where
    pub mended-run : after_all r (before ++ power_up ∷ later) ≡ after_all (fresh r) later
    unfolding after_all
    mended-run =
        all_append r before (power_up ∷ later)
        ∙ ap (λ (x : Worded). after_all x (power_up ∷ later)) (unformed-run before none)
        ∙ ap (λ (x : Worded). after_all x later) (power-after r)

    pub mended-answers : answer_bytes_of r (before ++ power_up ∷ later) ≡ ones before ++ (four_of Done ++ answer_bytes_of (fresh r) later)
    unfolding answers_of joined
    mended-answers =
        answers-of-append r before (power_up ∷ later)
        ∙ ap₂ (λ (l : List ℕ) (x : Worded). l ++ answer_bytes_of x (power_up ∷ later)) (unformed-answers before none) (unformed-run before none)
        ∙ ap₂ (λ (a : Answer) (x : Worded). ones before ++ (four_of a ++ answer_bytes_of x later)) (power-done r) (power-after r)

  -- ---- the same of a batch

  module _ (events pages buffer : List ℕ) (room : Room events (length buffer)) (sound : SoundBatch events pages) where
    -- without a power-on
    pub record AllOnes : Type 0 where
      pub left : batch_record r events pages buffer ≡ r
      pub told : batch_buffer r events pages buffer ≡ ones (calls events pages) ++ drop (4 * (length events / 8)) buffer

    pub unformed-batch : NoPower (calls events pages) → AllOnes
    unformed-batch none =
        let same = batch-one-by-one r events pages buffer room sound in
        record {
          left = same.left ∙ unformed-run (calls events pages) none;
          told = same.told ∙ ap (λ (l : List ℕ). l ++ drop (4 * (length events / 8)) buffer) (unformed-answers (calls events pages) none);
        }

    -- with one
    pub record Mended (before later : List Call) : Type 0 where
      pub left : batch_record r events pages buffer ≡ after_all (fresh r) later
      pub told : batch_buffer r events pages buffer ≡ (ones before ++ (four_of Done ++ answer_bytes_of (fresh r) later)) ++ drop (4 * (length events / 8)) buffer

    pub mended-batch : (before later : List Call) → calls events pages ≡ before ++ power_up ∷ later → NoPower before → Mended before later
    mended-batch before later split none =
        let same = batch-one-by-one r events pages buffer room sound in
        record {
          left = same.left ∙ ap (after_all r) split ∙ mended-run before later none;
          told = same.told ∙ ap (λ (l : List ℕ). l ++ drop (4 * (length events / 8)) buffer) (ap (answer_bytes_of r) split ∙ mended-answers before later none);
        }
