-- Which hosts a set serves.
-- Assumes nothing.
use Prim.Native.Nat.{ℕ, ◌≤◌, ◌<◌}
use mathlib.Core.Path.{◌≡◌, refl, ap, ◌∙◌}
use mathlib.Core.Bool.{true, false}
use borrow.Author.Tests.{le-leb, lt-leb}
use lib.Dec.{eqb}
use lib.ListN.{length, get_or}
use Rattle.arrays.specs.Words.{bit_of}
use Rattle.answer.specs.declared.Answer.TheVariants.{Done, NotWellFormed, PlaceAbove}
use Rattle.device.specs.Selecting.{selected}
use Rattle.device.specs.Words.{Worded, formed}
use Rattle.words.proofs.Words.{formed-is, bit-selects}
use Rattle.drive.specs.Serving.{served_answer, served_word}

-- the question answered: the word that is given has bit n exactly for the nexuses that select the place
pub record Told (r : Worded) (place : ℕ) : Type 0 where
  pub answered : served_answer r place ≡ Done
  pub serves : (n : ℕ) → n < length r.state.nexuses → bit_of (served_word r place (served_answer r place)) n ≡ eqb (selected r.state n) place

module _ (r : Worded) (place : ℕ) where
  -- a place of a well-formed record
  pub served-told : formed r ≡ true → place < length r.state.sets → Told r place
  unfolding served_answer
  served-told t h =
      let is : served_answer r place ≡ Done = rw (t, lt-leb (length r.state.sets) place h) refl in
      let same = ap (λ (x : Worded). get_or x.words place 0) (formed-is r t).1 in
      record {
        answered = is;
        serves = λ n l. ap (λ a. bit_of (served_word r place a) n) is ∙ ap (λ (w : ℕ). bit_of w n) same ∙ bit-selects r.state place n h l;
      }

  -- a place above the last: 13
  pub served-above : formed r ≡ true → length r.state.sets ≤ place → served_answer r place ≡ PlaceAbove
  unfolding served_answer
  served-above t h = rw (t, le-leb (length r.state.sets) place h) refl

  -- a record that is not well formed: 1
  pub served-unformed : formed r ≡ false → served_answer r place ≡ NotWellFormed
  unfolding served_answer
  served-unformed f = rw f refl
