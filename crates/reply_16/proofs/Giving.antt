-- A reply as the code gives it: its head as a value, its data stored in the buffer.
-- Assumes nothing.
use Prim.Native.Nat.{ℕ, ◌+◌, ◌%◌, ◌<◌, ◌≤◌}
use mathlib.Core.Path.{◌≡◌, refl, sym, ap, subst, ◌∙◌}
use mathlib.Core.Bool.{Bool}
use mathlib.Core.List.{List, [], ◌∷◌}
use native.Mathlib.Omega.{arith}
use lib.ListN.{length}
use lib.Seq.{sets}
use Rattle.std.specs.Prelude.{Ok, Err}
use Rattle.arrays.proofs.Base.{cases, if-elim, if-true, if-false}
use Rattle.wire.specs.Numbers.{eight}
use Rattle.answer.specs.Answers.{is_done, refusal_of}
use Rattle.answer.specs.declared.Answer.{Answer}
use Rattle.answer.specs.declared.Refusal.{Refusal}
use Rattle.answer.specs.declared.Answer.TheVariants.{Done}
use Rattle.answer.proofs.Numbers.{done-is}
use Rattle.device.specs.Record.{State}
use Rattle.device.specs.Words.{Worded}
use Rattle.device.proofs.Selecting.{selected-within}
use Rattle.device_16.specs.Model.{worded, record_of}
use Rattle.drive.specs.declared.Command.{Command}
use Rattle.drive.specs.declared.Block.{Block}
use Rattle.drive.specs.Restoring.{read_value_of}
use Rattle.drive.specs.Calls.{security_out, write, read}
use Rattle.drive.specs.Records.{answer_of}
use Rattle.drive.specs.Outcomes.{value_of, decided_place}
use Rattle.drive.specs.Serving.{served_answer, served_word}
use Rattle.drive_16.specs.Outcomes.{outcome, write_outcome, read_outcome, served}
use Rattle.drive_16.specs.declared.Outcome.{Outcome}
use Rattle.drive_16.specs.declared.WriteOutcome.{WriteOutcome}
use Rattle.drive_16.specs.declared.ReadOutcome.{ReadOutcome}
use Rattle.command.specs.Replies.{reply_head_size, Replied, answered, when_done, pointer, out_reply, write_reply, read_reply, serves_reply}
use Rattle.reply_16.specs.Giving.{reply_most, reply_of, reply_with, Given}
use Rattle.reply_16.specs.declared.Reply.{Reply}

-- a reply without data leaves the buffer as it was
pub kept : (x : Replied) (buffer : List ℕ) (r : Reply) → x.bytes ≡ [] → r ≡ reply_of x → Given x buffer r buffer
kept x buffer r e p = record { tells = p; holds = sym (ap (sets buffer reply_head_size) e); fits = omega (arith, ap length e) }

-- what is given as one reply is given as another that equals it
pub given-as : {x y : Replied} {buffer after : List ℕ} {r : Reply} → x ≡ y → Given x buffer r after → Given y buffer r after
given-as {x} {y} {buffer} {after} {r} e g = subst (λ (z : Replied). Given z buffer r after) e g

-- a reply to an answer, with its data
module _ (a : Answer) (gives : List ℕ) (w : Worded) where
  -- where there are none
  pub stopped : (b : List ℕ) (r : Reply) → gives ≡ [] → r ≡ reply_with (record_of w) a 0 → Given (answered a gives w) b r b
  stopped b r none u = kept (answered a gives w) b r none (u ∙ ap (λ (l : List ℕ). reply_with (record_of w) a (length l)) (sym none))

  -- where they are these, which are stored
  pub stored : (bytes b : List ℕ) (count : ℕ) {end : List ℕ} {r : Reply} → gives ≡ bytes → count ≡ length bytes → reply_head_size + count ≤ reply_most
      → end ≡ sets b reply_head_size bytes → r ≡ reply_with (record_of w) a count → Given (answered a gives w) b r end
  stored bytes b count given size small t u = record {
    tells = u ∙ ap (reply_with (record_of w) a) (size ∙ ap length (sym given));
    holds = t ∙ ap (sets b reply_head_size) (sym given);
    fits = omega (arith, size, ap length given);
  }

-- a page that is sent
pub out-given : (w : Worded) (command : Command) (page : List ℕ) {o : Outcome} → o ≡ outcome w (security_out command page)
    → answered o.answer (pointer o.answer) (worded o.after) ≡ out_reply w command page
unfolding out_reply outcome
out-given w command page p = rw p refl

-- the place that is told is a byte
place_byte : (s : State) (n : ℕ) (a : Answer) → 0 < length s.sets → length s.sets ≤ 256 → decided_place s n a % 256 ≡ decided_place s n a
place_byte s n a some few =
    if-elim (λ (p : ℕ). p % 256 ≡ p) (is_done a) (λ t. omega (arith, selected-within s n some)) (λ f. refl)

-- the write decision: value, place and index
pub write-given : (w : Worded) (n : ℕ) (supported : Bool) {o : WriteOutcome} {value : ℕ} → 0 < length w.state.sets → length w.state.sets ≤ 256
    → o ≡ write_outcome w n supported → value ≡ value_of o.decision
    → answered o.answer (when_done o.answer (value ∷ o.place % 256 ∷ o.index ∷ [])) (worded o.after) ≡ write_reply w n supported
unfolding write_reply write_outcome
write-given w n supported some few p v = rw (v, p, place_byte w.state n (answer_of w (write n supported)) some few) refl

-- the read decision: value and place
pub read-given : (w : Worded) (n : ℕ) (block : Block) {o : ReadOutcome} {value : ℕ} → 0 < length w.state.sets → length w.state.sets ≤ 256
    → o ≡ read_outcome w n block → value ≡ read_value_of o.decision
    → answered o.answer (when_done o.answer (value ∷ o.place % 256 ∷ [])) (worded o.after) ≡ read_reply w n block
unfolding read_reply read_outcome
read-given w n block some few p v = rw (v, p, place_byte w.state n (answer_of w (read n block)) some few) refl

-- the question: the place's word, or the answer that refuses
module _ (w : Worded) (place : ℕ) {b : List ℕ} {r : Reply} where
  pub serves-given : {word : ℕ} {bytes end : List ℕ} → Ok word ≡ served w place → bytes ≡ eight word → Given (answered Done bytes w) b r end → Given (serves_reply w place) b r end
  unfolding serves_reply served
  serves-given {word} {bytes} e p g =
      let a = served_answer w place in
      cases (is_done a)
      (λ t.
      let v : Ok word ≡ Ok (served_word w place a) = e ∙ if-true _ _ _ t in
      let is : word ≡ served_word w place a = cc in
      given-as
      (ap (λ (l : List ℕ). answered Done l w) (p ∙ ap eight is ∙ sym (if-true _ _ _ t)) ∙ ap (λ (x : Answer). answered x (when_done a (eight (served_word w place a))) w) (sym (done-is a t))) g)
      (λ f. let v : Ok word ≡ Err (refusal_of a) = e ∙ if-false _ _ _ f in cc)

  pub serves-refused : {x : Refusal} → Err x ≡ served w place → r ≡ reply_with (record_of w) x.answer 0 → Given (serves_reply w place) b r b
  unfolding serves_reply served
  serves-refused {x} e u =
      let due = served_answer w place in
      cases (is_done due)
      (λ t. let v : Err x ≡ Ok (served_word w place due) = e ∙ if-true _ _ _ t in cc)
      (λ f.
      let v : Err x ≡ Err (refusal_of due) = e ∙ if-false _ _ _ f in
      let is : x ≡ refusal_of due = cc in
      given-as (ap (λ (y : Refusal). answered y.answer [] w) is ∙ ap (λ (l : List ℕ). answered due l w) (sym (if-false _ _ _ f))) (stopped x.answer [] w b r refl u))
