-- IN and a batch: a part of the reply's buffer is lent, and comes back.
-- Assumes nothing.
use Prim.Native.Nat.{ℕ, ◌+◌, ◌%◌, ◌≤◌}
use mathlib.Core.Path.{◌≡◌, refl, sym, ap, subst, ◌∙◌}
use mathlib.Core.Bool.{true, false}
use mathlib.Core.List.{List, [], ◌++◌}
use native.Mathlib.Omega.{arith}
use lib.ListN.{length, take, drop, length-append, length-drop}
use lib.Seq.{sets, length-take-le}
use Rattle.arrays.proofs.Base.{cases, if-true, if-false}
use Rattle.wire.specs.Numbers.{two}
use Rattle.wire.proofs.Stores.{length-shown}
use Rattle.answer.specs.Answers.{sense_of, is_done}
use Rattle.answer.specs.declared.Answer.{Answer}
use Rattle.answer.specs.declared.Answer.TheVariants.{Done}
use Rattle.device.specs.Record.{State}
use Rattle.device.specs.Words.{Worded}
use Rattle.device_16.specs.Model.{record_of}
use Rattle.drive.specs.declared.Command.{Command}
use Rattle.drive.specs.Calls.{security_in}
use Rattle.drive.specs.Records.{answer_of, after_of}
use Rattle.drive.specs.Outcomes.{response_page, in_length, in_buffer}
use Rattle.drive_16.specs.Outcomes.{in_outcome}
use Rattle.drive_16.specs.declared.InOutcome.{InOutcome}
use Rattle.recording.specs.Verdicts.{verdict_number}
use Rattle.session_16.specs.declared.Ran.{Ran}
use Rattle.batch.specs.Batches.{batch_verdict, batch_buffer}
use Rattle.batch.proofs.Batched.{length-batch}
use Rattle.batch_16.specs.Batches.{Batched}
use Rattle.command.specs.Requests.{lent_most, batch_events, batch_pages, holds_events}
use Rattle.command.specs.Replies.{reply_head_size, Replied, unknown_reply, in_bytes, in_reply, batch_reply}
use Rattle.wire.proofs.Numbers.{two-lower}
use Rattle.wire.proofs.Stores.{part-stored}
use Rattle.stream_16.specs.Stream.{batch_from, part_from}
use Rattle.reply_16.specs.Giving.{in_from, reply_most, reply_of, reply_with, Given}
use Rattle.reply_16.proofs.Giving.{kept, given-as}
use Rattle.reply_16.specs.declared.Reply.{Reply}

-- SECURITY PROTOCOL IN
module _ (w : Worded) (command : Command) where
  abbrev s : State
  s = w.state

  -- the lent buffer keeps its length
  length-lent : (a : Answer) (lent : List ℕ) → length (in_buffer s command a lent) ≡ length lent
  length-lent a lent =
      cases (is_done a)
      (λ t. rw t (length-shown (response_page s command.nexus command.code) lent))
      (λ f. rw f refl)

  -- the lent part came back as e, and the two bytes of the page's full length were stored before it
  pub in-given : (size k : ℕ) (b : List ℕ) {o : InOutcome} {e full end : List ℕ} {r : Reply} → reply_most ≤ length b → size ≤ lent_most → k ≡ size
      → o ≡ in_outcome w command → e ≡ in_buffer s command (answer_of w (security_in command)) (take k (drop in_from b))
      → full ≡ two (o.length % 65536) → end ≡ sets (take in_from b ++ (e ++ drop k (drop in_from b))) reply_head_size full
      → r ≡ reply_with o.after o.answer (2 + size) → Given (in_reply w command (part_from in_from size b)) b r end
  unfolding in_reply in_outcome
  in-given size k b {o} {e} {full} {end} {r} long small same p q v t u =
      let a = answer_of w (security_in command) in
      let lent = part_from in_from size b in
      let gave : e ≡ in_buffer s command a lent = q ∙ ap (λ (j : ℕ). in_buffer s command a (take j (drop in_from b))) same in
      let told : full ≡ two (in_length s command a) = v ∙ ap (λ (x : InOutcome). two (x.length % 65536)) p ∙ two-lower (in_length s command a) in
      let size-lent : length lent ≡ size = length-take-le size (drop in_from b) (omega (arith, length-drop in_from b)) in
      let size-kept : length (in_buffer s command a lent) ≡ size = length-lent a lent ∙ size-lent in
      let size-e : length e ≡ size = ap length gave ∙ size-kept in
      let before : reply_head_size + length full ≡ in_from = ap (λ (x : List ℕ). reply_head_size + length x) told in
      let count : 2 + size ≡ length (in_bytes s command a lent) = sym (length-append (two (in_length s command a)) (in_buffer s command a lent) ∙ ap (λ (j : ℕ). 2 + j) size-kept) in
      record {
        tells = u ∙ ap (λ (x : InOutcome). reply_with x.after x.answer (2 + size)) p ∙ ap (reply_with (record_of (after_of w (security_in command))) a) count;
        holds =
            t ∙ ap (λ (j : ℕ). sets (take in_from b ++ (e ++ drop j (drop in_from b))) reply_head_size full) same
            ∙ part-stored b e full reply_head_size size in_from before (omega arith) size-e
            ∙ (λ i. sets b reply_head_size (told i ++ gave i));
        fits = omega (arith, count);
      }

-- a batch
module _ (w : Worded) (bytes : List ℕ) where
  -- data that hold fewer events than they say
  pub batch-unknown : (b lent : List ℕ) (r : Reply) → holds_events bytes ≡ false → r ≡ reply_of (unknown_reply w) → Given (batch_reply w bytes lent) b r b
  unfolding batch_reply
  batch-unknown b lent r f u =
      let e = if-false (holds_events bytes) _ (unknown_reply w) f in
      kept (batch_reply w bytes lent) b r (ap (λ (x : Replied). x.bytes) e) (u ∙ ap reply_of (sym e))

  -- the lent part came back as e
  pub batch-given : (size k : ℕ) (b : List ℕ) {events pages e : List ℕ} {ran : Ran} {number : ℕ} → reply_most ≤ length b → size ≤ lent_most → k ≡ size → holds_events bytes ≡ true
      → events ≡ batch_events bytes → pages ≡ batch_pages bytes → Batched w events pages (take k (drop batch_from b)) ran e → number ≡ verdict_number ran.verdict
      → Given (batch_reply w bytes (part_from batch_from size b)) b (record { after = ran.after; number = number; sense = sense_of Done; length = size }) (take batch_from b ++ (e ++ drop k (drop batch_from b)))
  unfolding batch_reply
  batch-given size k b {events} {pages} {e} {ran} {number} long small same holds p q g h =
      let lent = part_from batch_from size b in
      let ev = batch_events bytes in
      let pg = batch_pages bytes in
      let sized : Batched w events pages lent ran e = subst (λ (j : ℕ). Batched w events pages (take j (drop batch_from b)) ran e) same g in
      let gave : Batched w ev pg lent ran e = subst (λ (l : List ℕ). Batched w ev l lent ran e) q (subst (λ (l : List ℕ). Batched w l pages lent ran e) p sized) in
      let size-lent : length lent ≡ size = length-take-le size (drop batch_from b) (omega (arith, length-drop batch_from b)) in
      let size-e : length e ≡ size = ap length gave.told ∙ length-batch w ev pg lent ∙ size-lent in
      let count : size ≡ length (batch_buffer w ev pg lent) = sym (length-batch w ev pg lent ∙ size-lent) in
      let told : number ≡ verdict_number (batch_verdict ev pg (length lent)) = h ∙ ap (λ (x : Ran). verdict_number x.verdict) gave.ran in
      given-as (sym (if-true (holds_events bytes) _ (unknown_reply w) holds))
      (record {
        tells = λ i. record { after = (gave.ran i).after; number = told i; sense = sense_of Done; length = count i };
        holds =
            ap (λ (j : ℕ). take batch_from b ++ (e ++ drop j (drop batch_from b))) same
            ∙ part-stored b e [] batch_from size batch_from (omega arith) (omega arith) size-e
            ∙ ap (sets b reply_head_size) gave.told;
        fits = omega (arith, count);
      })
