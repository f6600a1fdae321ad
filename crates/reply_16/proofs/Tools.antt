-- The replies of the status reader, and of a record taken and given.
-- Assumes nothing.
use Prim.Native.Nat.{ℕ, ◌+◌, ◌≤◌}
use mathlib.Core.Path.{◌≡◌, refl, sym, ap, ◌∙◌}
use mathlib.Core.Bool.{Bool, true, false}
use mathlib.Core.List.{List, [], ◌++◌}
use lib.ListN.{length, length-append}
use lib.Seq.{sets}
use Rattle.arrays.proofs.Base.{cases, if-true, if-false}
use Rattle.wire.proofs.Stores.{sets-append}
use Rattle.answer.specs.declared.Answer.{Answer}
use Rattle.answer.specs.declared.Refusal.{Refusal}
use Rattle.answer.specs.declared.Answer.TheVariants.{Done, NotWellFormed}
use Rattle.answer.proofs.Numbers.{done-is}
use Rattle.std.specs.Prelude.{Result, Ok, Err, is_ok}
use Rattle.device.specs.Words.{Worded}
use Rattle.device_16.specs.Model.{record_of}
use Rattle.status.specs.Reading.{read_status, told}
use Rattle.status.specs.declared.Status.{Status}
use Rattle.status.proofs.Reading.{told-done, told-fault}
use Rattle.sizes_16.specs.Sizes.{nexus_count, place_count}
use Rattle.record.specs.Bytes.{kads_bytes, record_bytes}
use Rattle.record.specs.Reading.{record_read}
use Rattle.record.specs.Good.{good_bytes, record_taken}
use Rattle.record_16.specs.Loading.{loaded}
use Rattle.record_16.proofs.Loading.{loaded-good, loaded-taken}
use Rattle.device_16.specs.declared.Record.{Record}
use Rattle.command.specs.Replies.{reply_head_size, answered, when_done, pointer, values_head, values_bytes, status_reply, take_reply, give_reply}
use Rattle.reply_16.specs.Giving.{reply_most, reply_of, reply_with, Given}
use Rattle.reply_16.specs.declared.Reply.{Reply}
use Rattle.reply_16.proofs.Giving.{given-as, stored}

-- the status reader
module _ (w : Worded) (page : List ℕ) where
  -- refused: the reply to a page
  pub status-refused : {x : Refusal} {b end : List ℕ} {r : Reply} → Err x ≡ told (read_status page) → Given (answered x.answer (pointer x.answer) w) b r end → Given (status_reply w page) b r end
  unfolding status_reply
  status-refused {x} k g =
      let (f, e) = told-fault (read_status page) x (sym k) in
      given-as
      (ap (λ (a : Answer). answered a (pointer a) w) (sym e) ∙ ap (λ (l : List ℕ). answered (read_status page).answer l w) (sym (if-false _ _ _ f))) g

  -- read: the values are stored, then the key-associated data
  pub status-given : (status : Status) (b : List ℕ) (at count : ℕ) {head rest first end : List ℕ} {r : Reply} → Ok status ≡ told (read_status page)
      → head ≡ values_head status → rest ≡ kads_bytes status.kads → reply_head_size + length head ≡ at → length head + length rest ≡ count → reply_head_size + count ≤ reply_most
      → first ≡ sets b reply_head_size head → end ≡ sets first at rest → r ≡ reply_with (record_of w) Done count → Given (status_reply w page) b r end
  unfolding status_reply
  status-given status b at count {head} {rest} {first} {end} {r} d h k size total small t v u =
      let (done, is) = told-done (read_status page) status (sym d) in
      let values = values_bytes (read_status page).status in
      let bytes : head ++ rest ≡ values = (λ i. h i ++ k i) ∙ ap values_bytes (sym is) in
      let counted : count ≡ length values = sym total ∙ sym (length-append head rest) ∙ ap length bytes in
      stored (read_status page).answer _ w values b count (if-true _ _ _ done) counted small
      (v ∙ ap (λ (x : List ℕ). sets x at rest) t ∙ ap (λ (j : ℕ). sets (sets b reply_head_size head) j rest) (sym size)
      ∙ sets-append b reply_head_size head rest ∙ ap (sets b reply_head_size) bytes)
      (u ∙ ap (λ (a : Answer). reply_with (record_of w) a count) (sym (done-is (read_status page).answer done)))

-- a record taken
module _ (w : Worded) (bytes : List ℕ) {l : Result Record Record} (nexuses : length w.state.nexuses ≡ nexus_count) (places : length w.state.sets ≡ place_count) (p : l ≡ loaded bytes) where
  -- the test, by the record's own sizes
  tested : (b : Bool) → is_ok l ≡ b → good_bytes (length w.state.nexuses) (length w.state.sets) bytes ≡ b
  tested b e = rw (nexuses, places) (sym (ap is_ok p ∙ loaded-good bytes) ∙ e)

  pub take-refused : (r : Reply) (new : Record) → l ≡ Err new → r ≡ reply_with (record_of w) NotWellFormed 0 → r ≡ reply_of (take_reply w bytes)
  unfolding take_reply
  take-refused r new e u = u ∙ ap reply_of (sym (if-false _ _ (answered NotWellFormed [] w) (tested false (ap is_ok e))))

  pub take_done : (r : Reply) (taken : Record) → l ≡ Ok taken → r ≡ reply_with taken Done 0 → r ≡ reply_of (take_reply w bytes)
  unfolding take_reply record_taken
  take_done r taken e u =
      let is-good : good_bytes nexus_count place_count bytes ≡ true = sym (ap is_ok p ∙ loaded-good bytes) ∙ ap is_ok e in
      let same : record_read nexus_count place_count bytes ≡ record_read (length w.state.nexuses) (length w.state.sets) bytes = rw (nexuses, places) refl in
      u ∙ ap (λ (x : Record). reply_with x Done 0) (loaded-taken bytes taken (sym p ∙ e))
      ∙ ap (λ (x : Worded). reply_with (record_of x) Done 0) (if-true _ _ _ is-good ∙ same)
      ∙ ap reply_of (sym (if-true _ _ (answered NotWellFormed [] w) (tested true (ap is_ok e))))

-- neither way has data
pub taken_none : (w : Worded) (bytes : List ℕ) → (take_reply w bytes).bytes ≡ []
unfolding take_reply
taken_none w bytes = cases (good_bytes (length w.state.nexuses) (length w.state.sets) bytes) (λ t. rw t refl) (λ f. rw f refl)

-- the record given
pub record-given : (w : Worded) {bytes : List ℕ} → bytes ≡ record_bytes w → answered Done (when_done Done bytes) w ≡ give_reply w
unfolding give_reply
record-given w e = ap (λ (l : List ℕ). answered Done l w) e
