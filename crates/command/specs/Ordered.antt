-- What is claimed of every command (proofs/Ordered): docs/CONSOLE.md's table of kinds, and its unknown commands, line by line. What each kind of
-- call asks is crate calls' (`kind_0` to `kind-11`).
use Rattle.std.specs.Prelude.{ℕ, ◌≤◌, ◌<◌, ◌≡◌, Bool, true, false, List, [], ◌∷◌, ◌++◌, eqb, length, get_or}
use Rattle.arrays.specs.Words.{bit_of}
use Rattle.wire.specs.Numbers.{word_at, two, wide, eight}
use Rattle.answer.specs.Answers.{number_of, sense_of, is_done, is_field_wrong}
use Rattle.answer.specs.declared.Answer.TheVariants.{Done, PageLengthWrong, FieldWrong}
use Rattle.device.specs.Selecting.{selected, selected_set}
use Rattle.device.specs.Words.{Worded, formed}
use Rattle.status.specs.Reading.{read_status}
use Rattle.places.specs.declared.Event.{Event}
use Rattle.drive.specs.declared.Command.{Command}
use Rattle.drive.specs.declared.Block.{Block}
use Rattle.drive.specs.Calls as calls
use Rattle.drive.specs.Calls.{Call, security_in, security_out, write}
use Rattle.drive.specs.Restoring.{read_value_of}
use Rattle.drive.specs.Records.{answer_of, after_of}
use Rattle.drive.specs.Outcomes.{in_length, in_buffer, decision, read_decision, value_of}
use Rattle.calls.specs.Asking.{asked_of}
use Rattle.calls.specs.declared.Asked.{Asked}
use Rattle.calls.specs.declared.Asked.TheVariants.{PowerOn, In, Out, Write, Read, UnitReset, Happen}
use Rattle.recording.specs.Verdicts.{verdict_number}
use Rattle.batch.specs.Batches.{batch_verdict, batch_record, batch_buffer}
use Rattle.command.specs.Requests.{order_of}
use Rattle.command.specs.Replies.{Replied, values_bytes, status_reply, asked_reply}
use Rattle.command.specs.declared.Request.{Request}
use Rattle.command.specs.declared.Order.TheVariants.{Unknown, Ask, Batch, Serves, ReadStatus, TakeRecord, GiveRecord}

abbrev asks : Request → Asked
asks r = asked_of r.kind r.nexus r.argument r.protocol

-- what a command orders, whatever its other bytes
pub record Ordered (r : Request) : Type 0 where
  -- 0 to 11 but IN and write: that call
  pub call : r.kind ≤ 11 → (r.kind ≡ 1 → ⊥) → (r.kind ≡ 3 → ⊥) → order_of r ≡ Ask (asks r) 0
  -- 1 IN: L is "size of the lent buffer, at most 4,096"
  pub lends : r.kind ≡ 1 → r.length ≤ 4096 → order_of r ≡ Ask (asks r) r.length
  pub lends_above : r.kind ≡ 1 → 4096 < r.length → order_of r ≡ Unknown
  -- 3 write: "1 where the volume supports algorithm 1, else 0"
  pub write : r.kind ≡ 3 → r.argument ≤ 1 → order_of r ≡ Ask (asks r) 0
  pub write_above : r.kind ≡ 3 → 1 < r.argument → order_of r ≡ Unknown
  -- 12 batch: the argument is "size of the lent buffer, at most 4,096"
  pub batch : r.kind ≡ 12 → r.argument ≤ 4096 → order_of r ≡ Batch r.argument
  pub batch_above : r.kind ≡ 12 → 4096 < r.argument → order_of r ≡ Unknown
  -- 13 serves: the argument is the place
  pub serves : r.kind ≡ 13 → order_of r ≡ Serves r.argument
  -- "a kind not in the table (14 to 252)"
  pub other : 13 < r.kind → r.kind < 253 → order_of r ≡ Unknown
  -- 253 the status reader, 254 take, 255 give a device record
  pub status : r.kind ≡ 253 → order_of r ≡ ReadStatus
  pub take : r.kind ≡ 254 → order_of r ≡ TakeRecord
  pub give : r.kind ≡ 255 → order_of r ≡ GiveRecord

-- a reply to a call tells the drive's own answer to it, with its sense, and the record after it
pub record Answers (r : Worded) (call : Call) (x : Replied) : Type 0 where
  pub number : x.number ≡ number_of (answer_of r call)
  pub sense : x.sense ≡ sense_of (answer_of r call)
  pub left : x.after ≡ after_of r call

-- "the number of the faulty byte": two bytes, which give it again
abbrev pub Points : ℕ → List ℕ → Type 0
Points b bytes = (bytes ≡ two b) × (word_at bytes 0 ≡ b)

-- the data of IN: "the page's full length (2; 0 where refused), then the lent buffer whole"; of a write and a read that are done "0 clear, 1
-- external, 2 encrypted; place; algorithm index" and "0 plain, 1 raw, 2 decrypted; place"; of OUT with answer 8 "the number of the faulty byte"; of
-- other refused ones, and of every other call, none
pub record Data (r : Worded) (page lent : List ℕ) : Type 0 where
  pub given : (c : Command) → let a = answer_of r (security_in c) in (asked_reply r (In c) page lent).bytes ≡ two (in_length r.state c a) ++ in_buffer r.state c a lent
  pub written : (n : ℕ) (supported : Bool) → let a = answer_of r (write n supported) in is_done a ≡ true
      → (asked_reply r (Write n supported) page lent).bytes ≡ value_of (decision r.state n a) ∷ selected r.state n ∷ (selected_set r.state n).fields.index ∷ []
  pub unwritten : (n : ℕ) (supported : Bool) → is_done (answer_of r (write n supported)) ≡ false → (asked_reply r (Write n supported) page lent).bytes ≡ []
  pub read : (n : ℕ) (block : Block) → let a = answer_of r (calls.read n block) in is_done a ≡ true
      → (asked_reply r (Read n block) page lent).bytes ≡ read_value_of (read_decision r.state n block a) ∷ selected r.state n ∷ []
  pub unread : (n : ℕ) (block : Block) → is_done (answer_of r (calls.read n block)) ≡ false → (asked_reply r (Read n block) page lent).bytes ≡ []
  pub pointed : (c : Command) (b : ℕ) → answer_of r (security_out c page) ≡ FieldWrong b → Points b (asked_reply r (Out c) page lent).bytes
  pub sent : (c : Command) → is_field_wrong (answer_of r (security_out c page)) ≡ false → (asked_reply r (Out c) page lent).bytes ≡ []
  pub happened : (event : Event) → (asked_reply r (Happen event) page lent).bytes ≡ []
  pub reset : (asked_reply r UnitReset page lent).bytes ≡ []
  pub powered : (asked_reply r PowerOn page lent).bytes ≡ []

-- a reply to the question which nexuses select a place, without sense: 1 of a record that is not well formed, 13 of a place above the last, else
-- "the place's word: bit n is 1 where nexus n selects the place"; the record stays
pub record AnswersServes (r : Worded) (place : ℕ) (x : Replied) : Type 0 where
  pub unformed : formed r ≡ false → (x.number ≡ 1) × (x.bytes ≡ [])
  pub above : formed r ≡ true → length r.state.sets ≤ place → (x.number ≡ 13) × (x.bytes ≡ [])
  pub told : formed r ≡ true → place < length r.state.sets → (x.number ≡ 0) × (x.bytes ≡ eight (get_or r.words place 0))
  pub selects : formed r ≡ true → place < length r.state.sets → length r.state.nexuses ≤ 64
      → (n : ℕ) → n < length r.state.nexuses → bit_of (wide x.bytes) n ≡ eqb (selected r.state n) place
  pub sense : x.sense ≡ sense_of Done
  pub left : x.after ≡ r

-- the data of the status reader: with answer 0 the 57 bytes of the values, with 8 "the number of the faulty byte", with 7 none
pub record ReadsStatus (r : Worded) (page : List ℕ) : Type 0 where
  pub read : (read_status page).answer ≡ Done → (status_reply r page).bytes ≡ values_bytes (read_status page).status
  pub pointed : (b : ℕ) → (read_status page).answer ≡ FieldWrong b → Points b (status_reply r page).bytes
  pub short : (read_status page).answer ≡ PageLengthWrong → (status_reply r page).bytes ≡ []

-- a reply to a batch tells its verdict without sense, the lent buffer whole, and the record after it
pub record AnswersBatch (r : Worded) (events pages lent : List ℕ) (x : Replied) : Type 0 where
  pub number : x.number ≡ verdict_number (batch_verdict events pages (length lent))
  pub sense : x.sense ≡ sense_of Done
  pub told : x.bytes ≡ batch_buffer r events pages lent
  pub left : x.after ≡ batch_record r events pages lent
