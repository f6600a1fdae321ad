-- docs/CONSOLE.md, "Reply: 6 bytes, then data": how a command is answered, and the record after it, for a record of any sizes.
use Rattle.std.specs.Prelude.{ℕ, Bool, List, [], ◌∷◌, ◌++◌, length}
use Rattle.arrays.specs.Base.{when◌then◌else◌, bit}
use Rattle.wire.specs.Numbers.{two, four, eight}
use Rattle.answer.specs.Answers.{number_of, sense_of, faulty_byte_of, is_done, is_field_wrong}
use Rattle.answer.specs.declared.Answer.{Answer}
use Rattle.answer.specs.declared.Answer.TheVariants.{Done, NotWellFormed}
use Rattle.answer.specs.declared.Sense.{Sense}
use Rattle.device.specs.Record.{State}
use Rattle.device.specs.Words.{Worded}
use Rattle.status.specs.Reading.{read_status}
use Rattle.status.specs.declared.Status.{Status}
use Rattle.drive.specs.declared.Command.{Command}
use Rattle.drive.specs.declared.Block.{Block}
use Rattle.drive.specs.Restoring.{read_value_of}
use Rattle.drive.specs.Calls.{Call, power_up, security_in, security_out, write, read, unit_reset, happens}
use Rattle.drive.specs.Records.{answer_of, after_of}
use Rattle.drive.specs.Outcomes.{in_length, in_buffer, decision, decided_place, decided_index, read_decision, value_of}
use Rattle.drive.specs.Serving.{served_answer, served_word}
use Rattle.record.specs.Bytes.{kads_bytes, record_bytes}
use Rattle.record.specs.Reading.{record_read}
use Rattle.record.specs.Good.{good_bytes}
use Rattle.calls.specs.declared.Asked.{Asked}
use Rattle.calls.specs.declared.Asked.TheVariants.{PowerOn, In, Out, Write, Read, UnitReset, Happen}
use Rattle.recording.specs.Verdicts.{verdict_number}
use Rattle.batch.specs.Batches.{batch_verdict, batch_record, batch_buffer}
use Rattle.command.specs.Requests.{order_of, batch_events, batch_pages, holds_events}
use Rattle.command.specs.declared.Request.{Request}
use Rattle.command.specs.declared.Order.{Order}
use Rattle.command.specs.declared.Order.TheVariants.{Unknown, Ask, Batch, Serves, ReadStatus, TakeRecord, GiveRecord}

-- "Reply: 6 bytes, then data"
abbrev pub reply_head_size : ℕ
reply_head_size = 6

-- "0 answer number; 1, 2, 3 sense key, ASC, ASCQ; 4–5 length M"
abbrev pub reply_head : ℕ → Sense → ℕ → List ℕ
reply_head number sense length = number ∷ sense.key ∷ sense.asc ∷ sense.ascq ∷ two length

-- a reply's number, sense and data, and the record after the command
pub record Replied : Type 0 where
  pub number : ℕ
  pub sense : Sense
  pub bytes : List ℕ
  pub after : Worded

-- the bytes of a reply
abbrev pub reply_bytes : Replied → List ℕ
reply_bytes x = reply_head x.number x.sense (length x.bytes) ++ x.bytes

-- one with that answer
abbrev pub answered : Answer → List ℕ → Worded → Replied
answered a bytes r = record { number = number_of a; sense = sense_of a; bytes = bytes; after = r }

-- an unknown command "is answered 255 with no sense and M 0, the record stays"
abbrev pub unknown_number : ℕ
unknown_number = 255

abbrev pub unknown_reply : Worded → Replied
unknown_reply r = record { number = unknown_number; sense = sense_of Done; bytes = []; after = r }

-- data that are given where the answer is 0
abbrev pub when_done : Answer → List ℕ → List ℕ
when_done a bytes = when is_done a then bytes else []

-- a page that is answered 8: "the number of the faulty byte"
abbrev pub pointer : Answer → List ℕ
pointer a = when is_field_wrong a then two (faulty_byte_of a) else []

-- a call of the drive's that gives its answer alone
abbrev pub called : Worded → Call → Replied
called r call = answered (answer_of r call) [] (after_of r call)

-- IN, with that answer: "the page's full length (2; 0 where refused), then the lent buffer whole"
abbrev pub in_bytes : State → Command → Answer → List ℕ → List ℕ
in_bytes s command a lent = two (in_length s command a) ++ in_buffer s command a lent

unfoldable pub in_reply : Worded → Command → List ℕ → Replied
in_reply r command lent =
    let a = answer_of r (security_in command) in
    answered a (in_bytes r.state command a lent) (after_of r (security_in command))

-- OUT
unfoldable pub out_reply : Worded → Command → List ℕ → Replied
out_reply r command page =
    let a = answer_of r (security_out command page) in
    answered a (pointer a) (after_of r (security_out command page))

-- a write, with that answer: "0 clear, 1 external, 2 encrypted; place; algorithm index"
abbrev pub write_bytes : State → ℕ → Answer → List ℕ
write_bytes s n a = value_of (decision s n a) ∷ decided_place s n a ∷ decided_index s n a ∷ []

unfoldable pub write_reply : Worded → ℕ → Bool → Replied
write_reply r n supported =
    let a = answer_of r (write n supported) in
    answered a (when_done a (write_bytes r.state n a)) (after_of r (write n supported))

-- a read, with that answer: "0 plain, 1 raw, 2 decrypted; place"
abbrev pub read_bytes : State → ℕ → Block → Answer → List ℕ
read_bytes s n block a = read_value_of (read_decision s n block a) ∷ decided_place s n a ∷ []

unfoldable pub read_reply : Worded → ℕ → Block → Replied
read_reply r n block =
    let a = answer_of r (read n block) in
    answered a (when_done a (read_bytes r.state n block a)) (after_of r (read n block))

-- the question which nexuses select a place: "the place's word: bit n is 1 where nexus n selects the place"; the record stays
unfoldable pub serves_reply : Worded → (place : ℕ) → Replied
serves_reply r place =
    let a = served_answer r place in
    answered a (when_done a (eight (served_word r place a))) r

-- "nexus scope, set scope, encryption, decryption, index, instance number (4), CEEMS, RDMD": the 11 bytes before the U-KAD's length
abbrev pub values_head : Status → List ℕ
values_head v =
    v.nexus_scope ∷ v.set_scope ∷ v.encryption ∷ v.decryption ∷ v.index ∷ (four v.number ++ v.ceems ∷ bit v.rdmd ∷ [])

-- "U-KAD length, 32 bytes, A-KAD length, 12 bytes"
abbrev pub values_bytes : Status → List ℕ
values_bytes v = values_head v ++ kads_bytes v.kads

-- the status reader, where the answer is 0, and where it is another
unfoldable pub status_reply : Worded → List ℕ → Replied
status_reply r page =
    let read = read_status page in
    answered read.answer (when is_done read.answer then values_bytes read.status else pointer read.answer) r

-- "Data of another length, or with a yes/no byte above 1, are answered 1, and the record stays."
unfoldable pub take_reply : Worded → List ℕ → Replied
take_reply r bytes =
    let nexuses = length r.state.nexuses in
    let places = length r.state.sets in
    when good_bytes nexuses places bytes then answered Done [] (record_read nexuses places bytes) else answered NotWellFormed [] r

unfoldable pub give_reply : Worded → Replied
give_reply r = answered Done (record_bytes r) r

-- a call of the drive's, with the command's data and the buffer that is lent to IN
unfoldable pub asked_reply : Worded → Asked → (page lent : List ℕ) → Replied
asked_reply r PowerOn page lent = called r power_up
asked_reply r (In command) page lent = in_reply r command lent
asked_reply r (Out command) page lent = out_reply r command page
asked_reply r (Write n supported) page lent = write_reply r n supported
asked_reply r (Read n block) page lent = read_reply r n block
asked_reply r UnitReset page lent = called r unit_reset
asked_reply r (Happen event) page lent = called r (happens event)

-- a batch: its verdict's number, no sense, "the lent buffer whole"; "unknown where E runs past the data"
unfoldable pub batch_reply : Worded → (bytes lent : List ℕ) → Replied
batch_reply r bytes lent =
    let events = batch_events bytes in
    let pages = batch_pages bytes in
    when holds_events bytes
    then record { number = verdict_number (batch_verdict events pages (length lent)); sense = sense_of Done; bytes = batch_buffer r events pages lent; after = batch_record r events pages lent }
    else unknown_reply r

-- what an order is answered, with the command's data and the buffer that is lent to it, which has as many bytes as it says
unfoldable pub obeyed : Worded → Order → (page lent : List ℕ) → Replied
obeyed r Unknown page lent = unknown_reply r
obeyed r (Ask asked size) page lent = asked_reply r asked page lent
obeyed r (Batch size) page lent = batch_reply r page lent
obeyed r (Serves place) page lent = serves_reply r place
obeyed r ReadStatus page lent = status_reply r page
obeyed r TakeRecord page lent = take_reply r page
obeyed r GiveRecord page lent = give_reply r

abbrev pub replied : Worded → Request → (page lent : List ℕ) → Replied
replied r request page lent = obeyed r (order_of request) page lent
