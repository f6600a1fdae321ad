-- What is proved beyond the promises of single functions. Each line passes on a theorem under the name by which docs/THEOREMS.md cites it.

-- The table of answers is document 01's with document 02's rows, row by row: number, sense bytes, record change, and of 8 the faulty byte.
pub use Rattle.answer.proofs.Table.{table as answers-as-printed}
-- Every call has an answer of that table with its row's sense, and a refused one writes no byte.
pub use Rattle.drive.proofs.Refusals.{every-call-answers}
-- A refusal changes what its row says of its sender's marks, and nothing else.
pub use Rattle.drive.proofs.Refusals.{refusals-change, refusals-keep}
-- On a well-formed record the part of a call after check 1 answers as the call does.
pub use Rattle.drive.proofs.Effects.{known-agrees}
-- A number in decimal is digits, at least one, that give the number when they are read, and no zero stands before others.
pub use Rattle.text.proofs.Decimal.{decimal-spells}
pub use Rattle.text.proofs.Worked.{numbers-computed}
-- Key-associated data written and read back are the same; a list that is accepted, read and written again, has the same bytes.
pub use Rattle.kad.proofs.RoundTrip.{read-of-written as kad-read-of-written, written-of-read as kad-written-of-read}
-- Document 02, request 6: where the page check, or the status reader, answers 8 with a byte, a rule of 01 breaks there and none at a lower byte, over
-- one list of the rules in 01's order; where it answers 0, or 9, none breaks; the byte is one of the page's. And of a page of the right length: 8 is
-- answered wherever a rule breaks, and it is taken, but for want of room, wherever none does.
pub use Rattle.page.proofs.Pointing.{page-judged}
pub use Rattle.status.proofs.Pointing.{status-judged}
-- The right length, and those rules, in plain relations: they break at a byte exactly if the page is wrong there.
pub use Rattle.wire.proofs.Lowest.{length-due}
pub use Rattle.kad.proofs.Pointing.{descriptor-due, list-faults}
pub use Rattle.page.proofs.Faults.{page-faults}
pub use Rattle.status.proofs.Faults.{status-faults}
-- The same of a page that is sent, over every record and nexus; and no other call is answered 8.
pub use Rattle.drive.proofs.Pointing.{page-points, only-pages-point}
-- Its sentences, and every two faults of a page, from their bytes; and through the calls.
pub use Rattle.page.proofs.PointingTable.{sentences-computed as page-sentences-computed, pairs-computed as page-faults-computed}
pub use Rattle.status.proofs.PointingTable.{sentences-computed as status-sentences-computed, pairs-computed as status-faults-computed}
pub use Rattle.drive.proofs.PointingTable.{pointing, pointing-proved}
-- Document 02, request 2: a page is refused at byte 5 exactly where RDMC or CEEM is wrong.
pub use Rattle.page.proofs.Byte5.{byte-5-due, byte-5-told}
-- All its pairs, and the lab's page, from their bytes.
pub use Rattle.page.proofs.CeemTable.{pairs-computed, lab-computed}
-- Where none of answers 1 to 6 is due, a page's own check decides, and then check 10; so request 2 holds of every record and nexus. A LOCAL
-- page that makes a set, and that its own check takes, is answered 10 where there is no room for it, else 0.
pub use Rattle.drive.proofs.Sending.{page-decides, ceem-refused, place-decides}
-- Over every record and nexus: its present place, else the lowest empty one, else the lowest whose owner has lock 0, else none.
pub use Rattle.places.proofs.Finding.{room-due}
-- A status page written and read back shows the same values; one that our reader accepts, written again, has the same bytes, and
-- its values are in range; what is written for a well-formed record is accepted.
pub use Rattle.status.proofs.RoundTrip.{read-of-written as status-read-of-written, written-of-read as status-written-of-read, read-in-range, well-formed-accepted, well-formed-read}
-- A record written as bytes and read is the same; bytes that are taken for a record, written again, are the same bytes; and those are
-- the bytes of the right length whose yes/no bytes are 0 or 1.
pub use Rattle.record.proofs.RoundTrip.{read-of-written as record-read-of-written, written-of-taken as record-written-of-taken}
pub use Rattle.record.proofs.Formed.{good-is-formed}
-- P1 to P10 hold of the definitions, pages as bytes, and further rows for the errors that look right.
pub use Rattle.drive.proofs.Table.{table, proved, further, further-proved}
-- Document 02, request 4: of any record with up to 32 places, the place of a LOCAL page by the words is the one that document 01 gives; all
-- mixtures of empty, taken and locked places, computed.
pub use Rattle.places.proofs.Words.{room-by-words}
pub use Rattle.places.proofs.Mixtures.{mixtures-computed}
-- Whoever sends: each of answers 1 to 4 is due where document 01 says; of a security command 5 and 6, of IN then 0, of a write 11, 12
-- and 0. And a block goes down encrypted, external or clear exactly if nothing stops its write and its set has the mode of that name.
pub use Rattle.due.proofs.Due.{sent-due, in-due, out-due, write-due, write-becomes}
-- The lock doesn't stop reads: two records that differ only in locks and saved numbers answer a read alike, and 11 is never its answer.
pub use Rattle.drive.proofs.Restoring.{lock-free, read-numbers, never-11}
-- A read acts on no set, draws no number, registers nobody and changes nothing but a pending flag of its sender.
pub use Rattle.drive.proofs.Restoring.{read-leaves}
pub use Rattle.history.proofs.NoAction.{read-no-action}
-- Whatever is read: each of the answers 14 to 17, and each block given plain, raw or decrypted, is due where document 02 says.
pub use Rattle.drive.proofs.Restoring.{reads-due}
-- Where a nexus may write, and its set decrypts, a block that its main key opened is given back decrypted, from the same place.
pub use Rattle.drive.proofs.Restoring.{given_back}
-- A set holds a main key exactly where a page with its modes has one; kind times 256 plus key is that kind and key.
pub use Rattle.drive.proofs.Restoring.{holds-as-asked, block-of-both}
-- Document 02's table of reads under each decryption mode, and rows through the calls.
pub use Rattle.drive.proofs.RestoringTable.{disable-decided, raw-decided, decrypt-decided, mixed-decided, restoring, restoring-proved}
-- Document 02, request 2, through the calls.
pub use Rattle.drive.proofs.CeemTable.{ceem, ceem-proved}
-- A row that finds two records the same finds them equal, field by field.
pub use Rattle.drive.proofs.Same.{same-record}
-- A reply's head has the bytes that stand before the data, and tells its number, its sense and how many bytes of data follow.
pub use Rattle.command.proofs.Replies.{head-size, head-number, head-sense, head-length}
-- Every command: its 8 bytes read, and what it orders; every call's reply tells the drive's own answer and record, and its data.
pub use Rattle.command.proofs.Ordered.{command-read, ordered, call-replied, data-replied, status-replied, serves-replied}
-- A batch's data are read back, and its reply tells its verdict, its buffer and its record; one whose events run past its data is unknown.
pub use Rattle.command.proofs.Ordered.{batch-events, batch-pages, batch-replied, batch-past}
-- The stored session of the stream, further commands and records taken and given: what is replied is what is printed there.
pub use Rattle.command.proofs.Worked.{session-proved, further-proved as stream-further-proved, records-proved}
-- Every call of a well-formed record leaves a well-formed record; power-on gives one; so since power-on answer 1 is never due.
pub use Rattle.kept.proofs.Calls.{call_kept}
pub use Rattle.device.proofs.WellFormed.{power-on-well}
pub use Rattle.kept.proofs.Runs.{since-power-on, never-1}
-- Check 1 made beforehand gives every call its answer; whether the record after a call is well formed is known before it, and one that
-- isn't stays as it is until power-on.
pub use Rattle.drive.proofs.Effects.{where-agrees}
pub use Rattle.kept.proofs.Calls.{formed-after, unformed-stays}
-- Document 02, request 7: bit n of a place's word says that nexus n selects this place, and each nexus's bit is in one word; the ones over
-- all places are as many as the nexuses, for any sizes; at power-on place 0 has them all.
pub use Rattle.words.proofs.Words.{bit-selects, in_one, words-total, power-on-words, formed-is, is-formed}
-- The test that check 1 makes of a record with words is the definition.
pub use Rattle.words.proofs.Fitting.{formed-tested}
-- Unit attentions given from the words are the flags of document 01's sentence, and the words are made anew.
pub use Rattle.marks.proofs.ByWords.{same_flags, told-by-words}
-- So every call's record is the one that document 01 gives, with its words, and a record that is not well formed stays as it is; after every
-- call of every sequence each word is what the scopes say, and the ones are as many as the nexuses.
pub use Rattle.drive.proofs.Records.{held_after_lem, held-is}
pub use Rattle.kept.proofs.Records.{formed-answer, formed-after-of, formed-then, unformed-record, words-after, words-since-power-on, ones-since-power-on}
pub use Rattle.session.proofs.Records.{formed-answers, all_append, answers-of-append, answer-of-at}
-- The question is answered by the word, a place above the last by 13, a record that is not well formed by 1.
pub use Rattle.drive.proofs.Serving.{served-told, served-above, served-unformed}
-- Words of records, and each bit of each word turned over.
pub use Rattle.device.proofs.Worked.{new-words, busy-words, turned-words, each-bit-counts}
-- What is found of IN, a write and a read by the sender and the set that it uses alone is its answer, and all that it changes; one that is
-- found to change nothing leaves the record as it is.
pub use Rattle.calls.proofs.Quietly.{quiet-still, in-found, write-found, read_found}
-- What each kind asks of the drive.
pub use Rattle.calls.proofs.Worked.{kind_0, kind_1, kind_2, kind_3, kind-4, kind-5, kind-6, kind-7, kind-8, kind-9, kind-10, kind-11}
-- The call that each kind of event records, over every byte; and the numbers of a session as a whole.
pub use Rattle.recording.proofs.Events.{event-0, event-1, event-2, event-3, event-4, event-5, event-6, event-7, event-8, event-9, event-10, event-11, verdicts-as-printed}
-- Document 02, request 3: every wrong thing in a file, and what is not wrong; what each field of each kind may hold; the calls of a file.
pub use Rattle.recording.proofs.Worked.{files, files-computed, fields, fields-computed, calls-computed}
-- Replay takes a file exactly if it is sound, as document 02 words it.
pub use Rattle.recording.proofs.Exactly.{taken-is-sound, sound-is-taken}
-- A file made of whole events and page bytes, at most 65,535 bytes in all, has them back, and is sound exactly if the events are.
pub use Rattle.recording.proofs.Made.{made-events, made-pages, made-sound, made-calls}
-- Recordings replayed: verdict, each byte of the buffer, and the whole record at the end.
pub use Rattle.session.proofs.Worked.{table as replay-table, worked as replay-proved, four-as-printed}
-- A file that isn't sound is refused with 22, and record and buffer stay; of any other the record at the end is the one that its events
-- give in order, and four bytes are told for each.
pub use Rattle.session.proofs.Replayed.{file-refused, file-taken}
-- The four bytes of each event are the answer that the drive gives it at that point of the session.
pub use Rattle.session.proofs.Replayed.{answer_at}
-- A recording cut after k events, its header put right, is taken, gives the first 4k bytes of the whole, and leaves the record that the
-- first k events leave.
pub use Rattle.session.proofs.Cut.{cut-as-whole}
-- Calls after calls: the record and the answers are those of the first, and then of the others from there; and events after events are
-- calls after calls.
pub use Rattle.recording.proofs.Entries.{calls-append}
pub use Rattle.session.proofs.OneByOne.{run-append, answers-append}
-- Our single action frees "LOCAL there, or ALL for place 0", as document 01 words it.
pub use Rattle.kept.proofs.Freed.{freed-as-worded}
-- A page with SDK 0, LOCAL or ALL, that is done leaves its sender using the set that its bytes ask for.
pub use Rattle.kept.proofs.Sent.{set-as-sent}
-- Since power-on no place holds a set with CEEM 10b or 11b and decryption DISABLE.
pub use Rattle.kept.proofs.Brought.{never-held}
-- Records that agree but for their numbers give the same effect, the same actions and, but for numbers, the same record after.
pub use Rattle.history.proofs.Bare.{same-but-numbers}
-- Before the wrap a nexus is told by number exactly where its place differs or a call acted on it.
pub use Rattle.history.proofs.Bare.{told-by-action}
-- The reading's record is the run's with the numbers left out, and it reads of each call what the call did.
pub use Rattle.history.proofs.Runs.{reading-is-run}
-- Demand 3: a locked nexus has a latest accepted page that was not supplemental, and its write, no earlier refusal due, is answered 11
-- exactly if a later call acted on the place that this page left it using; of the reading without numbers, and of the run itself.
pub use Rattle.history.proofs.Demand.{demand3, demand3-run}
-- There is exactly one latest page.
pub use Rattle.history.proofs.Trails.{latest-is-one, latest-page-is-one}
-- The position of the first call that touched the set.
pub use Rattle.history.proofs.Demand.{first-touch}
-- Two sets never share a number before the wrap.
pub use Rattle.history.proofs.Demand.{numbers_apart}
-- Demand 3 applied to P7, P8 and P9: the first two are stopped, the third passes.
pub use Rattle.history.proofs.Worked.{p7-stopped, p8-stopped, p9-passes}
-- A supplemental key is no action; releasing an empty place is none; an empty place 0 is acted on only by being replaced.
pub use Rattle.history.proofs.NoAction.{supplemental-no-action, empty-release-no-action, default-only-replaced}
-- Calls since power-on draw at most two numbers each beyond the places: no recording comes near the wrap.
pub use Rattle.history.proofs.Draws.{draws-few}
-- Document 02, request 11: 22 for a file that isn't sound, whatever the rate, then 23; nothing is printed of what is refused.
pub use Rattle.claim.proofs.Claiming.{wrong_first, rate-above, claim-taken, nothing-printed, all-printed}
-- Every write event is counted once: the sum of all rows is the number of write events, taken from the file's bytes.
pub use Rattle.claim.proofs.Once.{sum-is-events}
-- It is counted in its own nexus's row; the last row, of nexuses above the drive's, has refused writes alone.
pub use Rattle.claim.proofs.Once.{own_row, row_at, last_row, last-row-of}
-- The totals are the column sums, and count every write once, whatever row it stands in.
pub use Rattle.claim.proofs.Sums.{totals-are, rows-sum}
-- A write is counted as encrypted exactly if the drive, at that point of the session, answered it 0 with decision encrypted: by any calls
-- since power-on, and of every sound file.
pub use Rattle.claim.proofs.Exactly.{counted-at, counted-in-file, encrypted-exactly, claimed-exactly}
-- EXTERNAL and clear are never claimed, nor is a write that is answered with another number than 0.
pub use Rattle.claim.proofs.Exactly.{never-claimed, refused-never-claimed}
-- The text, read line by line and word by word, gives the rows' numbers and counts, the totals and the amount.
pub use Rattle.claim.proofs.Reading.{text-reads, claim-reads}
-- No sum and no amount overflows, and the text has at most 23 bytes a row and 44 for the totals.
pub use Rattle.claim.proofs.Claiming.{claim-fits, amount-most}
pub use Rattle.claim.proofs.Long.{text-few}
-- A recording cut anywhere claims no more, in any row and column; a session whose second part starts with power-on claims what its parts
-- claim.
pub use Rattle.claim.proofs.Parts.{cut-row, cut-totals, cut-amount, cut-claims, parts-add-up}
-- Claims computed: the verdict, and the text to the character.
pub use Rattle.claim.proofs.Worked.{table as claim-table, worked as claims-proved}
-- Document 02, request 5: each of a batch's verdicts 18, 22 and 0 is due where the request says; of a refused batch record and buffer stay.
pub use Rattle.batch.proofs.Due.{batch-due}
pub use Rattle.batch.proofs.Batched.{batch-refused}
-- One that is taken equals the same calls made one by one, in record and answers, from any record, and keeps the bytes beyond: as a whole,
-- event by event, and past the answers.
pub use Rattle.batch.proofs.Batched.{batch-one-by-one, batch-answer-at, batch-beyond}
-- An empty batch changes nothing.
pub use Rattle.batch.proofs.Batched.{empty-batch}
-- Two batches in a row equal one, where 64 and the buffer allow it: with the same page bytes; each with its own, one after the other, and
-- the pages of the later events as much further on; and wherever the one's calls are theirs.
pub use Rattle.batch.proofs.InARow.{batches-join, batches-in-a-row}
pub use Rattle.batch.proofs.Joined.{batches-moved}
-- A batch equals the file made of it, sound or not.
pub use Rattle.batch.proofs.Replays.{batch-as-file, batch-as-session}
-- From a record that isn't well formed each event answers 1 until a power-on, and from there on it goes as since power-on.
pub use Rattle.batch.proofs.Unformed.{unformed-batch, mended-batch}
-- Batches computed: 0, 1, 63, 64 and 65 events with buffers a byte short, just long enough and a byte longer, from a record that is well
-- formed, from one a bit away, and from one whose words alone are a bit away; and each rule.
pub use Rattle.batch.proofs.Worked.{formed-table, unformed-table, mended-table, rules-table, limits-worked, rules-worked, moved-computed}
-- Document 02, request 8: 22 for a file that isn't sound, then 19 for more events than it has, then a reason.
pub use Rattle.why.proofs.Reasons.{why-wrong, why-above, why-taken}
-- The reason is the true one: the write, tried after those events, gives the answer; for 11 the call told is the first after the lock that
-- acted on the place which the lock left the nexus using; for 3 and 4 the call told raised the flag, and it is pending since; the kind and
-- nexus told are those recorded there.
pub use Rattle.why.proofs.Truth.{why-true}
-- The parts of it, of any calls since power-on.
pub use Rattle.why.proofs.Stoppers.{stopper-true, kind-recorded}
pub use Rattle.why.proofs.Raisers.{another-raised, vendor-raised, used-told, unusable-told, never-unformed, above-told, bare-told, modeless-told}
-- What touches the set of a locked nexus is an event that released it, or another nexus's ALL page: never an eviction, never its own page.
pub use Rattle.why.proofs.DeedsStopped.{stopped_by, never-evicted}
-- What raises a flag acted on the place whose set the nexus used; the nexus was registered, and another acted, or nobody.
pub use Rattle.why.proofs.DeedsRaised.{another-touches, vendor-touches}
-- What a call did to a place, told by what the place held before and holds after, is what its actions did there.
pub use Rattle.why.proofs.Deeds.{deed-by-action, acted-some, acted-none}
-- What the code reads, by the numbers of places, is what is defined by actions.
pub use Rattle.why.proofs.Same.{watched-is, cause-found}
-- A power-on starts the reading again; events after those asked for are not read.
pub use Rattle.why.proofs.Parts.{starts-again, later-events-unread}
-- Reasons computed, and their two lines to the character; every text has room.
pub use Rattle.why.proofs.Worked.{table as reason-table, refusals as reason-refusals, worked as reasons-proved}
pub use Rattle.sentence.proofs.Worked.{table-told, modes-told, events-told, others-told, nexuses-recorded}
pub use Rattle.sentence.proofs.Fits.{text-fits}
-- Document 02, request 12: 21 is due where the request says, and nowhere else; then nothing is reported, and no byte of any buffer written.
pub use Rattle.salvage.proofs.Due.{salvage-due, not_saved}
-- The new file: replay takes it; its events are the longest run, from the first and ending by the stored page offset, with which it does; its
-- page bytes are those from the stored page offset to the file's end; its header is right and fits; both headers and the count of dropped events are reported.
pub use Rattle.salvage.proofs.Saved.{saved}
-- A buffer of 65,535 bytes has room for every new file.
pub use Rattle.salvage.proofs.Saving.{written-whole}
-- A sound file comes out byte for byte the same, with nothing reported changed, and where nothing is reported changed the file was sound;
-- salvaging twice is salvaging once.
pub use Rattle.salvage.proofs.Same.{sound-unchanged, unchanged-was-sound, salvaged-twice}
-- Replaying the new file gives the answers that the kept events give, and the record that they leave.
pub use Rattle.salvage.proofs.Replayed.{kept-replayed}
-- The report's lines, cut at their ends and their spaces, have the old and the new numbers and the count.
pub use Rattle.salvage.proofs.Reading.{report-reads}
-- Files salvaged by computing: the verdict, each byte of the buffer, and the report to the character.
pub use Rattle.salvage.proofs.Worked.{table as salvage-table, limits as salvage-limits, table-salvaged, limits-salvaged, most-kept}
