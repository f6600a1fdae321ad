-- A reply as this model gives it: the record after the command and the reply's head as a value, its data in the lent buffer.
use Rattle.std.specs.Prelude.{ℕ, ◌+◌, ◌≤◌, ◌≡◌, List, length}
use Rattle.std.proofs.lemmas.List.Edits.{sets}
use Rattle.answer.specs.Answers.{number_of, sense_of}
use Rattle.answer.specs.declared.Answer.{Answer}
use Rattle.record.specs.Bytes.{record_size}
use Rattle.sizes_16.specs.Sizes.{nexus_count, place_count}
use Rattle.device_16.specs.Model.{record_of}
use Rattle.device_16.specs.declared.Record.{Record}
use Rattle.command.specs.Requests.{lent_most}
use Rattle.command.specs.Replies.{reply_head_size, Replied}
use Rattle.reply_16.specs.declared.Reply.{Reply}

-- IN: "the page's full length (2 ..), then the lent buffer whole"
abbrev pub in_from : ℕ
in_from = reply_head_size + 2

-- room for every reply: IN's with the largest lent buffer, and the record's
abbrev pub reply_most : ℕ
reply_most = in_from + lent_most + record_size nexus_count place_count

abbrev pub reply_of : Replied → Reply
reply_of x = record { after = record_of x.after; number = x.number; sense = x.sense; length = length x.bytes }

-- a reply with that answer and so many bytes of data
abbrev pub reply_with : Record → Answer → ℕ → Reply
reply_with after a count = record { after = after; number = number_of a; sense = sense_of a; length = count }

-- a reply is given: as a value, and by its data in the buffer after its head; bytes beyond stay, and there is room for all
pub record Given (x : Replied) (buffer : List ℕ) (r : Reply) (after : List ℕ) : Type 0 where
  pub tells : r ≡ reply_of x
  pub holds : after ≡ sets buffer reply_head_size x.bytes
  pub fits : reply_head_size + length x.bytes ≤ reply_most
