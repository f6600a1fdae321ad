-- A command of the stream on this model: what is lent to it, and what it is replied.
use Rattle.std.specs.Prelude.{ℕ, List, ltb, length, take, drop}
use Rattle.arrays.specs.Base.{when◌then◌else◌}
use Rattle.device.specs.Words.{Worded}
use Rattle.command.specs.Requests.{order_of, lent_size}
use Rattle.command.specs.Replies.{reply_head_size, Replied, unknown_reply, replied}
use Rattle.command.specs.declared.Request.{Request}
use Rattle.command.specs.declared.Order.{Order}
use Rattle.command.specs.declared.Order.TheVariants.{Unknown, Ask, Batch, Serves, ReadStatus, TakeRecord, GiveRecord}
use Rattle.reply_16.specs.Giving.{in_from, reply_most}

-- where the lent buffer stands in the reply's: a batch's just after the reply's head, IN's after "the page's full length (2 ..)" too
abbrev pub batch_from : ℕ
batch_from = reply_head_size

abbrev pub lent_from : Order → ℕ
lent_from Unknown = in_from
lent_from (Ask asked size) = in_from
lent_from (Batch size) = batch_from
lent_from (Serves place) = in_from
lent_from ReadStatus = in_from
lent_from TakeRecord = in_from
lent_from GiveRecord = in_from

abbrev pub part_from : (from size : ℕ) → List ℕ → List ℕ
part_from from size buffer = take size (drop from buffer)

abbrev pub lent_part : Order → List ℕ → List ℕ
lent_part order buffer = part_from (lent_from order) (lent_size order) buffer

-- a buffer that has no room for every reply serves none: the command is answered as an unknown one
unfoldable pub served : Worded → Request → (page buffer : List ℕ) → Replied
served r request page buffer =
    when ltb (length buffer) reply_most then unknown_reply r else replied r request page (lent_part (order_of request) buffer)
