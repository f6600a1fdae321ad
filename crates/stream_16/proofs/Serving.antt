-- A buffer with room for the longest reply is served.
-- Assumes nothing.
use Prim.Native.Nat.{ℕ, ◌+◌, ◌≤◌}
use mathlib.Core.Path.{◌≡◌}
use mathlib.Core.List.{List}
use borrow.Author.Tests.{le-ltb}
use lib.ListN.{length}
use Rattle.device.specs.Words.{Worded}
use Rattle.sizes_16.specs.Sizes.{nexus_count, place_count}
use Rattle.record.specs.Bytes.{record_size}
use Rattle.command.specs.Requests.{order_of}
use Rattle.command.specs.Replies.{replied}
use Rattle.command.specs.declared.Request.{Request}
use Rattle.reply_16.specs.Giving.{reply_most}
use Rattle.stream_16.specs.Stream.{lent_part, served}

-- Room for IN's head of 8 bytes, a lent buffer of 4,096 and a record: then each command is replied to as docs/CONSOLE.md says.
pub is-served : (r : Worded) (request : Request) (page buffer : List ℕ) → 8 + 4096 + record_size nexus_count place_count ≤ length buffer
    → served r request page buffer ≡ replied r request page (lent_part (order_of request) buffer)
unfolding served
is-served r request page buffer h = simp (le-ltb (length buffer) reply_most h)
