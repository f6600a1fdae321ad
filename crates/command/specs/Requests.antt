-- docs/CONSOLE.md, "Command: 8 bytes, then data": what the bytes tell, and what a command orders.
use Rattle.std.specs.Prelude.{ℕ, ◌+◌, Bool, not, ◌&&◌, ◌||◌, List, leb, eqb, length, take, drop}
use Rattle.arrays.specs.Base.{when◌then◌else◌}
use Rattle.wire.specs.Numbers.{byte_at, word_at}
use Rattle.calls.specs.Kinds.{in_kind, write_kind, is_call}
use Rattle.calls.specs.Asking.{flag_most, asked_of}
use Rattle.calls.specs.declared.Asked.{Asked}
use Rattle.command.specs.Kinds.{batch_kind, serves_kind, read_status_kind, take_record_kind, give_record_kind}
use Rattle.command.specs.declared.Request.{Request}
use Rattle.command.specs.declared.Order.{Order}
use Rattle.command.specs.declared.Order.TheVariants.{Unknown, Ask, Batch, Serves, ReadStatus, TakeRecord, GiveRecord}

-- "0 kind; 1 nexus; 2–3 argument; 4 protocol; 5 port: not read; 6–7 length L"
abbrev pub request_of : List ℕ → Request
request_of bytes = record {
  kind = byte_at bytes 0;
  nexus = byte_at bytes 1;
  argument = word_at bytes 2;
  protocol = byte_at bytes 4;
  length = word_at bytes 6;
}

-- the call that a command of one of the drive's kinds asks for
abbrev pub request_asked : Request → Asked
request_asked r = asked_of r.kind r.nexus r.argument r.protocol

-- IN, batch: "size of the lent buffer, at most 4,096"
abbrev pub lent_most : ℕ
lent_most = 4096

-- IN's is L; no other call has one
abbrev pub lent_to : Request → ℕ
lent_to r = when eqb r.kind in_kind then r.length else 0

-- write: "1 where the volume supports algorithm 1, else 0"; "a flag is never guessed"
abbrev pub flag_known : Request → Bool
flag_known r = not (eqb r.kind write_kind) || leb r.argument flag_most

-- "an IN with L above 4,096, a write with an argument above 1"
unfoldable pub call_order : Request → Order
call_order r = when leb (lent_to r) lent_most && flag_known r then Ask (request_asked r) (lent_to r) else Unknown

-- batch: its buffer's size is the argument
abbrev pub batch_order : Request → Order
batch_order r = when leb r.argument lent_most then Batch r.argument else Unknown

-- a kind that is no call of the drive's
unfoldable pub tool_order : Request → Order
tool_order r =
    when eqb r.kind batch_kind then batch_order r
    else when eqb r.kind serves_kind then Serves r.argument
    else when eqb r.kind read_status_kind then ReadStatus
    else when eqb r.kind take_record_kind then TakeRecord
    else when eqb r.kind give_record_kind then GiveRecord
    else Unknown

-- "An unknown command is one of a kind not in the table (14 to 252), .."
unfoldable pub order_of : Request → Order
order_of r = when is_call r.kind then call_order r else tool_order r

-- the size of the buffer that is lent to it
abbrev pub lent_size : Order → ℕ
lent_size Unknown = 0
lent_size (Ask asked size) = size
lent_size (Batch size) = size
lent_size (Serves place) = 0
lent_size ReadStatus = 0
lent_size TakeRecord = 0
lent_size GiveRecord = 0

-- ---- a batch's data: "2 bytes E, then E bytes of events, the rest page bytes"

abbrev pub batch_events : (bytes : List ℕ) → List ℕ
batch_events bytes = take (word_at bytes 0) (drop 2 bytes)

abbrev pub batch_pages : (bytes : List ℕ) → List ℕ
batch_pages bytes = drop (2 + word_at bytes 0) bytes

-- not "where E runs past the data"
abbrev pub holds_events : (bytes : List ℕ) → Bool
holds_events bytes = leb (2 + word_at bytes 0) (length bytes)
