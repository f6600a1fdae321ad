-- docs/CONSOLE.md: the kinds of a command that are no calls of the drive's. Those of calls are crate calls'.
use Rattle.std.specs.Prelude.{ℕ, Bool, ◌||◌, eqb}
use Rattle.calls.specs.Kinds.{out_kind}

abbrev pub batch_kind : ℕ
batch_kind = 12

abbrev pub serves_kind : ℕ
serves_kind = 13

abbrev pub read_status_kind : ℕ
read_status_kind = 253

abbrev pub take_record_kind : ℕ
take_record_kind = 254

abbrev pub give_record_kind : ℕ
give_record_kind = 255

-- "L bytes of data, for kinds 2, 12, 253 and 254 alone"
abbrev pub has_data : ℕ → Bool
has_data kind = eqb kind out_kind || eqb kind batch_kind || eqb kind read_status_kind || eqb kind take_record_kind
