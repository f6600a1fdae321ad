-- Document 02, request 3: "Kinds: 0 power-on, 1 SECURITY PROTOCOL IN, 2 OUT, 3 write, 4 logical unit reset, 5 demount, 6 nexus reservation
-- loss, 7 device reservation loss, 8 preempt, 9 microcode, 10 vendor release, 11 read." The stream of docs/CONSOLE.md has them too.
use Rattle.std.specs.Prelude.{ℕ, Bool, ◌&&◌, leb}

abbrev pub in_kind : ℕ
in_kind = 1

abbrev pub out_kind : ℕ
out_kind = 2

abbrev pub write_kind : ℕ
write_kind = 3

abbrev pub unit_reset_kind : ℕ
unit_reset_kind = 4

abbrev pub demount_kind : ℕ
demount_kind = 5

abbrev pub nexus_loss_kind : ℕ
nexus_loss_kind = 6

abbrev pub device_loss_kind : ℕ
device_loss_kind = 7

abbrev pub preempt_kind : ℕ
preempt_kind = 8

abbrev pub microcode_kind : ℕ
microcode_kind = 9

abbrev pub vendor_release_kind : ℕ
vendor_release_kind = 10

abbrev pub read_kind : ℕ
read_kind = 11

-- those of events that may release sets
abbrev pub is_event : ℕ → Bool
is_event kind = leb demount_kind kind && leb kind vendor_release_kind

-- those of calls
abbrev pub is_call : ℕ → Bool
is_call kind = leb kind read_kind
