-- Every public function's promise settles its answer.
use Prim.Native.Nat.{ℕ}
use mathlib.Core.List.{List}
use Rattle.settled.specs.Settles.{SettlesAnswer, SettlesPart, same}
use Rattle.recording_code.proofs.verdict_number.Reads as verdict-number
use Rattle.recording_code.proofs.verdict_number.Kinds as verdict-number-kinds
use Rattle.recording_code.proofs.entry_of.Reads as entry_of
use Rattle.recording_code.proofs.entry_of.Kinds as entry-of-kinds
use Rattle.recording_code.proofs.sound_run.Reads as sound-run
use Rattle.recording_code.proofs.sound_run.Kinds as sound-run-kinds
use Rattle.recording_code.proofs.asked_of.Reads as asked_of
use Rattle.recording_code.proofs.asked_of.Kinds as asked-of-kinds
use Rattle.recording_code.proofs.page_of.Reads as page-of
use Rattle.recording_code.proofs.page_of.Kinds as page-of-kinds
use Rattle.recording_code.proofs.header_of.Reads as header_of
use Rattle.recording_code.proofs.header_of.Kinds as header-of-kinds
use Rattle.recording_code.proofs.header_bytes.Reads as header-bytes
use Rattle.recording_code.proofs.header_bytes.Kinds as header-bytes-kinds
use Rattle.recording_code.proofs.events_of.Reads as events-of
use Rattle.recording_code.proofs.events_of.Kinds as events-of-kinds
use Rattle.recording_code.proofs.pages_of.Reads as pages-of
use Rattle.recording_code.proofs.pages_of.Kinds as pages-of-kinds
use Rattle.recording_code.proofs.is_sound_file.Reads as is-sound-file
use Rattle.recording_code.proofs.is_sound_file.Kinds as is-sound-file-kinds

pub verdict-number-settles : SettlesAnswer 0 verdict-number-kinds.ps verdict-number-kinds.r verdict-number.Post
verdict-number-settles κs a x y s t p q = same p q

pub entry-of-settles : SettlesAnswer 1 entry-of-kinds.ps entry-of-kinds.r entry_of.Post
entry-of-settles κs a x y s t p q = same p q

pub sound-run-settles : SettlesAnswer 1 sound-run-kinds.ps sound-run-kinds.r sound-run.Post
sound-run-settles κs a x y s t p q = same p q

pub asked-of-settles : SettlesAnswer 0 asked-of-kinds.ps asked-of-kinds.r asked_of.Post
asked-of-settles κs a x y s t p q = same p q

pub page-of-settles : SettlesPart 1 page-of-kinds.ps page-of-kinds.r (List ℕ) (λ κs x. x.now) page-of.Post
page-of-settles κs a x y s t p q = same p q

pub header-of-settles : SettlesAnswer 1 header-of-kinds.ps header-of-kinds.r header_of.Post
header-of-settles κs a x y s t p q = same p q

pub header-bytes-settles : SettlesAnswer 0 header-bytes-kinds.ps header-bytes-kinds.r header-bytes.Post
header-bytes-settles κs a x y s t p q = same p q

pub events-of-settles : SettlesPart 1 events-of-kinds.ps events-of-kinds.r (List ℕ) (λ κs x. x.now) events-of.Post
events-of-settles κs a x y s t p q = same p.0 q.0

pub pages-of-settles : SettlesPart 1 pages-of-kinds.ps pages-of-kinds.r (List ℕ) (λ κs x. x.now) pages-of.Post
pages-of-settles κs a x y s t p q = same p q

pub is-sound-file-settles : SettlesAnswer 1 is-sound-file-kinds.ps is-sound-file-kinds.r is-sound-file.Post
is-sound-file-settles κs a x y s t p q = same p q
