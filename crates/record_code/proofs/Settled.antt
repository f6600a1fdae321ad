-- Every public function's promise settles its answer.
use Rattle.settled.specs.Settles.{SettlesAnswer, same}
use Rattle.record_code.proofs.kads_bytes.Reads as kads-bytes
use Rattle.record_code.proofs.kads_bytes.Kinds as kads-bytes-kinds
use Rattle.record_code.proofs.set_bytes.Reads as set-bytes
use Rattle.record_code.proofs.set_bytes.Kinds as set-bytes-kinds
use Rattle.record_code.proofs.nexus_bytes.Reads as nexus-bytes
use Rattle.record_code.proofs.nexus_bytes.Kinds as nexus-bytes-kinds
use Rattle.record_code.proofs.kads_read.Reads as kads-read
use Rattle.record_code.proofs.kads_read.Kinds as kads-read-kinds
use Rattle.record_code.proofs.set_read.Reads as set-read
use Rattle.record_code.proofs.set_read.Kinds as set-read-kinds
use Rattle.record_code.proofs.nexus_read.Reads as nexus-read
use Rattle.record_code.proofs.nexus_read.Kinds as nexus-read-kinds
use Rattle.record_code.proofs.set_at.Reads as set_at
use Rattle.record_code.proofs.set_at.Kinds as set-at-kinds
use Rattle.record_code.proofs.nexus_at.Reads as nexus-at
use Rattle.record_code.proofs.nexus_at.Kinds as nexus-at-kinds
use Rattle.record_code.proofs.word_at.Reads as word_at
use Rattle.record_code.proofs.word_at.Kinds as word-at-kinds

pub kads-bytes-settles : SettlesAnswer 0 kads-bytes-kinds.ps kads-bytes-kinds.r kads-bytes.Post
kads-bytes-settles κs a x y s t p q = same p q

pub set-bytes-settles : SettlesAnswer 0 set-bytes-kinds.ps set-bytes-kinds.r set-bytes.Post
set-bytes-settles κs a x y s t p q = same p q

pub nexus-bytes-settles : SettlesAnswer 0 nexus-bytes-kinds.ps nexus-bytes-kinds.r nexus-bytes.Post
nexus-bytes-settles κs a x y s t p q = same p q

pub kads-read-settles : SettlesAnswer 1 kads-read-kinds.ps kads-read-kinds.r kads-read.Post
kads-read-settles κs a x y s t p q = same p q

pub set-read-settles : SettlesAnswer 1 set-read-kinds.ps set-read-kinds.r set-read.Post
set-read-settles κs a x y s t p q = same p q

pub nexus-read-settles : SettlesAnswer 1 nexus-read-kinds.ps nexus-read-kinds.r nexus-read.Post
nexus-read-settles κs a x y s t p q = same p q

pub set-at-settles : SettlesAnswer 1 set-at-kinds.ps set-at-kinds.r set_at.Post
set-at-settles κs a x y s t p q = same p q

pub nexus-at-settles : SettlesAnswer 1 nexus-at-kinds.ps nexus-at-kinds.r nexus-at.Post
nexus-at-settles κs a x y s t p q = same p q

pub word-at-settles : SettlesAnswer 1 word-at-kinds.ps word-at-kinds.r word_at.Post
word-at-settles κs a x y s t p q = same p q
