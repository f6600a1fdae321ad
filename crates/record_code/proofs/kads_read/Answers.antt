use Rattle.record.specs.Reading.{kads_read}
use Rattle.record_code.proofs.kads_read.Goals as goal

pub returns : goal.returns
unfolding kads_read
returns c = simp (c.bytes_at-u.ensures, c.bytes_at-a.ensures, c.byte_at.ensures, c.byte_at-2.ensures)
