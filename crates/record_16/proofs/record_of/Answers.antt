use Rattle.record.specs.Reading.{record_read}
use Rattle.record_16.proofs.record_of.Goals as goal

pub returns : goal.returns
unfolding record_read
returns c = simp (c.device_of.ensures, c.words_read.ensures)
