use Rattle.record.specs.Reading.{record_read}
use Rattle.record_16.proofs.device_of.Goals as goal

pub returns : goal.returns
unfolding record_read
returns c = simp (c.sets_of.ensures, c.nexuses_of.ensures, c.number_at.ensures)
