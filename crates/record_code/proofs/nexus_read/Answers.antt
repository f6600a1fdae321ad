use Rattle.record.specs.Reading.{nexus_read}
use Rattle.record_code.proofs.nexus_read.Goals as goal

pub returns : goal.returns
unfolding nexus_read
returns c =
    simp (c.byte_at.ensures, c.flag_at.ensures, c.number_at.ensures, c.number_at-2.ensures, c.flag_at-2.ensures, c.flag_at-3.ensures, c.flag_at-4.ensures)
