use Rattle.record.specs.Reading.{fields_read}
use Rattle.record_code.proofs.fields_read.Goals as goal

pub returns : goal.returns
unfolding fields_read
returns c =
    simp (c.bytes_at-key.ensures, c.kads_read-kads.ensures, c.rest.ensures, c.byte_at.ensures, c.byte_at-2.ensures, c.byte_at-3.ensures, c.byte_at-4.ensures, c.flag_at.ensures, c.flag_at-2.ensures, c.flag_at-3.ensures, c.flag_at-4.ensures)
