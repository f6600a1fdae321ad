use Rattle.record.specs.Reading.{set_read}
use Rattle.record_code.proofs.set_read.Goals as goal

pub returns : goal.returns
unfolding set_read
returns c =
    simp (c.fields_read-fields.ensures, c.bytes_at-keys.ensures, c.byte_at.ensures, c.byte_at-2.ensures, c.number_at.ensures, c.byte_at-3.ensures)
