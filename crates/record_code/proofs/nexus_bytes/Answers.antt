use Rattle.record.specs.Bytes.{nexus_bytes}
use Rattle.record_code.proofs.nexus_bytes.Goals as goal

pub returns : goal.returns
unfolding nexus_bytes
returns c = simp (c.four-saved.ensures, c.four-last_local.ensures)
