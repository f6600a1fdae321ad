use lib.ListN.{length}
use Rattle.kad_code.proofs.+read_from.Given as goal

abbrev pub decreases-read_from : goal.decreases-read_from
decreases-read_from l = length l.list.now
