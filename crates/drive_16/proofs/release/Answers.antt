use Rattle.drive.specs.After.{changed_by}
use Rattle.drive_16.proofs.release.Goals as goal

pub returns : goal.returns
unfolding changed_by
returns c = simp (c.tell.ensures, c.actor_of.ensures, c.release_by-released.ensures)
