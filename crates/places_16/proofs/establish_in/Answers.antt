use Rattle.places.specs.Actions.{acts}
use Rattle.places_16.proofs.establish_in.Goals as goal

pub returns-in-Free : goal.returns-in-Free
unfolding acts
returns-in-Free c = simp (c.establish.ensures, c.in-Free.is)

pub returns-in-Evicting : goal.returns-in-Evicting
unfolding acts
returns-in-Evicting c = simp (c.establish-in-Evicting.ensures, c.release.ensures, c.in-Evicting.is)

pub returns-in-NoRoom : goal.returns-in-NoRoom
unfolding acts
returns-in-NoRoom c = simp c.in-NoRoom.is
