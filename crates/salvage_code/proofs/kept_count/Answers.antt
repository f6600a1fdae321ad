use Rattle.salvage.specs.Salvage.{kept_count}
use Rattle.salvage_code.proofs.kept_count.Goals as goal

pub returns : goal.returns
unfolding kept_count
returns c = simp (c.sound_run.ensures, c.events_of.ensures.0, c.pages_of-pages.ensures)
