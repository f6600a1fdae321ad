use Rattle.drive.specs.Checks.{checks, known_answer}
use Rattle.drive.specs.Effects.{effect_by}
use Rattle.drive.specs.After.{changed_by}
use Rattle.drive.specs.Records.{held_after}
use Rattle.drive_16.specs.Outcomes.{outcome_by}
use Rattle.drive_16.proofs.unit_reset_known.Goals as goal

pub returns : goal.returns
unfolding outcome_by known_answer checks effect_by held_after changed_by
returns c = simp c.clear.ensures
